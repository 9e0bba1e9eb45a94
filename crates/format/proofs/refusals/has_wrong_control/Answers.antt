-- `has_wrong_control` meets its contract: the sectors that are left tell what all tell.
use Prim.Native.Nat.{ℕ, ◌+◌, ◌<◌}
use mathlib.Core.Path.{ap, ◌∙◌}
use native.Mathlib.Omega.{arith}
use Rattle.format.proofs.Judged.{one_told, number_miss, control_at}
use Rattle.format.proofs.Turns.{left_step, next}
use Rattle.format.proofs.refusals.has_wrong_control.Goals as goal

pub loop-mark-preserved : goal.loop-mark-preserved
loop-mark-preserved c =
    let l = c.loop-mark in
    let a = c.args in
    let within : l.mark-index < a.layout.sectors = omega (arith, c.loop-mark-test.true, c.requires) in (
      omega (arith, within),
      ap (λ (x : ℕ). x + a.layout.size) l.invariant.1 ∙ next l.mark-index a.layout.size,
      omega (arith, left_step a.layout.sectors l.mark-index a.layout.size within, l.invariant),
      l.invariant.3
          ∙ number_miss _ _ l.mark-index within
          (control_at a.cylinder a.layout.size a.contents.now a.marks.now l.mark-index l.from _ l.invariant.1
          (one_told _ _ c.control_record.ensures c.if-is_err.ensures.value)),
    )
