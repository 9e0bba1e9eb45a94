-- `has_wrong_control` meets its contract: the sectors that are left tell what all tell.
use Prim.Native.Nat.{◌+◌, ◌-◌, ◌*◌, ◌≤◌}
use mathlib.Core.Path.{◌≡◌}
use lib.ListN.{length, get_or}
use Rattle.layouts.specs.Layouts.{numbers}
use Rattle.calls.specs.Refusals.{control_test}
use Rattle.format.specs.Refusals.{some, controls_test}
use Rattle.format.proofs.refusals.has_wrong_control.Given as goal

abbrev pub invariant-loop-mark : goal.invariant-loop-mark
invariant-loop-mark l =
    (l.mark-index ≤ l.layout.sectors) × (l.from ≡ l.mark-index * l.layout.size)
    × (l.from + (l.layout.sectors - l.mark-index) * l.layout.size ≡ length l.contents)
    × ((controls_test l.layout l.cylinder l.contents l.marks).applies
    ≡ some (λ s. (control_test l.cylinder (get_or l.marks (s - 1) 0) (get_or l.contents ((s - 1) * l.layout.size) 0)).applies) (numbers (l.layout.sectors - l.mark-index) (l.mark-index + 1)))
