-- `write_checked` meets its contract: what is left to code ends where the whole does.
use mathlib.Core.Path.{refl, ◌∙◌}
use native.Mathlib.Nat.{add-zero}
use native.Mathlib.Omega.{arith}
use Rattle.format.proofs.Writing.{bytes_turn, checked_done}
use Rattle.format.proofs.write.write_checked.Goals as goal

pub loop-byte-init : goal.loop-byte-init
loop-byte-init c = (rw add-zero, refl, rw add-zero)

pub loop-byte-preserved : goal.loop-byte-preserved
loop-byte-preserved c = (
  omega (arith, c.loop-byte.invariant.0),
  c.write_pair.auto.area ∙ c.loop-byte.invariant.1,
  c.loop-byte.invariant.2 ∙ bytes_turn _ _ _ _ _ _ _ _ _ c.loop-byte-test.true (rw c.loop-byte.invariant.0 at c.write_pair.ensures) c.coded.ensures,
)

pub returns : goal.returns
returns c =
    let a = c.args in
    let inv = c.loop-byte.invariant in
    let both =
    checked_done a.mode a.mark a.contents.now a.area.now c.loop-byte.area a.at c.loop-byte.byte-index c.last_bit-last.result c.loop-byte.last
    c.register_after.result c.bytes_entered-register.result c.last_bit-last.ensures c.register_after.ensures
    c.bytes_entered-register.ensures inv.2 c.loop-byte-test.false
    _ _ _ _ (rw inv.0 at c.write_pair-2.ensures) c.coded-2.ensures (rw inv.0 at c.write_pair-3.ensures) c.coded-3.ensures in
    record { written = both.0; bit = both.1 }
