-- `address_at` meets its contract: the bytes enter the register as they are read, and each is read after the last bit of the one before.
use native.Mathlib.Nat.{add-zero}
use Rattle.cells.specs.Cells.{cell}
use Rattle.cells.proofs.Joined.{cell_lt}
use Rattle.marks.specs.declared.Mark.TheVariants.{Identifier}
use Rattle.walk.proofs.Addresses.{six_entered, six_clocks}
use Rattle.walk.proofs.rounds.address_at.Goals as goal

pub returns : goal.returns
returns c =
    let a = c.args in
    let x1 = rw add-zero at c.byte-cylinder.ensures.0 in
    let x2 = c.byte-side.ensures.0 in
    let x3 = c.byte-sector.ensures.0 in
    let x4 = c.byte-fourth.ensures.0 in
    let x5 = c.byte-upper.ensures.0 in
    let x6 = c.byte-lower.ensures.0 in
    let r1 = c.byte_entered-one.ensures in
    let r2 = c.byte_entered-two.ensures in
    let r3 = c.byte_entered-three.ensures in
    let r4 = c.byte_entered-four.ensures in
    let r5 = c.byte_entered-five.ensures in
    let r6 = c.byte_entered.ensures in (
      rw x1,
      rw x2,
      rw x3,
      rw x4,
      six_entered a.mode Identifier (cell a.image.bytes.now) _ a.place _ _ _ _ _ _ x1 x2 x3 x4 x5 x6 _ _ _ _ _ _ _
          c.register_after-start.ensures r1 r2 r3 r4 r5 r6,
      six_clocks a.mode Identifier (cell a.image.bytes.now) _ a.place _ _ _ _ _ _ x1 x2 x3 x4 x5 x6 c.last_bit.ensures
          (cell_lt a.image.bytes.now),
    )
