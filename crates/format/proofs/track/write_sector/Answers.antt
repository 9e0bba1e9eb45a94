-- `write_sector` meets its contract: the mark and the slot are there, and identifier and block, one behind the other, fill the stretch.
use Prim.Native.Nat.{ℕ, ◌+◌, ◌-◌, ◌*◌, ◌≤◌}
use mathlib.Core.List.{List}
use native.Mathlib.Omega.{arith}
use lib.ListN.{length}
use Rattle.layouts.specs.Layouts.{sector_fields}
use Rattle.cells.proofs.Stores.{part_length}
use Rattle.layouts.specs.declared.Layout.{Layout}
use Rattle.format.specs.Order.{Numbered}
use Rattle.format.specs.Aids.{Filled}
use Rattle.format.proofs.Parts.{slotted}
use Rattle.format.proofs.Writing.{mark_some}
use Rattle.format.proofs.Fields.{sector_stored}
use Rattle.format.proofs.track.write_sector.Goals as goal

-- The slot lies within the contents.
room : (l : Layout) (contents marks : List ℕ) (s : ℕ) → Filled l contents marks → Numbered l s → (s - 1) * l.size + l.size ≤ length contents
room l contents marks s f n = slotted l.sectors l.size contents f.slots s n.0 n.1

pub overflow_mul-from : goal.overflow_mul-from
overflow_mul-from c =
    omega (arith, room _ _ _ _ c.requires.1 c.requires.2, c.well_formed)

pub overflow_add-to : goal.overflow_add-to
overflow_add-to c =
    omega (arith, room _ _ _ _ c.requires.1 c.requires.2, c.well_formed)

pub write_front-address_at-requires : goal.write_front-address_at-requires
unfolding sector_fields
write_front-address_at-requires c = omega (arith, c.requires.3)

pub write_body-block_at-requires : goal.write_body-block_at-requires
unfolding sector_fields
write_body-block_at-requires c =
    omega (arith, c.requires.3, c.write_front-address_at.ensures.behind, c.write_front-address_at.auto.area)

pub write_front-data_at-requires : goal.write_front-data_at-requires
unfolding sector_fields
write_front-data_at-requires c =
    omega (
      arith,
      mark_some c.args.track.layout.mode,
      c.requires.3,
      c.requires.0.size,
      c.write_front-address_at.ensures.behind,
      c.write_front-address_at.auto.area,
      c.write_body-block_at.ensures.behind,
      c.write_body-block_at.auto.area,
    )

pub slice_bounds-write_body-end : goal.slice_bounds-write_body-end
slice_bounds-write_body-end c =
    omega (arith, room _ _ _ _ c.requires.1 c.requires.2)

pub write_body-requires : goal.write_body-requires
unfolding sector_fields
write_body-requires c =
    let l = c.args.track.layout in
    omega (
      arith,
      part_length c.args.contents.now ((c.args.number - 1) * l.size) l.size (room _ _ _ _ c.requires.1 c.requires.2),
      c.requires.3,
      c.write_front-address_at.ensures.behind,
      c.write_front-address_at.auto.area,
      c.write_body-block_at.ensures.behind,
      c.write_body-block_at.auto.area,
      c.write_front-data_at.ensures.behind,
      c.write_front-data_at.auto.area,
    )

pub returns : goal.returns
returns c =
    let a = c.args in
    sector_stored a.track a.contents.now a.marks.now a.number _ a.stretch.now _ _ _ c.requires.3 c.requires.1.slots c.requires.2
    c.requires.0.gaps.identifier_gap c.mark_of-mark.ensures c.write_front-address_at.ensures.written c.write_front-address_at.ensures.behind
    c.write_body-block_at.ensures.written c.write_body-block_at.ensures.behind c.write_front-data_at.ensures.written c.write_front-data_at.ensures.behind c.write_body.ensures.written
