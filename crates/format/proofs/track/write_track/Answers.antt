-- `write_track` meets its contract: what is left to write from the i-th number of the order on ends where the whole track does.
use Prim.Native.Nat.{ℕ, ◌+◌, ◌-◌, ◌*◌, ◌<◌}
use mathlib.Core.Path.{◌≡◌, refl, ap, ◌∙◌}
use native.Mathlib.Omega.{arith}
use lib.ListN.{length}
use borrow.Rule.Slice.PartMut.{same_len_mid}
use Rattle.cells.proofs.Stores.{part_length}
use Rattle.format.proofs.Parts.{number_at}
use Rattle.format.proofs.Turns.{left_step, left_none, fields_whole, fields_room, sector_room, sectors_turn, track_done}
use Rattle.format.proofs.track.write_track.Goals as goal

-- What a turn has left: the stretch lies within the image.
left : (n i w gap start long whole : ℕ) → i < n → long ≡ whole → start + ((n - i) * w + 2 * gap) ≡ whole
    → start + w + ((n - (i + 1)) * w + 2 * gap) ≡ long
left n i w gap start long whole h e f = omega (arith, left_step n i w h, e, f)

pub sector_fields-stretch-requires : goal.sector_fields-stretch-requires
sector_fields-stretch-requires c =
    omega (arith, c.requires.writable.2, fields_room c.args.track.layout c.requires.writable.0.sectors, c.well_formed)

pub overflow_mul-stretch : goal.overflow_mul-stretch
overflow_mul-stretch c =
    omega (arith, c.requires.writable.2, fields_room c.args.track.layout c.requires.writable.0.sectors, c.well_formed, c.sector_fields-stretch.ensures)

pub write_leader-start-requires : goal.write_leader-start-requires
write_leader-start-requires c =
    (omega (arith, c.requires.writable.2, fields_room c.args.track.layout c.requires.writable.0.sectors, sector_room c.args.track.layout), c.requires.writable.0.gaps.lead)

pub loop-number-init : goal.loop-number-init
loop-number-init c =
    let whole = fields_whole c.args.track.layout in (
      refl,
      rw (c.requires.order_len.0, c.sector_fields-stretch.ensures) (omega (arith, whole, c.write_leader-start.ensures.behind, c.requires.writable.2, c.write_leader-start.auto.image)),
      refl,
    )

pub overflow_add-end : goal.overflow_add-end
overflow_add-end c = omega (arith, left _ _ _ _ _ _ _ c.loop-number-test.true c.loop-number.invariant.0 c.loop-number.invariant.1)

pub slice_bounds-write_sector-start : goal.slice_bounds-write_sector-start
slice_bounds-write_sector-start c = omega (arith, left _ _ _ _ _ _ _ c.loop-number-test.true c.loop-number.invariant.0 c.loop-number.invariant.1)

pub slice_bounds-write_sector-end : goal.slice_bounds-write_sector-end
slice_bounds-write_sector-end c = omega (arith, left _ _ _ _ _ _ _ c.loop-number-test.true c.loop-number.invariant.0 c.loop-number.invariant.1)

pub write_sector-requires : goal.write_sector-requires
write_sector-requires c =
    let w = 2 * c.sector_fields-stretch.result in
    let long = part_length c.loop-number.image c.loop-number.start w (omega (arith, left _ _ _ _ _ _ _ c.loop-number-test.true c.loop-number.invariant.0 c.loop-number.invariant.1)) in
    let number = number_at c.args.track.layout c.args.order.now c.loop-number.number-index c.requires.order_len.1 c.loop-number-test.true in
    (c.requires.writable.0, c.requires.writable.1, number, long ∙ ap (λ (x : ℕ). 2 * x) c.sector_fields-stretch.ensures)

pub loop-number-preserved : goal.loop-number-preserved
loop-number-preserved c =
    let width = 2 * c.sector_fields-stretch.result in
    let inv = c.loop-number.invariant in
    let rest = left _ _ _ _ _ _ _ c.loop-number-test.true inv.0 inv.1 in (
      same_len_mid c.loop-number.start (c.loop-number.start + width - c.loop-number.start) c.loop-number.image c.write_sector.new.stretch c.write_sector.auto.stretch ∙ inv.0,
      omega (arith, rest, inv.0),
      inv.2
          ∙ sectors_turn c.args.track c.args.contents.now c.args.marks.now c.args.order.now c.requires.writable.1.slots c.requires.order_len.1 _ _ _ _ c.loop-number.number-index
          c.loop-number-test.true (ap (λ (x : ℕ). 2 * x) c.sector_fields-stretch.ensures) (omega (arith, rest)) c.write_sector.ensures,
    )

pub write_run-requires : goal.write_run-requires
write_run-requires c =
    omega (arith, left_none (length c.args.order.now) c.loop-number.number-index (2 * c.sector_fields-stretch.result) c.loop-number-test.false, c.loop-number.invariant.0, c.loop-number.invariant.1)

pub shape_of-image : goal.shape_of-image
shape_of-image c =
    c.write_run.auto.area ∙ c.loop-number.invariant.0 ∙ c.write_leader-start.auto.image

pub returns : goal.returns
returns c =
    let a = c.args in
    track_done a.track a.contents.now a.marks.now a.order.now c.requires.writable.1.slots c.requires.order_len.1 a.image.now _ c.loop-number.image _ _ c.loop-number.start _ c.loop-number.number-index
    c.requires.writable.0.gaps c.requires.writable.2 c.requires.order_len.0 c.loop-number-test.false c.gap_byte-gap.ensures
    c.write_leader-start.ensures.written c.write_leader-start.ensures.behind c.loop-number.invariant.2 c.write_run.ensures.written
