-- How the formatter's loop over the sectors goes on, and where it ends.
use mathlib.Core.Path.{◌≡◌, sym, ap, ◌∙◌}
use mathlib.Core.List.{List, [], ◌++◌}
use Prim.Native.Nat.{ℕ, suc, ◌+◌, ◌-◌, ◌*◌, ◌%◌, ◌<◌, ◌≤◌}
use native.Mathlib.Nat.{suc-mul, add_comm, sub-zero, mul_left_comm}
use native.Mathlib.Numerals.{add-one}
use native.Mathlib.Omega.{arith}
use borrow.Rule.Slice.PartMut.{put_mid}
use lib.ListN.{length, get_or, drop, drop_of_length-le}
use lib.Seq.{sets, drop-cons}
use Rattle.marks.specs.Marks.{mark_bytes}
use Rattle.layouts.specs.Layouts.{gap_byte, fields, sector_fields, Every}
use Rattle.layouts.specs.declared.Layout.{Layout}
use Rattle.layouts.specs.declared.Track.{Track}
use Rattle.format.specs.Order.{image, run, Numbered, formatted}
use Rattle.format.proofs.Parts.{number_at, slotted, slots, length_leader, length_stretch, stretches, track_parts, length_fields}
use Rattle.format.specs.Aids.{Spaced, leader, stretch}
use Rattle.cells.proofs.Stores.{sets_append, sets_whole, part_put}

-- What is left of n fields of w bytes, one turn on.
pub left_step : (n i w : ℕ) → i < n → (n - i) * w ≡ w + (n - (i + 1)) * w
left_step n i w h =
    let e : n - i ≡ suc (n - (i + 1)) = omega arith in
    ap (λ (k : ℕ). k * w) e ∙ suc-mul (n - (i + 1)) w ∙ add_comm ((n - (i + 1)) * w) w

pub left_none : (n i w : ℕ) → n ≤ i → (n - i) * w ≡ 0
left_none n i w h =
    let e : n - i ≡ 0 = omega arith in
    rw e (omega arith)

-- The next multiple.
pub next : (i w : ℕ) → i * w + w ≡ (i + 1) * w
next i w = rw (add-one i) (sym (suc-mul i w))

-- The track is the leader, the sectors and the track gap, in image bytes.
pub fields_whole : (l : Layout)
    → 2 * fields l ≡ 2 * (l.lead + l.sync + mark_bytes l.mode + l.index_gap) + ((l.sectors - 0) * (2 * sector_fields l) + 2 * l.track_gap)
unfolding fields
fields_whole l = rw (sub-zero, mul_left_comm l.sectors 2 (sector_fields l)) (omega arith)

-- With one sector at least there is room behind the leader, and for a sector.
pub fields_room : (l : Layout) → 1 ≤ l.sectors → l.lead + l.sync + mark_bytes l.mode + l.index_gap + sector_fields l ≤ fields l
unfolding fields
fields_room l h = omega (arith, left_step l.sectors 0 (sector_fields l) h, ap (λ (k : ℕ). k * sector_fields l) (sub-zero l.sectors))

pub sector_room : (l : Layout) → 8 ≤ sector_fields l
unfolding sector_fields
sector_room l = omega arith

module _ (t : Track) (contents marks order : List ℕ) (long : length contents ≡ t.layout.sectors * t.layout.size)
    (numbered : Every (Numbered t.layout) order) where
  -- One sector is written into its stretch, and the others are to come.
  pub sectors_turn : (area part : List ℕ) (start width i : ℕ) → i < length order → width ≡ 2 * sector_fields t.layout → start + width ≤ length area
      → part ≡ stretch t contents marks (get_or order i 0)
      → sets area start (stretches t contents marks (drop i order))
      ≡ sets (put_mid start (start + width - start) area part) (start + width) (stretches t contents marks (drop (i + 1) order))
  unfolding stretches
  sectors_turn area part start width i below w room p =
      let s = get_or order i 0 in
      let X = stretch t contents marks s in
      let n = number_at t.layout order i numbered below in
      let long : length X ≡ width = length_stretch t contents marks s (slotted t.layout.sectors t.layout.size contents long s n.0 n.1) ∙ sym w in
      let e : start + width ≡ start + length X = omega arith in
      let put : put_mid start (start + width - start) area part ≡ sets area start X = part_put area part X start (start + width) p (omega arith) room in
      ap (λ (ss : List ℕ). sets area start (stretches t contents marks ss)) (drop-cons order i 0 below)
      ∙ rw (put, e, add-one i) (sym (sets_append area start X (stretches t contents marks (drop (suc i) order))))

  -- The track gap behind the last sector ends the track.
  pub track_done : (before lead area after : List ℕ) (start₀ start fill i : ℕ) → Spaced t.layout → length before ≡ 2 * fields t.layout
      → length order ≡ t.layout.sectors → length order ≤ i → fill ≡ gap_byte t.layout.mode
      → lead ≡ sets before 0 (leader t.layout)
      → start₀ ≡ 2 * (t.layout.lead + t.layout.sync + mark_bytes t.layout.mode + t.layout.index_gap)
      → sets lead start₀ (stretches t contents marks order) ≡ sets area start (stretches t contents marks (drop i order))
      → after ≡ sets area start (image t.layout.mode (fill % 2) (run t.layout.track_gap fill []))
      → after ≡ formatted t contents marks order
  unfolding stretches
  track_done before lead area after start₀ start fill i spaced whole counted past g e s inv a =
      let all = stretches t contents marks order in
      let s' : start₀ ≡ 0 + length (leader t.layout) = omega (arith, length_leader t.layout) in
      let last : sets area start (stretches t contents marks (drop i order)) ≡ after =
      ap (λ (ss : List ℕ). sets area start (stretches t contents marks ss)) (drop_of_length-le order past) ∙ sym (rw (← g) a) in
      let parts = track_parts t contents marks spaced order in
      let whole : length (leader t.layout ++ all) ≡ length before =
      ap length (sym parts) ∙ length_fields t contents marks order counted (slots t.layout contents long order numbered) ∙ sym whole in
      sym (rw parts (sym (sets_whole before (leader t.layout ++ all) whole) ∙ sym (sets_append before 0 (leader t.layout) all) ∙ rw (← e, ← s') (inv ∙ last)))
