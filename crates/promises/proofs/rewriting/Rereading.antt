-- What `read` answers and leaves of an image in which every sector but one reads as in another: the same, but for that one record and slot.
use mathlib.Core.Path.{◌≡◌, refl, sym, ap, ◌∙◌}
use mathlib.Core.Bool.{false}
use mathlib.Core.List.{List, [], ◌∷◌}
use Prim.Native.Nat.{ℕ, ◌-◌, ◌*◌}
use native.Mathlib.Omega.{arith}
use borrow.Author.Tests.{eq-eqb}
use lib.ListN.{length, set}
use lib.Seq.{sets}
use Rattle.calls.specs.declared.Refusal.{Refusal}
use Rattle.std.specs.Prelude.{Result}
use Rattle.cells.specs.Cells.{cell}
use Rattle.layouts.specs.Layouts.{layout_of, most_sectors}
use Rattle.calls.specs.Refusals.{area_test}
use Rattle.layouts.specs.Refusals.{reading_tests}
use Rattle.layouts.specs.Tracks.{track_of}
use Rattle.layouts.specs.declared.Layout.{Layout}
use Rattle.layouts.specs.declared.Track.{Track}
use Rattle.read.specs.Records.{Sector, records_of, area_of}
use Rattle.read.specs.Outcomes.{read_tests, read_answer, read_area, Reads}
use Rattle.read.specs.declared.Reading.{Reading}
use Rattle.read.proofs.Passing.{modest}
use Rattle.read.proofs.Recording.{length_sector}
use Rattle.read.proofs.Sectors.{map_set, slots_set}
use Rattle.verdicts.specs.Tests.{passed, refusal, by}
use Rattle.verdicts.proofs.Tests.{append_passed}
use Rattle.walk.specs.Events.{bads, foreigns}
use Rattle.walk.specs.Outcomes.{met}
use Rattle.promises.specs.Rewriting.{with_record}
use Rattle.promises.specs.Sectors.{sector_in}
use Rattle.promises.proofs.rewriting.Granted.{Sited}

module _ (layout cylinder side sector : ℕ) (image now : List ℕ) (m : ℕ) (S : Sited layout cylinder side sector image m)
    (long : length now ≡ length image)
    (alike : (x : ℕ) → (x ≡ sector → ⊥) → sector_in (track_of layout cylinder side) now x ≡ sector_in (track_of layout cylinder side) image x)
    (bad : bads (met (track_of layout cylinder side) now) ≡ bads (met (track_of layout cylinder side) image))
    (foreign : foreigns (met (track_of layout cylinder side) now) ≡ foreigns (met (track_of layout cylinder side) image)) where
  abbrev l : Layout
  l = layout_of layout

  abbrev t : Track
  t = track_of layout cylinder side

  -- An area of the right length is not refused.
  right : (area_test l.area_bytes l.area_bytes).applies ≡ false
  right = rw (eq-eqb l.area_bytes l.area_bytes refl)

  passes : refusal (read_tests layout cylinder side (length image) l.area_bytes) ≡ passed
  unfolding read_tests refusal
  passes =
      append_passed (reading_tests layout cylinder side (length image)) (area_test l.area_bytes l.area_bytes ∷ []) S.readable
      ∙ rw right

  passes_now : refusal (read_tests layout cylinder side (length now) l.area_bytes) ≡ passed
  passes_now = rw long passes

  -- All but one of the records, and all but one of the slots, are as they were.
  records_but : records_of t (cell now) (8 * length now) (met t now)
      ≡ set (records_of t (cell image) (8 * length image) (met t image)) (sector - 1) (sector_in t now sector).known
  unfolding records_of
  records_but =
      map_set (λ x. (sector_in t image x).known) (λ x. (sector_in t now x).known) sector
      (λ x o. ap (λ (y : Sector). y.known) (alike x (λ q. o (sym q)))) most_sectors 1 S.low

  area_but : area_of t (cell now) (8 * length now) (met t now)
      ≡ sets (area_of t (cell image) (8 * length image) (met t image)) ((sector - 1) * l.size) (sector_in t now sector).slot
  unfolding area_of
  area_but =
      slots_set l.size (λ x. (sector_in t image x).slot) (λ x. (sector_in t now x).slot) sector
      (λ x. length_sector t (cell image) (8 * length image) (modest layout).2 (met t image) x)
      (λ x. length_sector t (cell now) (8 * length now) (modest layout).2 (met t now) x)
      (λ x o. ap (λ (y : Sector). y.slot) (alike x (λ q. o (sym q)))) l.sectors 1 S.low (omega (arith, S.numbered))

  pub read_so : (before answer : Result Reading Refusal) (area after : List ℕ) → Reads layout cylinder side image l.area_bytes before area
      → Reads layout cylinder side now l.area_bytes answer after
      → (answer ≡ with_record before sector (sector_in t now sector).known)
      × (after ≡ sets area ((sector - 1) * l.size) (sector_in t now sector).slot)
  unfolding read_answer read_area by
  read_so before answer area after r q =
      (q.answers ∙ rw (r.answers, passes, passes_now, records_but, bad, foreign), q.leaves ∙ rw (r.leaves, passes, passes_now) area_but)
