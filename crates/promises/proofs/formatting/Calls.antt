-- The round trip through the calls: what format accepts reads back, and read does not refuse the image that format leaves.
use mathlib.Core.Path.{◌≡◌, refl, sym, ap, subst, ◌∙◌}
use mathlib.Core.Bool.{Bool, false}
use mathlib.Core.List.{List, [], ◌∷◌, ◌++◌}
use mathlib.Core.Logic.{⊎_elim}
use Prim.Native.Nat.{ℕ, zero, suc, ◌+◌, ◌-◌, ◌*◌, ◌<◌, ◌≤◌}
use native.Mathlib.Nat.{eq-or-lt_of_le}
use native.Mathlib.Omega.{arith}
use borrow.Author.Rules.{rules}
use borrow.Author.Tests.{eq-eqb, ne_eqb, le-ltb}
use lib.ListN.{length, get_or, drop}
use lib.Seq.{get_or-take, get_or-drop}
use Rattle.std.specs.Prelude.{Result, Ok}
use Rattle.cells.specs.Cells.{cell, Bytes}
use Rattle.format.specs.Order.{Numbered, formatted}
use Rattle.format.specs.Outcomes.{Formats}
use Rattle.format.specs.Places.{block_place}
use Rattle.format.specs.Refusals.{some, form_tests, content_tests, format_tests}
use Rattle.calls.specs.declared.Refusal.{Refusal}
use Rattle.calls.proofs.Refusals.{told_passed, or_left, or_right}
use Rattle.format.proofs.Accepted.{Accepted, accepted}
use Rattle.format.proofs.Judged.{passed_by}
use Rattle.format.proofs.Parts.{slots, length_numbers, length_fields, numbered}
use Rattle.layouts.specs.Layouts.{layout_of, most_sectors, numbers, slot_in}
use Rattle.calls.specs.Refusals.{longest_image, image_test, area_test, control_test}
use Rattle.layouts.specs.Refusals.{track_tests, reading_tests}
use Rattle.layouts.specs.Tracks.{track_of}
use Rattle.layouts.specs.declared.Layout.{Layout}
use Rattle.layouts.specs.declared.Track.{Track}
use Rattle.layouts.proofs.Layouts.{every_layout, adds}
use Rattle.read.specs.Records.{records_of, area_of}
use Rattle.answers.specs.Answers.{answer_number, no_record, record_at}
use Rattle.read.specs.Outcomes.{reading, read_tests, read_answer, read_area, Reads}
use Rattle.read.specs.declared.Reading.{Reading}
use Rattle.answers.specs.declared.Record.{Record}
use Rattle.read.proofs.Passing.{modest}
use Rattle.read.proofs.Recording.{length_sector}
use Rattle.read.proofs.Sectors.{map_at, slots_at, length_slots}
use Rattle.verdicts.specs.Tests.{passed, refusal, by}
use Rattle.verdicts.proofs.Tests.{append_passed, passed_both, first_passed}
use Rattle.walk.specs.Events.{blocks}
use Rattle.walk.specs.Outcomes.{met}
use Rattle.promises.specs.RoundTrip.{Legible, ReadsBack, ReadsBackAsWritten}
use Rattle.promises.specs.Sectors.{sector_in}
use Rattle.promises.proofs.formatting.Trip.{Permitted, OnePlace, one_place, round_trip, natural, natural_position}

-- ---- the layouts

-- Every layout that has a number is legible,
pub legible : (n : ℕ) → Legible (layout_of n)
legible = every_layout Legible (search rules) (search rules) (search rules) (search rules)

-- and its image is read.
record Read (l : Layout) : Type 0 where
  some : 1 ≤ l.image_bytes
  short : l.image_bytes ≤ longest_image

image_read : (n : ℕ) → Read (layout_of n)
image_read = every_layout Read (search rules) (search rules) (search rules) (search rules)

-- ---- the tests

-- The tests of read pass where those of the track do, and image and area have lengths that are read.
reading_passes : (layout cylinder side image area : ℕ) → refusal (track_tests layout cylinder side) ≡ passed → 1 ≤ image → image ≤ longest_image
    → area ≡ (layout_of layout).area_bytes → refusal (read_tests layout cylinder side image area) ≡ passed
unfolding read_tests reading_tests refusal
reading_passes layout cylinder side image area t some short e =
    let a = append_passed (track_tests layout cylinder side) (image_test image ∷ []) t in
    let b = passed_by (image_test image) [] (rw (ne_eqb image 0 (λ z. omega arith), le-ltb longest_image image short)) in
    let d = passed_by (area_test (layout_of layout).area_bytes area) [] (rw (eq-eqb area (layout_of layout).area_bytes e)) in
    append_passed (track_tests layout cylinder side ++ (image_test image ∷ [])) _ (a ∙ b) ∙ d

-- A test that holds of none of the numbers in order does not hold of one of them.
none_of : (test : ℕ → Bool) (k a s : ℕ) → a ≤ s → s < a + k → some test (numbers k a) ≡ false → test s ≡ false
unfolding some
none_of test zero a s low high e = absurd (omega arith)
none_of test (suc k) a s low high e =
    let later = some test (numbers k (suc a)) in
    ⊎_elim (λ (q : a ≡ s). subst (λ x. test x ≡ false) q (or_left (test a) later e))
    (λ (q : a < s). none_of test k (suc a) s q (omega arith) (or_right (test a) later e)) (eq-or-lt_of_le low)

-- The first byte of a sector's slot stands in the area where the slot begins.
first_of_slot : (size s : ℕ) (area : List ℕ) → 1 ≤ size → (P : ℕ → Type 0) → P (get_or area ((s - 1) * size) 0) → P (get_or (slot_in size s area) 0 0)
first_of_slot size s area some P h =
    let at : (s - 1) * size + 0 ≡ (s - 1) * size = omega arith in
    subst P (sym (get_or-take size (drop ((s - 1) * size) area) 0 0 some ∙ get_or-drop ((s - 1) * size) area 0 0 ∙ ap (λ (i : ℕ). get_or area i 0) at)) h

-- ---- what read hands back of a sector

module _ (t : Track) (image : List ℕ) (s : ℕ) (low : 1 ≤ s) (high : s ≤ t.layout.sectors) where
  -- Its record,
  pub record_read : t.layout.sectors ≤ most_sectors → record_at (reading t image).records s ≡ (sector_in t image s).known
  unfolding records_of
  record_read few = map_at (λ x. (sector_in t image x).known) no_record most_sectors 1 s low (omega arith)

  -- and its slot in the area.
  pub slot_read : 1 ≤ t.layout.size → (area : List ℕ) → area ≡ area_of t (cell image) (8 * length image) (met t image)
      → slot_in t.layout.size s area ≡ (sector_in t image s).slot
  unfolding area_of
  slot_read some area e =
      ap (slot_in t.layout.size s) e
      ∙ slots_at t.layout.size (λ x. (sector_in t image x).slot) (λ x. length_sector t (cell image) (8 * length image) some (met t image) x)
      t.layout.sectors 1 s low (omega arith)

-- The area has a slot for each sector.
pub length_read : (t : Track) (image area : List ℕ) → 1 ≤ t.layout.size → area ≡ area_of t (cell image) (8 * length image) (met t image)
    → length area ≡ t.layout.sectors * t.layout.size
unfolding area_of
length_read t image area some e =
    ap length e
    ∙ length_slots t.layout.size (λ x. (sector_in t image x).slot) (λ x. length_sector t (cell image) (8 * length image) some (met t image) x)
    t.layout.sectors 1

-- ---- the calls

-- The image that format leaves where it does not refuse.
abbrev pub written : Track → (contents marks : List ℕ) → List ℕ
written t contents marks = formatted t contents marks (numbers t.layout.sectors 1)

module _ (layout cylinder side : ℕ) (contents marks : List ℕ) (given : ℕ) (all : Bytes contents)
    (passes : refusal (format_tests layout cylinder side contents marks given) ≡ passed) where
  abbrev t : Track
  t = track_of layout cylinder side

  track_passed : refusal (track_tests layout cylinder side) ≡ passed
  unfolding format_tests form_tests
  track_passed = (passed_both (track_tests layout cylinder side) _ (passed_both (form_tests layout cylinder side given) _ passes).0).0

  known : Accepted layout cylinder side contents marks given
  known = accepted layout cylinder side contents marks given passes

  -- Refusal 7 was given for none of its sectors.
  permitted : Permitted t contents marks
  unfolding format_tests content_tests
  permitted s h =
      let l = layout_of layout in
      let five = first_passed _ _ (passed_both (form_tests layout cylinder side given) _ passes).1 in
      let seven = (first_passed _ _ (first_passed _ _ five.1).1).0 in
      let test : ℕ → Bool = λ x. (control_test cylinder (get_or marks (x - 1) 0) (get_or contents ((x - 1) * l.size) 0)).applies in
      first_of_slot l.size s contents (modest layout).2 (λ first. (control_test cylinder (get_or marks (s - 1) 0) first).applies ≡ false)
      (none_of test l.sectors 1 s h.0 (omega (arith, h.1)) seven)

  -- What format accepts reads back.
  pub accepted_trip : ReadsBack t contents marks (numbers (layout_of layout).sectors 1) (written t contents marks)
  accepted_trip =
      let k = known in
      let cylinders = k.cylinders in
      let sides = k.sides in
      round_trip t (legible layout) (omega arith) (omega arith) contents marks all k.area (numbers (layout_of layout).sectors 1)
      (natural (layout_of layout)) permitted

  -- Each of its sectors has one block.
  pub accepted_place : (s : ℕ) → Numbered (layout_of layout) s → OnePlace (blocks s (met t (written t contents marks)))
  accepted_place s h =
      let k = known in
      let cylinders = k.cylinders in
      let sides = k.sides in
      one_place t (legible layout) (omega arith) (omega arith) contents marks all k.area (numbers (layout_of layout).sectors 1)
      (natural (layout_of layout)) s h

  -- And read does not refuse it.
  pub accepted_read : refusal (read_tests layout cylinder side (length (written t contents marks)) (layout_of layout).area_bytes) ≡ passed
  accepted_read =
      let l = layout_of layout in
      let whole = length_fields t contents marks (numbers l.sectors 1) (length_numbers l.sectors 1)
      (slots l contents known.area (numbers l.sectors 1) (numbered l)) in
      let sums = adds layout in
      let r = image_read layout in
      reading_passes layout cylinder side _ _ track_passed (omega (arith, whole, sums, r.some)) (omega (arith, whole, sums, r.short)) refl

-- What format wrote, as read takes it: it reads back, and is not refused.
pub record Taken (layout cylinder side : ℕ) (contents marks image : List ℕ) (answer : Result Reading Refusal) (area : List ℕ) : Type 0 where
  pub back : ReadsBack (track_of layout cylinder side) contents marks (numbers (layout_of layout).sectors 1) image
  pub told : answer ≡ Ok (reading (track_of layout cylinder side) image)
  pub left : area ≡ area_of (track_of layout cylinder side) (cell image) (8 * length image) (met (track_of layout cylinder side) image)

pub written_taken : (layout cylinder side : ℕ) (contents marks before image : List ℕ) (answer : Result Reading Refusal) (area : List ℕ) → Bytes contents
    → Formats layout cylinder side contents marks before (Ok _) image → Reads layout cylinder side image (layout_of layout).area_bytes answer area
    → Taken layout cylinder side contents marks image answer area
unfolding read_answer read_area by
written_taken layout cylinder side contents marks before image answer area all formats reads =
    let t = track_of layout cylinder side in
    let passes = told_passed (refusal (format_tests layout cylinder side contents marks (length before))) formats.answers in
    let same : image ≡ written t contents marks = formats.leaves ∙ rw passes in
    let trip = accepted_trip layout cylinder side contents marks (length before) all passes in
    let read = accepted_read layout cylinder side contents marks (length before) all passes in
    record {
      back = subst (λ (x : List ℕ). ReadsBack t contents marks (numbers (layout_of layout).sectors 1) x) (sym same) trip;
      told = reads.answers ∙ rw (same, read);
      left = reads.leaves ∙ rw (same, read);
    }

-- What format writes, read hands back.
pub format_then_read : ReadsBackAsWritten
format_then_read layout cylinder side contents marks before image answer area all formats reads =
    let t = track_of layout cylinder side in
    let taken = written_taken layout cylinder side contents marks before image answer area all formats reads in
    let left = taken.left in
    let back-so = taken.back in
    record {
      reading = reading t image;
      accepted = taken.told;
      counted = refl;
      bad = back-so.bad;
      foreign = back-so.foreign;
      answers = λ s h.
          ap (λ (r : Record). answer_number r.answer) (record_read t image s h.0 h.1 (modest layout).1)
          ∙ (back-so.sectors s h).answers;
      places = λ s h.
          ap (λ (r : Record). r.place) (record_read t image s h.0 h.1 (modest layout).1)
          ∙ back-so.places s h
          ∙ ap (λ (i : ℕ). 8 * block_place (layout_of layout) i) (natural_position s (layout_of layout).sectors 1 h.0 (omega (arith, h.1)));
      clocks = λ s h.
          ap (λ (r : Record). r.clocks) (record_read t image s h.0 h.1 (modest layout).1)
          ∙ back-so.clocks s h;
      slots = λ s h. slot_read t image s h.0 h.1 (modest layout).2 area left ∙ (back-so.sectors s h).holds;
      whole = length_read t image area (modest layout).2 left;
    }
