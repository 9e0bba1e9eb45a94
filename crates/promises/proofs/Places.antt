-- Where on the track: the mark that stands at each sector's place, and that a rewrite finds it there.
use mathlib.Core.Path.{◌≡◌, refl, ap, subst, ◌∙◌}
use mathlib.Core.Bool.{Bool, true, false}
use mathlib.Core.List.{List, [], ◌∷◌}
use mathlib.Core.Logic.{inl, inr}
use Prim.Native.Nat.{ℕ, ◌*◌, ◌<◌, ◌≤◌}
use native.Mathlib.Omega.{arith}
use lib.ListN.{length}
use Rattle.station.specs.Outcomes.{answered_records}
use Rattle.std.specs.Prelude.{Ok, Err}
use Rattle.answers.specs.Answers.{no_place}
use Rattle.answers.specs.declared.Answer.{Answer}
use Rattle.answers.specs.declared.Answer.TheVariants as answers
use Rattle.answers.specs.declared.Fault.TheVariants.{NoIdentifier, Doubled, NoBlock, PastEnd}
use Rattle.answers.specs.declared.Record.{Record}
use Rattle.calls.specs.declared.Refusal.{Refusal}
use Rattle.calls.proofs.Refusals.{sector_known}
use Rattle.cells.specs.Cells.{cell}
use Rattle.layouts.specs.Layouts.{layout_of}
use Rattle.layouts.specs.Refusals.{reading_tests}
use Rattle.layouts.specs.Tracks.{track_of}
use Rattle.layouts.specs.declared.Track.{Track}
use Rattle.locate.specs.Outcomes.{located, locate_tests, found, Locates}
use Rattle.locate.specs.declared.Located.TheVariants as locate
use Rattle.marks.specs.Marks.{mark_byte, stands}
use Rattle.marks.specs.declared.Mark.{Mark}
use Rattle.marks.specs.declared.Mark.TheVariants.{Data, Control, Open}
use Rattle.marks.proofs.Spelling.{stands_room, string_two}
use Rattle.read.specs.Records.{Sector, block_after, block_answer, block_clocks, identifier_record, record_for}
use Rattle.read.specs.Outcomes.{read_answer}
use Rattle.answers.specs.Letters.{answer_after}
use Rattle.answers.proofs.Letters.{defective_control, forbidden_control, answer_cases}
use Rattle.read.proofs.Passing.{modest}
use Rattle.read.proofs.Recording.{block_cases}
use Rattle.verdicts.specs.Tests.{Verdict, passed, refused, refusal, by}
use Rattle.verdicts.proofs.Tests.{clash, passed_both, first_passed}
use Rattle.walk.specs.Events.{blocks}
use Rattle.walk.specs.Outcomes.{met}
use Rattle.walk.specs.Turns.{BlockStands}
use Rattle.walk.specs.declared.Block.{Block}
use Rattle.walk.specs.declared.Block.TheVariants.{Missing, Beyond, Within}
use Rattle.walk.proofs.Walking.{AllWhole}
use Rattle.promises.specs.Doors.{place_in}
use Rattle.promises.specs.Places.{said, OneStands, Marked, PlaceOfMark}
use Rattle.promises.specs.Sectors.{sector_in}
use Rattle.promises.proofs.Blocks.{alone_so}
use Rattle.promises.proofs.Records.{by_blocks, handed_back, of_every_record}
use Rattle.promises.proofs.Calling.{asked}
use Rattle.promises.proofs.Doors.{accepted_read, place_in_lem}
use Rattle.promises.proofs.rewriting.Granted.{granted}

-- ---- what an answer says of its mark

module _ (t : Track) (image : List ℕ) where
  abbrev c : ℕ → ℕ
  c = cell image

  abbrev n : ℕ
  n = 8 * length image

  within : (k : Mark) (m : ℕ) → stands t.layout.mode c n k m ≡ true → m < n
  within k m h = omega (arith, stands_room t.layout.mode c n k m h, string_two t.layout.mode k)

  -- Where a mark of a block stands it is one of three, and begins within the image.
  one_of_three : (m : ℕ) → BlockStands t.layout.mode c n m → OneStands t image m (Data ∷ Control ∷ Open ∷ [])
  one_of_three m (inl h) = inl h
  one_of_three m (inr (inl h)) = inr (inl h)
  one_of_three m (inr (inr h)) = inr (inr (inl h))

  inside : (m : ℕ) → BlockStands t.layout.mode c n m → m < n
  inside m (inl h) = within Data m h
  inside m (inr (inl h)) = within Control m h
  inside m (inr (inr h)) = within Open m h

  -- A block answers by the mark that stands there.
  block_said : (m : ℕ) → BlockStands t.layout.mode c n m → OneStands t image m (said (block_answer t c n m))
  unfolding block_after
  block_said m s =
      block_cases t c n (λ (a : Answer). OneStands t image m (said a)) m (λ o. inl o) (λ k. after_control _ _ k) (λ o k. after_data _ _ (plain (one_of_three m s) o k))
    where
      plain : OneStands t image m (Data ∷ Control ∷ Open ∷ []) → stands t.layout.mode c n Open m ≡ false
          → stands t.layout.mode c n Control m ≡ false → stands t.layout.mode c n Data m ≡ true
      plain (inl d) o k = d
      plain (inr (inl d)) o k = absurd (clash cc)
      plain (inr (inr (inl d))) o k = absurd (clash cc)
      plain (inr (inr (inr n))) o k = elim n [ ]

      -- after a control mark all answers but 1, and after a data mark 1 and 26
      after_control : (first : ℕ) (right : Bool) → stands t.layout.mode c n Control m ≡ true
          → OneStands t image m (said (answer_after t.cylinder Control first right))
      after_control first right h =
          answer_cases (λ (a : Answer). OneStands t image m (said a)) t.cylinder Control first right (λ d. inl h) (inr (inl h)) (λ f. inl h)
          (λ d f k. inl h) (λ k. absurd (clash cc))

      after_data : (first : ℕ) (right : Bool) → stands t.layout.mode c n Data m ≡ true
          → OneStands t image m (said (answer_after t.cylinder Data first right))
      after_data first right h =
          answer_cases (λ (a : Answer). OneStands t image m (said a)) t.cylinder Data first right
          (λ d. let k = defective_control t.cylinder (mark_byte Data) first d in absurd (clash cc)) (inl h)
          (λ f. let k = forbidden_control t.cylinder (mark_byte Data) first f in absurd (clash cc)) (λ d f k. absurd (clash cc)) (λ k. inl h)

  -- A record without a place, and one with.
  unmarked : (a : Answer) (clocks : ℕ) → said a ≡ [] → Marked t image (record { answer = a; place = no_place; clocks = clocks })
  unmarked a clocks e = record { none = λ h. refl; some = λ u. absurd (u e); marked = λ u. absurd (u refl) }

  marked_so : (a : Answer) (m clocks : ℕ) → BlockStands t.layout.mode c n m → OneStands t image m (said a)
      → Marked t image (record { answer = a; place = m; clocks = clocks })
  marked_so a m clocks s h = record { none = λ e. absurd (subst (OneStands t image m) e h); some = λ u. inside m s; marked = λ u. h }

  record_marked : (bs : List Block) → AllWhole t c n bs → Marked t image (record_for t c n bs).known
  unfolding record_for identifier_record
  record_marked [] h = unmarked (answers.Refused NoIdentifier) 0 refl
  record_marked (Missing ∷ []) h = unmarked (answers.Refused NoBlock) 0 refl
  record_marked (Beyond m ∷ []) h = marked_so (answers.Refused PastEnd) m 0 h.0.1 (one_of_three m h.0.1)
  record_marked (Within m ∷ []) h = marked_so (block_answer t c n m) m (block_clocks t c n m) h.0.1 (block_said m h.0.1)
  record_marked (b ∷ x ∷ bs) h = unmarked (answers.Refused Doubled) 0 refl

  sector_marked : (s : ℕ) → Marked t image (sector_in t image s).known
  sector_marked = by_blocks t image (λ (x : Sector). Marked t image x.known) (unmarked (answers.Refused NoIdentifier) 0 refl) record_marked

-- ---- where the block is located

-- A sector that there is, with one block at m, has this place.
block_place_lem : (t : Track) (image : List ℕ) (s m : ℕ) (b : Block) → s ≤ t.layout.sectors → blocks s (met t image) ≡ b ∷ []
    → (identifier_record t (cell image) (8 * length image) b).known.place ≡ m → (sector_in t image s).known.place ≡ m
block_place_lem t image s m b high alone e =
    ap (λ (x : Sector). x.known.place) (alone_so t (cell image) (8 * length image) (met t image) s b high alone) ∙ e

module _ (layout cylinder side sector : ℕ) (image : List ℕ) (b : Block) (at : Locates layout cylinder side sector image (Ok (locate.Single b))) where
  abbrev tests : Verdict Refusal
  tests = refusal (locate_tests layout cylinder side (length image) sector)

  -- Its tests have passed, and the sector has this block alone.
  located_alone : (sector ≤ (layout_of layout).sectors) × (blocks sector (met (track_of layout cylinder side) image) ≡ b ∷ [])
  unfolding locate_tests located by
  located_alone = go tests refl at
    where
      single : (bs : List Block) → locate.Single b ≡ located bs → bs ≡ b ∷ []
      single [] e = absurd (clash cc)
      single (x ∷ []) e = cc
      single (x ∷ y ∷ bs) e = absurd (clash cc)

      go : (v : Verdict Refusal) → tests ≡ v → Ok (locate.Single b) ≡ by v (Ok (found layout cylinder side sector image)) Err
          → (sector ≤ (layout_of layout).sectors) × (blocks sector (met (track_of layout cylinder side) image) ≡ b ∷ [])
      go passed e h =
          let both = passed_both (reading_tests layout cylinder side (length image)) _ e in
          ((sector_known (layout_of layout).sectors sector (first_passed _ _ both.1).0).1, single (blocks sector (met (track_of layout cylinder side) image)) cc)
      go (refused f) e h = absurd (clash cc)

  located_place : (m : ℕ) → (identifier_record (track_of layout cylinder side) (cell image) (8 * length image) b).known.place ≡ m
      → (sector_in (track_of layout cylinder side) image sector).known.place ≡ m
  located_place m e = block_place_lem (track_of layout cylinder side) image sector m b located_alone.0 located_alone.1 e

pub place_of_mark : PlaceOfMark
unfolding read_answer identifier_record
place_of_mark =
    record {
      records = of_every_record Marked sector_marked;
      within = λ layout cylinder side sector m image at. located_place layout cylinder side sector image (Within m) at m refl;
      beyond = λ layout cylinder side sector m image at. located_place layout cylinder side sector image (Beyond m) at m refl;
      planned = λ layout cylinder side sector mark contents image plan ask.
          let site = (granted layout cylinder side sector image mark contents plan ask).site in
          block_place_lem (track_of layout cylinder side) image sector plan.place (Within plan.place) site.numbered site.alone refl;
      requested = λ layout cylinder side sector mark contents image given area records counts plan p gives.
          let ask = asked layout cylinder side sector mark contents image plan gives in
          let site = (granted layout cylinder side sector image mark contents _ ask).site in
          let told = accepted_read layout cylinder side image given area records counts p in
          ap (λ (xs : List ℕ). place_in xs sector) (p.recorded ∙ ap answered_records told)
          ∙ place_in_lem _ _ sector site.low site.numbered (modest layout).1
          ∙ ap (λ (r : Record). r.place) (handed_back layout cylinder side image given sector (site.low, site.numbered) _ refl)
          ∙ block_place_lem (track_of layout cylinder side) image sector _ (Within _) site.numbered site.alone refl;
    }
