-- Demand 1 of the reader, and of every list of tests.
use mathlib.Core.Path.{◌≡◌, refl, sym, ap, ◌∙◌}
use mathlib.Core.Bool.{Bool, true, false, cond}
use mathlib.Core.List.{List, [], ◌∷◌}
use Prim.Native.Nat.{ℕ, ◌*◌, ◌≤◌}
use native.Mathlib.Omega.{arith}
use lib.ListN.{length, replicate}
use Rattle.pick.specs.declared.Choice.{Choice}
use Rattle.std.specs.Prelude.{Result, Ok, Err}
use Rattle.cells.specs.Cells.{cell}
use Rattle.format.specs.Order.{Numbered}
use Rattle.layouts.specs.Layouts.{layout_of, slot_in}
use Rattle.calls.specs.Refusals.{refusal_number, checked_number}
use Rattle.layouts.specs.Tracks.{track_of}
use Rattle.layouts.specs.declared.Track.{Track}
use Rattle.calls.specs.declared.Refusal.{Refusal}
use Rattle.calls.proofs.Refusals.{number_told, numbers_apart, number_known, passed_with}
use Rattle.read.specs.Records.{slot_of, refused as refusing, block_answer, block_bytes, identifier_record, record_for, sector_of}
use Rattle.answers.specs.Answers.{answer_number, carries, no_place, record_at}
use Rattle.read.specs.Outcomes.{reading, read_tests, read_answer, read_area, Reads}
use Rattle.pick.specs.Picks.{choice, pick_tests, chosen_of, stretch_of}
use Rattle.answers.specs.declared.Answer.{Answer}
use Rattle.answers.specs.declared.Answer.TheVariants as answers
use Rattle.pick.specs.declared.Choice.TheVariants.{First, Second, Neither}
use Rattle.answers.specs.declared.Fault.TheVariants.{NoIdentifier}
use Rattle.read.specs.declared.Reading.{Reading}
use Rattle.answers.specs.declared.Record.{Record}
use Rattle.answers.proofs.Numbering.{answers_apart}
use Rattle.read.proofs.Passing.{modest}
use Rattle.verdicts.specs.Tests.{Test, Verdict, passed, refused, refusal, by}
use Rattle.verdicts.proofs.Tests.{clash, exactly, by_refused, by_map}
use Rattle.walk.specs.Events.{blocks}
use Rattle.locate.specs.Outcomes.{located, located_number, locate_number}
use Rattle.walk.specs.Outcomes.{met}
use Rattle.walk.specs.declared.Block.{Block}
use Rattle.walk.specs.declared.Block.TheVariants.{Missing, Beyond, Within}
use lib.Dec.{leb}
use Rattle.promises.specs.Reading.{NothingOldShows, RefusedLeavesZeros, RefusedSlotsAreZero, RefusedSectorsLeaveZeros, OfOnePass, PartOfOnePass}
use Rattle.promises.specs.Refusing.{NumbersApart, RefusedBy, FormatRefuses, ReadRefuses, LocateRefuses, PickRefuses, RequestRefuses, StepRefuses}
use Rattle.promises.specs.Sectors.{sector_in}
use Rattle.promises.proofs.formatting.Calls.{record_read, slot_read}

pub numbers_are_apart : NumbersApart
numbers_are_apart = (numbers_apart, answers_apart)

-- ---- the reader

pub nothing_old_shows : NothingOldShows
nothing_old_shows layout cylinder side image before before' answer answer' after after' e p q = (
  p.answers ∙ ap (read_answer layout cylinder side image) e ∙ sym q.answers,
  p.leaves ∙ ap (read_area layout cylinder side image) e ∙ sym q.leaves,
)

pub refused_leaves_zeros : RefusedLeavesZeros
unfolding read_answer read_area by
refused_leaves_zeros layout cylinder side image given answer after f p e =
    let v = refusal (read_tests layout cylinder side (length image) given) in
    let told : v ≡ refused f = by_refused (Ok (reading (track_of layout cylinder side) image)) Err (λ f e. clash cc) (λ g f e. cc) v answer f p.answers e in
    p.leaves ∙ rw told

-- An answer from 21 on carries no bytes.
zero_slot : (size : ℕ) (a : Answer) (bytes : List ℕ) → 21 ≤ answer_number a → slot_of size a bytes ≡ replicate size 0
zero_slot size (answers.Refused f) bytes h = refl
zero_slot size answers.Data bytes h = absurd (omega arith)
zero_slot size answers.Control bytes h = absurd (omega arith)
zero_slot size answers.Defective bytes h = absurd (omega arith)

pub refused_slots_are_zero : RefusedSlotsAreZero
unfolding sector_of record_for identifier_record
refused_slots_are_zero t image s h = go (leb s t.layout.sectors) (blocks s (met t image)) h
  where
    c : ℕ → ℕ
    c = cell image

    n : ℕ
    n = 8 * length image

    go : (b : Bool) (bs : List Block) → 21 ≤ answer_number (cond b (record_for t c n bs) (refusing t.layout.size NoIdentifier no_place)).known.answer
        → (cond b (record_for t c n bs) (refusing t.layout.size NoIdentifier no_place)).slot ≡ replicate t.layout.size 0
    go false bs h = refl
    go true [] h = refl
    go true (Missing ∷ []) h = refl
    go true (Beyond m ∷ []) h = refl
    go true (Within m ∷ []) h = zero_slot t.layout.size (block_answer t c n m) (block_bytes t c n m) h
    go true (x ∷ y ∷ bs) h = refl

-- Where the tests pass, it is this.
pub taken : {A : Type 0} (v : Verdict Refusal) → v ≡ passed → (this : A) (that : Refusal → A) → by v this that ≡ this
unfolding by
taken v e this that = rw e

module _ (layout cylinder side : ℕ) (image : List ℕ) (given : ℕ) (hands : Reading) (after : List ℕ)
    (p : Reads layout cylinder side image given (Ok hands) after) where
  -- A read that is not refused: its tests pass,
  pub tests_passed : refusal (read_tests layout cylinder side (length image) given) ≡ passed
  unfolding read_answer
  tests_passed = (passed_with _ _ _ p.answers).0

  -- and it hands back what its track holds.
  pub passed_reading : hands ≡ reading (track_of layout cylinder side) image
  unfolding read_answer
  passed_reading = (passed_with _ _ _ p.answers).1

  -- Of each of its sectors, the number of the answer, and the slot.
  module _ (s : ℕ) (named : Numbered (layout_of layout) s) where
    abbrev t : Track
    t = track_of layout cylinder side

    pub passed_number : answer_number (record_at hands.records s).answer ≡ answer_number (sector_in t image s).known.answer
    passed_number =
        ap (λ (r : Reading). answer_number (record_at r.records s).answer) passed_reading
        ∙ ap (λ (r : Record). answer_number r.answer) (record_read t image s named.0 named.1 (modest layout).1)

    pub passed_slot : slot_in (layout_of layout).size s after ≡ (sector_in t image s).slot
    unfolding read_area
    passed_slot =
        let v = refusal (read_tests layout cylinder side (length image) given) in
        slot_read t image s named.0 named.1 (modest layout).2 after (p.leaves ∙ taken v tests_passed _ (λ f. replicate given 0))

pub refused_sectors_leave_zeros : RefusedSectorsLeaveZeros
refused_sectors_leave_zeros layout cylinder side image given hands after s p named high =
    let same = passed_number layout cylinder side image given hands after p s named in
    passed_slot layout cylinder side image given hands after p s named
    ∙ refused_slots_are_zero (track_of layout cylinder side) image s (omega (arith, same))

-- What is picked is one of the four, and no other.
pub part_of_one_pass : PartOfOnePass
unfolding chosen_of by
part_of_one_pass layout sector first one second two answer part p q =
    go (refusal (pick_tests layout sector (length first) (length second))) (carries a.answer) (carries b.answer) refl refl p q
  where
    a : Record
    a = record_at one sector

    b : Record
    b = record_at two sector

    go : (x : Verdict Refusal) (m n : Bool) → carries a.answer ≡ m → carries b.answer ≡ n
        → answer ≡ by x (Ok (cond m (First a) (cond n (Second b) (Neither a)))) Err
        → part ≡ stretch_of (layout_of layout) sector first second (by x (Ok (cond m (First a) (cond n (Second b) (Neither a)))) Err)
        → OfOnePass (layout_of layout) sector first second a b answer part
    go passed true n h k e u =
        record { of_first = λ r c. (cc, h, u); of_second = λ r c. absurd (clash cc); of_neither = λ r c. absurd (clash cc); of_refused = λ f c. absurd (clash cc) }
    go passed false true h k e u =
        record { of_first = λ r c. absurd (clash cc); of_second = λ r c. (cc, h, k, u); of_neither = λ r c. absurd (clash cc); of_refused = λ f c. absurd (clash cc) }
    go passed false false h k e u =
        record { of_first = λ r c. absurd (clash cc); of_second = λ r c. absurd (clash cc); of_neither = λ r c. (cc, h, k, u); of_refused = λ f c. absurd (clash cc) }
    go (refused g) m n h k e u =
        record { of_first = λ r c. absurd (clash cc); of_second = λ r c. absurd (clash cc); of_neither = λ r c. absurd (clash cc); of_refused = λ f c. u }

-- ---- the tests of a call

-- A number by the verdict, 0 where the tests pass, is refused by them.
pub by_tests : (tests : List (Test Refusal)) (number : ℕ) → number ≡ by (refusal tests) 0 refusal_number → RefusedBy tests number
by_tests tests number e = exactly 0 refusal_number (λ f z. let k = number_known f in absurd (omega arith)) numbers_apart tests number e

pub format_refuses : FormatRefuses
format_refuses layout cylinder side contents marks before answer after p =
    by_tests _ (checked_number answer) (ap checked_number p.answers ∙ number_told _)

pub read_refuses : ReadRefuses
unfolding read_answer
read_refuses layout cylinder side image given answer after p =
    by_tests _ (checked_number answer) (ap checked_number p.answers ∙ by_map checked_number _ (Ok (reading (track_of layout cylinder side) image)) Err)

pub locate_refuses : LocateRefuses
unfolding located
locate_refuses layout cylinder side sector image answer p =
    exactly (located_number (located bs)) refusal_number (λ f e. unrefused bs f e) numbers_apart _ (locate_number answer)
    (ap locate_number p ∙ by_map locate_number _ (Ok (located bs)) Err)
  where
    bs : List Block
    bs = blocks sector (met (track_of layout cylinder side) image)

    unrefused : (bs : List Block) (f : Refusal) → located_number (located bs) ≡ refusal_number f → ⊥
    unrefused [] f e = let k = number_known f in absurd (omega arith)
    unrefused (Missing ∷ []) f e = let k = number_known f in absurd (omega arith)
    unrefused (Beyond m ∷ []) f e = let k = number_known f in absurd (omega arith)
    unrefused (Within m ∷ []) f e = let k = number_known f in absurd (omega arith)
    unrefused (b ∷ x ∷ bs) f e = let k = number_known f in absurd (omega arith)

-- Of two passes: what is picked where nothing is refused is no refusal.
pub choice_unrefused : (a b : Record) (f : Refusal) → ◌≡◌ {A = Result Choice Refusal} (Ok (choice a b)) (Err f) → ⊥
choice_unrefused a b f e = clash cc

pub pick_refuses : PickRefuses
unfolding chosen_of
pick_refuses layout sector first one second two answer p =
    exactly (Ok (choice (record_at one sector) (record_at two sector))) Err (choice_unrefused (record_at one sector) (record_at two sector))
    (λ g f e. cc) _ _ p

pub request_refuses : RequestRefuses
request_refuses layout cylinder side sector mark contents image answer p =
    by_tests _ (checked_number answer) (ap checked_number p ∙ by_map checked_number _ (Ok _) Err)

pub step_refuses : StepRefuses
step_refuses plan mark contents before answer after p =
    by_tests _ (checked_number answer) (ap checked_number p.answers ∙ by_map checked_number _ (Ok _) Err)
