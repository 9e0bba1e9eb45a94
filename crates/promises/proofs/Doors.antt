-- Demands 1 and 2 at the doors follow from the crates' own: an exported function answers a number and leaves numbers, and what they say is what its
-- crate answers.
use mathlib.Core.Path.{◌≡◌, refl, sym, ap, ap₂, ◌∙◌}
use mathlib.Core.Bool.{Bool, true, false, cond}
use mathlib.Core.List.{List, [], ◌∷◌}
use mathlib.Core.Logic.{◌⊎◌, inl, inr}
use Prim.Native.Nat.{ℕ, ◌+◌, ◌-◌, ◌*◌, ◌<◌, ◌≤◌}
use native.Mathlib.Omega.{arith}
use borrow.Author.Tests.{le-leb}
use lib.ListN.{length, get_or, replicate}
use Rattle.std.specs.Prelude.{Ok, Err}
use Rattle.format.specs.Refusals.{format_tests}
use Rattle.format.specs.Order.{Numbered}
use Rattle.layouts.specs.Layouts.{layout_of, most_sectors, slot_in}
use Rattle.calls.specs.Refusals.{refusal_number, checked_number}
use Rattle.layouts.specs.Tracks.{track_of}
use Rattle.layouts.specs.declared.Layout.{Layout}
use Rattle.calls.specs.declared.Refusal.{Refusal}
use Rattle.calls.proofs.Refusals.{told_passing, passed_with, numbers_apart, number_known}
use Rattle.answers.specs.Answers.{answer_number, carries, record_at}
use Rattle.read.specs.Records.{slots}
use Rattle.read.specs.Outcomes.{reading, read_tests, read_answer, read_area, Reads}
use Rattle.pick.specs.Picks.{area_tests, pick_tests, choice, chosen_of}
use Rattle.answers.specs.declared.Answer.{Answer}
use Rattle.answers.specs.declared.Answer.TheVariants as answers
use Rattle.pick.specs.declared.Choice.TheVariants as pick
use Rattle.answers.specs.declared.Fault.TheVariants.{NoIdentifier, Doubled, NoBlock, PastEnd, OpenMark, WrongEdc, ForbiddenLetter}
use Rattle.read.specs.declared.Reading.{Reading}
use Rattle.answers.specs.declared.Record.{Record}
use Rattle.read.proofs.Passing.{modest}
use Rattle.pick.proofs.Picking.{pickable}
use Rattle.station.proofs.Listing.{slot_number, listed_at_lem}
use Rattle.station.proofs.Passes.{read_back}
use Rattle.station.specs.Outcomes.{verdict_number, answered_records, answered_counts, GivesRead}
use Rattle.station.specs.Picks.{pick_number, handed_on, part_of}
use Rattle.station.specs.Records.{record_width, record_numbers, sector_numbers, record_list, numbered_at}
use Rattle.verdicts.specs.Tests.{Verdict, passed, refused, refusal, by}
use Rattle.verdicts.proofs.Tests.{exactly, by_passed, by_map}
use Rattle.promises.specs.Doors.{Listed, DoorsRefuse, answer_in, place_in, clocks_in, RefusedReadGivesZeros, RefusedSectorsGiveZeros, RefusedPickGivesZeros, HandsOn, PickHandsOn, GivesBackAsWritten}
use Rattle.promises.specs.Rewriting.{number}
use Rattle.promises.proofs.Demands.{by_tests, taken, choice_unrefused, refused_sectors_leave_zeros}
use Rattle.promises.proofs.formatting.Calls.{format_then_read}

-- ---- demand 1

-- The numbers of the answers are none of the pick's refusals, 4, 9 and 5.
answer_apart : (a : Answer) (f : Refusal) → (refusal_number f ≡ 4) ⊎ ((refusal_number f ≡ 9) ⊎ (refusal_number f ≡ 5)) → answer_number a ≡ refusal_number f → ⊥
answer_apart a f h e = go a (known h)
  where
    known : (refusal_number f ≡ 4) ⊎ ((refusal_number f ≡ 9) ⊎ (refusal_number f ≡ 5)) → (4 ≤ answer_number a) × (answer_number a ≤ 20)
    known (inl x) = (omega arith, omega arith)
    known (inr (inl x)) = (omega arith, omega arith)
    known (inr (inr x)) = (omega arith, omega arith)

    go : (a : Answer) → (4 ≤ answer_number a) × (answer_number a ≤ 20) → ⊥
    go (answers.Refused NoIdentifier) k = absurd (omega arith)
    go (answers.Refused Doubled) k = absurd (omega arith)
    go (answers.Refused NoBlock) k = absurd (omega arith)
    go (answers.Refused PastEnd) k = absurd (omega arith)
    go (answers.Refused OpenMark) k = absurd (omega arith)
    go (answers.Refused WrongEdc) k = absurd (omega arith)
    go (answers.Refused ForbiddenLetter) k = absurd (omega arith)
    go answers.Data k = absurd (omega arith)
    go answers.Control k = absurd (omega arith)
    go answers.Defective k = absurd (omega arith)

pick_numbers : (layout sector first second : ℕ) (f : Refusal) → Listed f (pick_tests layout sector first second)
    → (refusal_number f ≡ 4) ⊎ ((refusal_number f ≡ 9) ⊎ (refusal_number f ≡ 5))
unfolding pick_tests area_tests
pick_numbers layout sector first second f (inl e) = inl (sym (ap refusal_number e))
pick_numbers layout sector first second f (inr (inl e)) = inr (inl (sym (ap refusal_number e)))
pick_numbers layout sector first second f (inr (inr (inl e))) = inr (inr (sym (ap refusal_number e)))
pick_numbers layout sector first second f (inr (inr (inr (inl e)))) = inr (inr (sym (ap refusal_number e)))
pick_numbers layout sector first second f (inr (inr (inr (inr h)))) = absurd h

-- What is picked where nothing is refused has the number of an answer.
choice_apart : (one two : Record) (f : Refusal) → (refusal_number f ≡ 4) ⊎ ((refusal_number f ≡ 9) ⊎ (refusal_number f ≡ 5))
    → pick_number (Ok (choice one two)) ≡ refusal_number f → ⊥
choice_apart one two f h e = go (carries one.answer) (carries two.answer) e
  where
    go : (x y : Bool) → pick_number (Ok (cond x (pick.First one) (cond y (pick.Second two) (pick.Neither one)))) ≡ refusal_number f → ⊥
    go true y e = answer_apart one.answer f h e
    go false true e = answer_apart two.answer f h e
    go false false e = answer_apart one.answer f h e

-- A pick whose number is that of a refusal in its list is that refusal.
pick_told : (v : Verdict Refusal) (one two : Record) (f : Refusal) → (refusal_number f ≡ 4) ⊎ ((refusal_number f ≡ 9) ⊎ (refusal_number f ≡ 5))
    → pick_number (by v (Ok (choice one two)) Err) ≡ refusal_number f → by v (Ok (choice one two)) Err ≡ Err f
unfolding by
pick_told passed one two f h e = absurd (choice_apart one two f h e)
pick_told (refused g) one two f h e = ap Err (numbers_apart g f e)

pub doors_refuse : DoorsRefuse
unfolding chosen_of
doors_refuse =
    record {
      format = λ layout cylinder side contents marks before number after p.
          by_tests _ number p.answers;
      read = λ layout cylinder side image given number area records counts p. by_tests _ number p.numbered;
      request = λ layout cylinder side sector mark contents image number plan p.
          by_tests _ number (p.numbered ∙ by_map checked_number _ (Ok _) Err);
      step = λ before mark contents image number plan after p.
          by_tests _ number (p.numbered ∙ by_map checked_number _ (Ok _) Err);
      pick = λ layout sector first ones second twos number taken handed p f listed.
          let v = refusal (pick_tests layout sector (length first) (length second)) in
          let one = numbered_at ones sector in
          let two = numbered_at twos sector in
          let both = exactly (Ok (choice one two)) Err (choice_unrefused one two) (λ g f e. cc) _ (by v (Ok (choice one two)) Err) refl f in (
            λ e. both.0 (pick_told v one two f (pick_numbers layout sector (length first) (length second) f listed) (sym p.numbered ∙ e)),
            λ r. p.numbered ∙ ap pick_number (both.1 r),
          );
    }

pub refused_read_gives_zeros : RefusedReadGivesZeros
unfolding read_answer read_area record_list sector_numbers slots by
refused_read_gives_zeros layout cylinder side image given number area records counts p h =
    go (refusal (read_tests layout cylinder side (length image) given)) (reading (track_of layout cylinder side) image) _ p.numbered p.leaves p.recorded
    p.counted
  where
    go : (v : Verdict Refusal) (r : Reading) (slot : List ℕ) → number ≡ verdict_number v → area ≡ by v slot (λ f. replicate given 0)
        → records ≡ answered_records (by v (Ok r) Err) → counts ≡ answered_counts (by v (Ok r) Err)
        → (area ≡ replicate given 0) × (records ≡ replicate (most_sectors * record_width) 0) × (counts ≡ 0 ∷ 0 ∷ [])
    go passed r slot n a b c = absurd (h n)
    go (refused f) r slot n a b c = (a, b, c)

-- ---- demand 2

-- No refusal has the number 0.
pub none : (f : Refusal) → 0 ≡ refusal_number f → ⊥
none f e = let k = number_known f in absurd (omega arith)

-- Number k of a sector's record in the list.
number_in : (k : ℕ) → k < record_width → (count : ℕ) (records : List Record) (s i : ℕ) → 1 ≤ s → s ≤ count → count ≤ most_sectors → i ≡ (s - 1) * record_width + k
    → get_or (record_list count records) i 0 ≡ get_or (record_numbers (record_at records s)) k 0
unfolding sector_numbers
number_in k h count records s i low inside few e =
    slot_number record_width k ((s - 1) * record_width) i (record_list count records) h e
    ∙ ap (λ (xs : List ℕ). get_or xs k 0) (listed_at_lem count records s low (omega arith))
    ∙ rw (le-leb s count inside)

-- The first is its answer's, the second its place, the third the sum of its doubtful clock cells.
answer_in_lem : (count : ℕ) (records : List Record) (s : ℕ) → 1 ≤ s → s ≤ count → count ≤ most_sectors
    → answer_in (record_list count records) s ≡ answer_number (record_at records s).answer
answer_in_lem count records s low inside few = number_in 0 (omega arith) count records s _ low inside few (omega arith)

pub place_in_lem : (count : ℕ) (records : List Record) (s : ℕ) → 1 ≤ s → s ≤ count → count ≤ most_sectors
    → place_in (record_list count records) s ≡ (record_at records s).place
place_in_lem count records s low inside few = number_in 1 (omega arith) count records s _ low inside few refl

clocks_in_lem : (count : ℕ) (records : List Record) (s : ℕ) → 1 ≤ s → s ≤ count → count ≤ most_sectors
    → clocks_in (record_list count records) s ≡ (record_at records s).clocks
clocks_in_lem count records s low inside few = number_in 2 (omega arith) count records s _ low inside few refl

-- A read that gives 0 hands back what its track holds.
pub accepted_read : (layout cylinder side : ℕ) (image : List ℕ) (given : ℕ) (area records counts : List ℕ)
    → GivesRead layout cylinder side image given 0 area records counts
    → read_answer layout cylinder side image given ≡ Ok (reading (track_of layout cylinder side) image)
unfolding read_answer
accepted_read layout cylinder side image given area records counts p =
    let v = refusal (read_tests layout cylinder side (length image) given) in
    taken v (by_passed 0 refusal_number none numbers_apart v 0 p.numbered refl) (Ok (reading (track_of layout cylinder side) image)) Err

module _ (layout cylinder side : ℕ) (image : List ℕ) (given : ℕ) (area records counts : List ℕ)
    (p : GivesRead layout cylinder side image given 0 area records counts) where
  -- It is a read that is not refused,
  pub accepted_reads : Reads layout cylinder side image given (Ok (reading (track_of layout cylinder side) image)) area
  accepted_reads = record { answers = sym (accepted_read layout cylinder side image given area records counts p); leaves = p.leaves }

  -- and the numbers of its answers are those that are handed out.
  pub accepted_number : (s : ℕ) → Numbered (layout_of layout) s
      → answer_in records s ≡ answer_number (record_at (reading (track_of layout cylinder side) image).records s).answer
  accepted_number s named =
      let hands = reading (track_of layout cylinder side) image in
      let told = accepted_read layout cylinder side image given area records counts p in
      ap (λ (xs : List ℕ). answer_in xs s) (p.recorded ∙ ap answered_records told)
      ∙ answer_in_lem hands.sectors hands.records s named.0 named.1 (modest layout).1

pub refused_sectors_give_zeros : RefusedSectorsGiveZeros
refused_sectors_give_zeros layout cylinder side image given area records counts s p named high =
    let same = accepted_number layout cylinder side image given area records counts p s named in
    refused_sectors_leave_zeros layout cylinder side image given (reading (track_of layout cylinder side) image) area s
    (accepted_reads layout cylinder side image given area records counts p) named (omega (arith, same))

pub gives_back_as_written : GivesBackAsWritten
unfolding read_answer
gives_back_as_written layout cylinder side contents marks before image number area records counts small formatted read =
    let v = refusal (format_tests layout cylinder side contents marks (length before)) in
    let written : v ≡ passed = by_passed 0 refusal_number none numbers_apart v 0
    formatted.answers refl in
    let w = refusal (read_tests layout cylinder side (length image) (layout_of layout).area_bytes) in
    let back = format_then_read layout cylinder side contents marks before image (read_answer layout cylinder side image (layout_of layout).area_bytes) area small
    (record { answers = told_passing v written; leaves = formatted.leaves })
    (record { answers = refl; leaves = read.leaves }) in
    let hands = back.reading in
    let accepted : w ≡ passed = (passed_with w hands _ (sym back.accepted)).0 in
    let listed = read.recorded ∙ ap answered_records back.accepted in
    let few = modest layout in
    record {
      accepted = read.numbered ∙ taken w accepted 0 refusal_number;
      answered = λ s h.
          let inside : s ≤ hands.sectors = rw back.counted h.1 in
          ap (λ (xs : List ℕ). answer_in xs s) listed
          ∙ answer_in_lem hands.sectors hands.records s h.0 inside (rw back.counted few.1)
          ∙ back.answers s h;
      places = λ s h.
          let inside : s ≤ hands.sectors = rw back.counted h.1 in
          ap (λ (xs : List ℕ). place_in xs s) listed
          ∙ place_in_lem hands.sectors hands.records s h.0 inside (rw back.counted few.1)
          ∙ back.places s h;
      clocks = λ s h.
          let inside : s ≤ hands.sectors = rw back.counted h.1 in
          ap (λ (xs : List ℕ). clocks_in xs s) listed
          ∙ clocks_in_lem hands.sectors hands.records s h.0 inside (rw back.counted few.1)
          ∙ back.clocks s h;
      slots = back.slots;
      counted = read.counted ∙ ap answered_counts back.accepted ∙ ap₂ (λ (a b : ℕ). a ∷ b ∷ []) back.bad back.foreign;
    }

-- ---- what a pick hands on

pub refused_pick_gives_zeros : RefusedPickGivesZeros
unfolding chosen_of by
refused_pick_gives_zeros layout sector first ones second twos number taken handed f p e = (p.placed ∙ rw e, p.recorded ∙ rw e)

-- The numbers of a record that `station_read` gave say that record, and no other.
numbers_back : (layout cylinder side : ℕ) (image : List ℕ) (given : ℕ) (area records counts : List ℕ)
    → GivesRead layout cylinder side image given 0 area records counts
    → (s : ℕ) → 1 ≤ s → s ≤ (layout_of layout).sectors → record_numbers (numbered_at records s) ≡ slot_in record_width s records
unfolding sector_numbers
numbers_back layout cylinder side image given area records counts p s low high =
    let hands = reading (track_of layout cylinder side) image in
    let told = accepted_read layout cylinder side image given area records counts p in
    let few = (modest layout).1 in
    let listed = p.recorded ∙ ap answered_records told in
    ap record_numbers (read_back layout cylinder side image given 0 area records counts p hands told s low (omega arith) high)
    ∙ sym (ap (slot_in record_width s) listed ∙ listed_at_lem hands.sectors hands.records s low (omega arith) ∙ rw (le-leb s hands.sectors high))

-- By which pass is taken, its record is handed on.
choice_hands : (l : Layout) (sector : ℕ) (ones twos : List ℕ) (one two : Record) → record_numbers one ≡ slot_in record_width sector ones
    → record_numbers two ≡ slot_in record_width sector twos → HandsOn sector ones twos (part_of l sector (Ok (choice one two))) (handed_on (Ok (choice one two)))
choice_hands l sector ones twos one two e f = go (carries one.answer) (carries two.answer)
  where
    go : (x y : Bool)
        → let p = cond x (pick.First one) (cond y (pick.Second two) (pick.Neither one)) in HandsOn sector ones twos (part_of l sector (Ok p)) (handed_on (Ok p))
    go true y = record { first = λ h. e; second = λ h. absurd (omega arith); neither = λ h. absurd (omega arith); only = inl refl }
    go false true = record { first = λ h. absurd (omega arith); second = λ h. f; neither = λ h. absurd (omega arith); only = inr (inl refl) }
    go false false = record { first = λ h. absurd (omega arith); second = λ h. absurd (omega arith); neither = λ h. e; only = inr (inr refl) }

pub pick_hands_on : PickHandsOn
unfolding chosen_of by
pick_hands_on layout cylinder side sector image other first ones counts second twos sums number taken handed p q r passes =
    let k = pickable layout sector (length first) (length second) passes in
    let one = numbered_at ones sector in
    let two = numbered_at twos sector in
    let hands = choice_hands (layout_of layout) sector ones twos one two
    (numbers_back layout cylinder side image (length first) first ones counts p sector k.low k.high)
    (numbers_back layout cylinder side other (length second) second twos sums q sector k.low k.high) in
    rw (r.placed, r.recorded, passes) hands
