-- Demand 1, of the reader: a refused read leaves zeros; old contents of the area never show; and what is picked of two passes is of one of them.
use Rattle.std.specs.Prelude.{List, [], ◌≡◌, true, false, ℕ, ◌≤◌, length, replicate, Result, Ok, Err}
use Rattle.layouts.specs.Layouts.{layout_of, slot_in}
use Rattle.layouts.specs.declared.Layout.{Layout}
use Rattle.calls.specs.declared.Refusal.{Refusal}
use Rattle.layouts.specs.declared.Track.{Track}
use Rattle.format.specs.Order.{Numbered}
use Rattle.answers.specs.Answers.{answer_number, carries, record_at}
use Rattle.read.specs.Outcomes.{Reads}
use Rattle.pick.specs.Picks.{IsPicked, IsStretch}
use Rattle.read.specs.declared.Reading.{Reading}
use Rattle.answers.specs.declared.Record.{Record}
use Rattle.pick.specs.declared.Choice.{Choice}
use Rattle.pick.specs.declared.Choice.TheVariants.{First, Second, Neither}
use Rattle.promises.specs.Sectors.{sector_in}

-- Nothing old shows: two reads of one image into areas of one length have the same answer and leave the same, whatever the areas held before.
abbrev pub NothingOldShows : Type 0
NothingOldShows =
    (layout cylinder side : ℕ) (image before before' : List ℕ) (answer answer' : Result Reading Refusal) (after after' : List ℕ)
    → length before ≡ length before'
    → Reads layout cylinder side image (length before) answer after
    → Reads layout cylinder side image (length before') answer' after'
    → (answer ≡ answer') × (after ≡ after')

-- A refused read leaves zeros, in an area of any length.
abbrev pub RefusedLeavesZeros : Type 0
RefusedLeavesZeros =
    (layout cylinder side : ℕ) (image : List ℕ) (given : ℕ) (answer : Result Reading Refusal) (after : List ℕ) (f : Refusal)
    → Reads layout cylinder side image given answer after
    → answer ≡ Err f
    → after ≡ replicate given 0

-- A refused sector's slot is all zero, whatever the image: where the number of the answer is 21 or above, no byte is handed out.
abbrev pub RefusedSlotsAreZero : Type 0
RefusedSlotsAreZero =
    (t : Track) (image : List ℕ) (s : ℕ)
    → 21 ≤ answer_number (sector_in t image s).known.answer
    → (sector_in t image s).slot ≡ replicate t.layout.size 0

-- In the words of `read`: the slot in the area of such a sector.
abbrev pub RefusedSectorsLeaveZeros : Type 0
RefusedSectorsLeaveZeros =
    (layout cylinder side : ℕ) (image : List ℕ) (given : ℕ) (reading : Reading) (after : List ℕ) (s : ℕ)
    → Reads layout cylinder side image given (Ok reading) after
    → Numbered (layout_of layout) s
    → 21 ≤ answer_number (record_at reading.records s).answer
    → slot_in (layout_of layout).size s after ≡ replicate (layout_of layout).size 0

-- What is picked, and the part handed back, of a sector whose records in both passes are these: the slot of the first area if that pass answered, else
-- of the second if that one did, else nothing, as where the call is refused.
pub record OfOnePass (l : Layout) (sector : ℕ) (first second : List ℕ) (one two : Record) (answer : Result Choice Refusal) (part : List ℕ) : Type 0 where
  pub of_first : (r : Record) → answer ≡ Ok (First r) → (r ≡ one) × (carries one.answer ≡ true) × (part ≡ slot_in l.size sector first)
  pub of_second :
      (r : Record) → answer ≡ Ok (Second r)
      → (r ≡ two) × (carries one.answer ≡ false) × (carries two.answer ≡ true) × (part ≡ slot_in l.size sector second)
  pub of_neither :
      (r : Record) → answer ≡ Ok (Neither r)
      → (r ≡ one) × (carries one.answer ≡ false) × (carries two.answer ≡ false) × (part ≡ [])
  pub of_refused : (f : Refusal) → answer ≡ Err f → part ≡ []

-- The part that is picked is the slot of one area, the one that `picked` names: never a sector put together from both.
abbrev pub PartOfOnePass : Type 0
PartOfOnePass =
    (layout sector : ℕ) (first : List ℕ) (one : List Record) (second : List ℕ) (two : List Record) (answer : Result Choice Refusal) (part : List ℕ)
    → IsPicked layout sector first one second two answer
    → IsStretch layout sector first one second two part
    → OfOnePass (layout_of layout) sector first second (record_at one sector) (record_at two sector) answer part
