-- The sector that is handed back of two passes over one track: the stretch of whichever pass answered with bytes, 1, 2 or 3, the first before the second;
-- never one put together from both (01, "Two passes"; 02, Req 04).
use Rattle.std.specs.Prelude.{cond, List, [], ◌∷◌, ◌++◌, ◌≡◌, ℕ, length, Result, Ok, Err}
use Rattle.layouts.specs.Layouts.{layout_of, slot_in}
use Rattle.layouts.specs.Refusals.{number_test}
use Rattle.calls.specs.Refusals.{area_test, sector_test}
use Rattle.layouts.specs.declared.Layout.{Layout}
use Rattle.calls.specs.declared.Refusal.{Refusal}
use Rattle.verdicts.specs.Tests.{Test, refusal, by}
use Rattle.answers.specs.Answers.{carries, record_at}
use Rattle.answers.specs.declared.Record.{Record}
use Rattle.pick.specs.declared.Choice.{Choice}
use Rattle.pick.specs.declared.Choice.TheVariants.{First, Second, Neither}

-- 9, and 5 of each area (01, "Refused calls").
unfoldable pub area_tests : Layout → (sector first second : ℕ) → List (Test Refusal)
area_tests l sector first second =
    sector_test l.sectors sector ∷ area_test l.area_bytes first ∷ area_test l.area_bytes second ∷ []

-- The refusals of a pick, in the papers' order: 4, 9, 5 (01, "Refused calls").
unfoldable pub pick_tests : (layout sector first second : ℕ) → List (Test Refusal)
pick_tests layout sector first second = (number_test layout ∷ []) ++ area_tests (layout_of layout) sector first second

-- The pass that answered, the first before the second; if neither did, the first pass's record.
abbrev pub choice : Record → Record → Choice
choice one two = cond (carries one.answer) (First one) (cond (carries two.answer) (Second two) (Neither one))

-- What is picked of two records of a sector, by the lengths of the areas that go with them.
unfoldable pub chosen_of : (layout sector first second : ℕ) → Record → Record → Result Choice Refusal
chosen_of layout sector first second one two = by (refusal (pick_tests layout sector first second)) (Ok (choice one two)) Err

-- What is picked of two passes, by their areas and their records.
abbrev pub picked_of : (layout sector : ℕ) → (first : List ℕ) → List Record → (second : List ℕ) → List Record → Result Choice Refusal
picked_of layout sector first one second two = chosen_of layout sector (length first) (length second) (record_at one sector) (record_at two sector)

-- The stretch that goes with what is picked: that pass's slot of that sector, or an empty one.
abbrev pub stretch_in : Layout → (sector : ℕ) → (first second : List ℕ) → Choice → List ℕ
stretch_in l sector first second (First r) = slot_in l.size sector first
stretch_in l sector first second (Second r) = slot_in l.size sector second
stretch_in l sector first second (Neither r) = []

-- The same of an answer: an empty one where the call is refused.
abbrev pub stretch_of : Layout → (sector : ℕ) → (first second : List ℕ) → Result Choice Refusal → List ℕ
stretch_of l sector first second (Ok choice) = stretch_in l sector first second choice
stretch_of l sector first second (Err f) = []

-- `choose` answers what is picked of two records, and `picked` what is picked of two passes.
abbrev pub IsChosen : (layout sector first second : ℕ) → Record → Record → Result Choice Refusal → Type 0
IsChosen layout sector first second one two answer = answer ≡ chosen_of layout sector first second one two

abbrev pub IsPicked : (layout sector : ℕ) → (first : List ℕ) → List Record → (second : List ℕ) → List Record → Result Choice Refusal → Type 0
IsPicked layout sector first one second two answer = answer ≡ picked_of layout sector first one second two

-- `pick` hands back the stretch that goes with it.
abbrev pub IsStretch : (layout sector : ℕ) → (first : List ℕ) → List Record → (second : List ℕ) → List Record → List ℕ → Type 0
IsStretch layout sector first one second two stretch =
    stretch ≡ stretch_of (layout_of layout) sector first second (picked_of layout sector first one second two)
