-- A pick in numbers: the number of what is picked, its record, and where its bytes are. What is picked is said in `pick`.
use Rattle.std.specs.Prelude.{List, [], ◌∷◌, ℕ, ◌-◌, ◌*◌, ◌≤◌, length, replicate, Result, Ok, Err}
use Rattle.layouts.specs.Layouts.{most_sectors}
use Rattle.calls.specs.Refusals.{refusal_number}
use Rattle.calls.specs.declared.Refusal.{Refusal}
use Rattle.layouts.specs.declared.Layout.{Layout}
use Rattle.answers.specs.Answers.{answer_number}
use Rattle.pick.specs.Picks.{chosen_of}
use Rattle.answers.specs.declared.Record.{Record}
use Rattle.pick.specs.declared.Choice.{Choice}
use Rattle.pick.specs.declared.Choice.TheVariants.{First, Second, Neither}
use Rattle.station.specs.Records.{record_width, record_numbers, numbered_at}

-- What is picked of two passes, by their areas and the numbers of their records.
abbrev pub numbered_choice : (layout sector : ℕ) → (first ones second twos : List ℕ) → Result Choice Refusal
numbered_choice layout sector first ones second twos =
    chosen_of layout sector (length first) (length second) (numbered_at ones sector) (numbered_at twos sector)

-- The record that goes with a choice: of the pass that is taken, or of the first where neither answered.
abbrev pub chosen_record : Choice → Record
chosen_record (First r) = r
chosen_record (Second r) = r
chosen_record (Neither r) = r

-- The number of what is picked: its answer's, or the refusal's.
abbrev pub pick_number : Result Choice Refusal → ℕ
pick_number (Ok choice) = answer_number (chosen_record choice).answer
pick_number (Err f) = refusal_number f

-- The numbers of the record that is handed on: of the pass that is taken, or of the first where neither answered; zeros where the call is refused
-- (02, Req 01 and Req 06).
abbrev pub handed_on : Result Choice Refusal → List ℕ
handed_on (Ok choice) = record_numbers (chosen_record choice)
handed_on (Err f) = replicate record_width 0

-- The slot of a sector in the area of a pass, in three numbers: the pass, its first byte, and its bytes.
abbrev pub slot_part : Layout → (sector pass : ℕ) → List ℕ
slot_part l sector pass = pass ∷ (sector - 1) * l.size ∷ l.size ∷ []

-- Where the bytes are of what is picked: 1 for the first pass and 2 for the second; zeros where no pass is taken.
abbrev pub choice_part : Layout → (sector : ℕ) → Choice → List ℕ
choice_part l sector (First r) = slot_part l sector 1
choice_part l sector (Second r) = slot_part l sector 2
choice_part l sector (Neither r) = replicate 3 0

-- The same of an answer: zeros too where the call is refused.
abbrev pub part_of : Layout → (sector : ℕ) → Result Choice Refusal → List ℕ
part_of l sector (Ok choice) = choice_part l sector choice
part_of l sector (Err f) = replicate 3 0

-- The sector is among those that there are. (This and `Taken` are aids of the code; no promise rests on them.)
abbrev pub There : (sector : ℕ) → Type 0
There sector = (1 ≤ sector) × (sector ≤ most_sectors)

-- Where a pass is taken, it is.
abbrev pub Taken : (sector : ℕ) → Choice → Type 0
Taken sector (First r) = There sector
Taken sector (Second r) = There sector
Taken sector (Neither r) = Unit {0}
