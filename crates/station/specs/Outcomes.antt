-- What each exported function promises to C and Rust. No rule of the papers stands here: each cites the crate that owns it.
use Rattle.std.specs.Prelude.{List, [], ◌∷◌, ◌≡◌, ℕ, ◌+◌, ◌*◌, length, get_or, replicate, Result, Ok, Err}
use Rattle.cells.specs.Cells.{cell, data_byte}
use Rattle.coding.specs.Coding.{high, low}
use Rattle.cells.specs.declared.Mode.{Mode}
use Rattle.edc.specs.Register.{edc_of}
use Rattle.format.specs.Outcomes.{format_image}
use Rattle.format.specs.Refusals.{format_tests}
use Rattle.layouts.specs.Layouts.{layout_of, most_sectors}
use Rattle.calls.specs.Refusals.{refusal_number, checked_number}
use Rattle.calls.specs.declared.Refusal.{Refusal}
use Rattle.read.specs.Outcomes.{read_tests, read_answer, read_area}
use Rattle.read.specs.declared.Reading.{Reading}
use Rattle.rewrite.specs.Outcomes.{stores_in_all, step_answer, step_image}
use Rattle.request.specs.Outcomes.{request_answer}
use Rattle.rewrite.specs.declared.Plan.{Plan}
use Rattle.verdicts.specs.Tests.{Verdict, refusal, by}
use Rattle.station.specs.Picks.{numbered_choice, pick_number, handed_on, part_of}
use Rattle.station.specs.Records.{record_width, record_list}

-- `station_edc` answers the EDC of the bytes.
abbrev pub GivesEdc : List ℕ → ℕ → Type 0
GivesEdc bytes answer = answer ≡ edc_of bytes

-- `station_code_fm` and `station_code_mfm` answer the two image bytes of a byte after a bit, the first in the upper half.
abbrev pub GivesCoded : Mode → ℕ → ℕ → ℕ → Type 0
GivesCoded mode before byte answer = answer ≡ high mode before byte * 256 + low mode byte

-- `station_data_byte` answers the data byte of the sixteen cells from a place on.
abbrev pub GivesDataByte : List ℕ → ℕ → ℕ → Type 0
GivesDataByte image place answer = answer ≡ data_byte (cell image) place

-- The number of a verdict: 0, or the refusal's (01, "Refused calls").
abbrev pub verdict_number : Verdict Refusal → ℕ
verdict_number v = by v 0 refusal_number

-- `station_format` answers 0, and leaves the track in the image; or the number of the first refusal that applies, and leaves the image as
-- it was.
pub record GivesFormat (layout cylinder side : ℕ) (contents marks before : List ℕ) (answer : ℕ) (after : List ℕ) : Type 0 where
  pub answers : answer ≡ verdict_number (refusal (format_tests layout cylinder side contents marks (length before)))
  pub leaves : after ≡ format_image layout cylinder side contents marks before

-- The records by sector of what a read answers, in numbers, and the counts of bad and of foreign identifiers; refused, zeros.
abbrev pub answered_records : Result Reading Refusal → List ℕ
answered_records (Ok reading) = record_list reading.sectors reading.records
answered_records (Err f) = replicate (most_sectors * record_width) 0

abbrev pub answered_counts : Result Reading Refusal → List ℕ
answered_counts (Ok reading) = reading.bad ∷ reading.foreign ∷ []
answered_counts (Err f) = 0 ∷ 0 ∷ []

-- `station_read` gives the verdict's number, the records by sector in numbers, the two counts, and what the read leaves in the area.
pub record GivesRead (layout cylinder side : ℕ) (image : List ℕ) (given number : ℕ) (area records counts : List ℕ) : Type 0 where
  pub numbered : number ≡ verdict_number (refusal (read_tests layout cylinder side (length image) given))
  pub leaves : area ≡ read_area layout cylinder side image given
  pub recorded : records ≡ answered_records (read_answer layout cylinder side image given)
  pub counted : counts ≡ answered_counts (read_answer layout cylinder side image given)

-- `station_pick` gives the number of what is picked from two passes, by the numbers of their records, where its bytes are, and the record that is
-- handed on.
pub record GivesPick (layout sector : ℕ) (first ones second twos : List ℕ) (number : ℕ) (taken handed : List ℕ) : Type 0 where
  pub numbered : number ≡ pick_number (numbered_choice layout sector first ones second twos)
  pub placed : taken ≡ part_of (layout_of layout) sector (numbered_choice layout sector first ones second twos)
  pub recorded : handed ≡ handed_on (numbered_choice layout sector first ones second twos)

-- A plan in four numbers: its layout, the cell at which the block's mark begins, the stores made, and the stores in all in an image of so many
-- bytes.
abbrev pub plan_numbers : Plan → (bytes : ℕ) → List ℕ
plan_numbers plan bytes = plan.layout ∷ plan.place ∷ plan.made ∷ stores_in_all plan bytes ∷ []

-- The plan that four numbers say. The fourth is not looked at.
abbrev pub numbered_plan : List ℕ → Plan
numbered_plan numbers = record { layout = get_or numbers 0 0; place = get_or numbers 1 0; made = get_or numbers 2 0 }

-- What a request's answer leaves in the plan: its numbers, or zeros.
abbrev pub noted : Result Plan Refusal → (bytes : ℕ) → List ℕ
noted (Ok plan) bytes = plan_numbers plan bytes
noted (Err f) bytes = replicate 4 0

-- What a step's answer leaves in the plan: it is moved on, or as it was.
abbrev pub moved : Result Plan Refusal → (before : List ℕ) → (bytes : ℕ) → List ℕ
moved (Ok plan) before bytes = plan_numbers plan bytes
moved (Err f) before bytes = before

-- `station_request` gives 0 and the plan's numbers; or the number of the first refusal that applies, and zeros.
pub record GivesRequest (layout cylinder side sector mark : ℕ) (contents image : List ℕ) (number : ℕ) (plan : List ℕ) : Type 0 where
  pub numbered : number ≡ checked_number (request_answer layout cylinder side sector mark contents image)
  pub notes : plan ≡ noted (request_answer layout cylinder side sector mark contents image) (length image)

-- `station_step` gives 0, the plan moved on and the image with one store made; or the number of the first refusal that applies, with plan and
-- image as they were.
pub record GivesStep (before : List ℕ) (mark : ℕ) (contents image : List ℕ) (number : ℕ) (plan after : List ℕ) : Type 0 where
  pub numbered : number ≡ checked_number (step_answer (numbered_plan before) mark contents image)
  pub moves : plan ≡ moved (step_answer (numbered_plan before) mark contents image) before (length image)
  pub leaves : after ≡ step_image (numbered_plan before) mark contents image
