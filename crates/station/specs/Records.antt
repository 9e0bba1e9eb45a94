-- A record in numbers, as `station_read` hands out the records of a track and `station_pick` takes them back. What is known of a sector is said in
-- `read`.
use Rattle.std.specs.Prelude.{cond, List, [], ◌∷◌, ℕ, leb, get_or, replicate}
use Rattle.layouts.specs.Layouts.{most_sectors, numbers, slot_in}
use Rattle.answers.specs.Answers.{answer_number, answer_of, record_at}
use Rattle.read.specs.Records.{slots}
use Rattle.answers.specs.declared.Record.{Record}

-- How many numbers a record is handed out in.
abbrev pub record_width : ℕ
record_width = 3

-- A record's numbers: its answer's (01, "How a track is read"), its place (02, Req 01), and how many of its clock cells are doubtful (02, Req 06).
abbrev pub record_numbers : Record → List ℕ
record_numbers r = answer_number r.answer ∷ r.place ∷ r.clocks ∷ []

-- The record that has these numbers (the law `record_back`). A first number that is no answer's counts as 21; the others are taken as they are
-- (02, Req 06), and one that is missing counts as 0.
abbrev pub numbered_record : List ℕ → Record
numbered_record given = record { answer = answer_of (get_or given 0 0); place = get_or given 1 0; clocks = get_or given 2 0 }

-- The numbers of sector s, or zeros past the count (01, "How a track is read").
unfoldable pub sector_numbers : (count : ℕ) → List Record → ℕ → List ℕ
sector_numbers count records s = cond (leb s count) (record_numbers (record_at records s)) (replicate record_width 0)

-- The numbers of all sectors, one behind the other.
unfoldable pub record_list : (count : ℕ) → List Record → List ℕ
record_list count records = slots (sector_numbers count records) (numbers most_sectors 1)

-- The record of a sector, by the numbers of all sectors.
abbrev pub numbered_at : List ℕ → (sector : ℕ) → Record
numbered_at list sector = numbered_record (slot_in record_width sector list)
