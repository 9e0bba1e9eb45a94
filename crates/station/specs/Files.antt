-- A file of a read cartridge in numbers, as `station_file_read` and `station_file_write` hand them out (02, Req 03). What a file is, is said in `file`.
use Rattle.std.specs.Prelude.{List, [], ◌∷◌, ◌≡◌, ℕ, replicate, Result, Ok, Err}
use Rattle.file.specs.Contents.{Content}
use Rattle.file.specs.Outcomes.{file_answer, write_answer, write_area}
use Rattle.file.specs.Refusals.{refusal_number}
use Rattle.file.specs.declared.Refusal.{Refusal}
use Rattle.file.specs.declared.Sections.{Sections}
use Rattle.station.specs.Numbers.{number_of}

-- The place and the count of label, tracks, answers and data; zeros of a refused file.
abbrev pub section_numbers : Result Sections Refusal → List ℕ
section_numbers (Ok s) =
    s.label.place
    ∷ s.label.count
    ∷ s.tracks.place
    ∷ s.tracks.count
    ∷ s.answers.place
    ∷ s.answers.count
    ∷ s.«data».place
    ∷ s.«data».count
    ∷ []
section_numbers (Err f) = replicate 8 0

-- The bytes of the file that was written; 0 where it was refused.
abbrev pub written_length : Result ℕ Refusal → List ℕ
written_length (Ok length) = length ∷ []
written_length (Err f) = replicate 1 0

-- `station_file_read` gives 0 and where the sections are; or the number of the first refusal that applies, and zeros.
pub record GivesFileRead (file : List ℕ) (number : ℕ) (sections : List ℕ) : Type 0 where
  pub numbered : number ≡ number_of refusal_number (file_answer file)
  pub placed : sections ≡ section_numbers (file_answer file)

-- `station_file_write` gives 0, the file with zeros behind it, and its length; or the number of the first refusal that applies, zeros in the whole
-- area, and 0.
pub record GivesFileWrite (content : Content) (room number : ℕ) (area length : List ℕ) : Type 0 where
  pub numbered : number ≡ number_of refusal_number (write_answer content room)
  pub leaves : area ≡ write_area content room
  pub counted : length ≡ written_length (write_answer content room)
