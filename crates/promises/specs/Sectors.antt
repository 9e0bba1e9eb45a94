-- How one sector of an image reads, and what a sector reads back as that was written: what demands 2 and 3 say of it. It is said in the papers'
-- numbers (01, "How a track is read"; 02, Req 04).
use Rattle.std.specs.Prelude.{cond, List, ◌∷◌, ◌≡◌, ℕ, ◌-◌, ◌*◌, eqb, length, get_or, replicate}
use Rattle.cells.specs.Cells.{cell}
use Rattle.layouts.specs.declared.Track.{Track}
use Rattle.marks.specs.Marks.{mark_byte}
use Rattle.marks.specs.declared.Mark.TheVariants.{Control}
use Rattle.read.specs.Records.{Sector, sector_of}
use Rattle.answers.specs.Answers.{answer_number}
use Rattle.answers.specs.Letters.{letter_f, is_defective}
use Rattle.walk.specs.Outcomes.{met}

-- How sector x of an image of this track reads.
abbrev pub sector_in : Track → List ℕ → ℕ → Sector
sector_in t image x = sector_of t (cell image) (8 * length image) (met t image) x

-- What is said of a sector: the number of its answer, and what its slot holds.
pub record Back : Type 0 where
  pub number : ℕ
  pub bytes : List ℕ

-- What a sector reads back as that was written on this cylinder with this mark byte and these bytes: after FB 1 and the bytes; after F8 2 and the bytes,
-- or, where they tell of a defective area (on cylinders 1 to 74, F first), 3 and F followed by zeros (02, Req 04).
abbrev pub reads_back : (cylinder mark : ℕ) → List ℕ → Back
reads_back cylinder mark bytes =
    cond (is_defective cylinder mark (get_or bytes 0 0)) (record { number = 3; bytes = letter_f ∷ replicate (length bytes - 1) 0 })
    (record { number = cond (eqb mark (mark_byte Control)) 2 1; bytes = bytes })

-- What a sector of this size reads as whose rewrite is under way: refused as open, and zeros.
abbrev pub under_way : (size : ℕ) → Back
under_way size = record { number = 25; bytes = replicate size 0 }

-- A sector reads so.
pub record ReadsSo (sector : Sector) (back : Back) : Type 0 where
  pub answers : answer_number sector.known.answer ≡ back.number
  pub holds : sector.slot ≡ back.bytes
