-- Records with the letter F (02, Req 04; 004, 7.4.2.4.3): what the first byte of a control record decides, of every sector of every image.
use Rattle.std.specs.Prelude.{List, ◌∷◌, ◌≡◌, ℕ, ◌-◌, get_or, replicate, Ok}
use Rattle.answers.specs.Answers.{answer_number, record_at}
use Rattle.answers.specs.Letters.{letter_f}
use Rattle.calls.specs.Refusals.{letter_d}
use Rattle.format.specs.Order.{Numbered}
use Rattle.layouts.specs.Layouts.{layout_of, slot_in}
use Rattle.layouts.specs.declared.Track.{Track}
use Rattle.read.specs.Outcomes.{Reads}
use Rattle.read.specs.declared.Reading.{Reading}
use Rattle.station.specs.Outcomes.{GivesRead}
use Rattle.promises.specs.Doors.{answer_in}
use Rattle.promises.specs.Sectors.{sector_in}

-- What the number of a sector's answer says on this cylinder of its slot, which has so many bytes.
pub record Lettered (cylinder size number : ℕ) (slot : List ℕ) : Type 0 where
  -- 3, a defective area: on cylinders 1 to 74 only, and F followed by zeros is all that is handed out.
  pub defective : number ≡ 3 → (cylinder ≡ 0 → ⊥) × (slot ≡ letter_f ∷ replicate (size - 1) 0)
  -- 27: on cylinder 0 only, and nothing is handed out.
  pub forbidden : number ≡ 27 → (cylinder ≡ 0) × (slot ≡ replicate size 0)
  -- 2: what is handed out as a control record begins on cylinder 0 with D, and elsewhere not with F.
  pub zeroth : number ≡ 2 → cylinder ≡ 0 → get_or slot 0 0 ≡ letter_d
  pub elsewhere : number ≡ 2 → (cylinder ≡ 0 → ⊥) → get_or slot 0 0 ≡ letter_f → ⊥

pub record LettersDecide : Type 0 where
  -- Of every sector of every image,
  pub sectors : (t : Track) (image : List ℕ) (s : ℕ)
      → Lettered t.cylinder t.layout.size (answer_number (sector_in t image s).known.answer) (sector_in t image s).slot
  -- in the words of `read`,
  pub read : (layout cylinder side : ℕ) (image : List ℕ) (given : ℕ) (reading : Reading) (after : List ℕ) (s : ℕ)
      → Reads layout cylinder side image given (Ok reading) after
      → Numbered (layout_of layout) s
      → Lettered cylinder (layout_of layout).size (answer_number (record_at reading.records s).answer) (slot_in (layout_of layout).size s after)
  -- and at the door.
  pub door : (layout cylinder side : ℕ) (image : List ℕ) (given : ℕ) (area records counts : List ℕ) (s : ℕ)
      → GivesRead layout cylinder side image given 0 area records counts
      → Numbered (layout_of layout) s
      → Lettered cylinder (layout_of layout).size (answer_in records s) (slot_in (layout_of layout).size s area)
