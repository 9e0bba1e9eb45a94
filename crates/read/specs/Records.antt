-- What reading answers, as functions of what the walk meets and of the cells: what is known of each sector, its record and its slot
-- (01, "How a track is read"; 02, Req 01, 04 and 06).
use Rattle.std.specs.Prelude.{cond, List, [], ◌∷◌, ◌++◌, map, ℕ, ◌+◌, ◌-◌, leb, get_or, replicate}
use Rattle.cells.specs.Cells.{data_bytes, bytes_clocks}
use Rattle.layouts.specs.Layouts.{most_sectors, numbers}
use Rattle.layouts.specs.declared.Track.{Track}
use Rattle.marks.specs.Marks.{mark_cells, last_bit, stands}
use Rattle.marks.specs.declared.Mark.{Mark}
use Rattle.marks.specs.declared.Mark.TheVariants as marks
use Rattle.walk.specs.Walk.{edc_right}
use Rattle.walk.specs.Events.{blocks}
use Rattle.walk.specs.declared.Block.{Block}
use Rattle.walk.specs.declared.Block.TheVariants.{Missing, Beyond, Within}
use Rattle.walk.specs.declared.Event.{Event}
use Rattle.answers.specs.Answers.{no_place}
use Rattle.answers.specs.Letters.{letter_f, answer_after}
use Rattle.answers.specs.declared.Fault.{Fault}
use Rattle.answers.specs.declared.Fault.TheVariants.{NoIdentifier, Doubled, NoBlock, PastEnd, OpenMark}
use Rattle.answers.specs.declared.Answer.{Answer}
use Rattle.answers.specs.declared.Answer.TheVariants.{Data, Control, Defective, Refused}
use Rattle.answers.specs.declared.Record.{Record}

-- What is known of a sector: its record, and what its slot holds.
pub record Sector : Type 0 where
  pub known : Record
  pub slot : List ℕ

-- What each of these sectors has, one behind the other.
unfoldable pub slots : (ℕ → List ℕ) → List ℕ → List ℕ
slots f [] = []
slots f (s ∷ ss) = f s ++ slots f ss

module _ (size : ℕ) where
  -- What an answer leaves in the slot, of size bytes, of a block with these bytes: the bytes, F followed by zeros, or zeros.
  abbrev pub slot_of : Answer → List ℕ → List ℕ
  slot_of (Refused fault) bytes = replicate size 0
  slot_of Data bytes = bytes
  slot_of Control bytes = bytes
  slot_of Defective bytes = letter_f ∷ replicate (size - 1) 0

  -- The sector with an answer, a place and so many doubtful clock cells, of a block with these bytes.
  abbrev pub answering : Answer → (place clocks : ℕ) → List ℕ → Sector
  answering answer place clocks bytes = record { known = record { answer = answer; place = place; clocks = clocks }; slot = slot_of answer bytes }

  -- The sector that is refused with a fault, and has this place: where no whole block was found, and for 22. It has no bytes, and no clock cell of it
  -- counts (02, Req 06).
  abbrev pub refused : Fault → (place : ℕ) → Sector
  refused fault place = answering (Refused fault) place 0 []

module _ (t : Track) (c : ℕ → ℕ) (n : ℕ) where
  -- The N data bytes of the block at m.
  unfoldable pub block_bytes : ℕ → List ℕ
  block_bytes m = data_bytes c (m + mark_cells t.layout.mode) t.layout.size

  -- What it answers after a data or a control mark.
  unfoldable pub block_after : Mark → ℕ → Answer
  block_after mark m =
      answer_after t.cylinder mark (get_or (block_bytes m) 0 0)
      (edc_right t.layout.mode c mark (m + mark_cells t.layout.mode) (t.layout.size + 2))

  -- Its answer by itself. A data, control or open mark stands at m; an open mark's EDC is not looked at.
  unfoldable pub block_answer : ℕ → Answer
  block_answer m =
      cond (stands t.layout.mode c n marks.Open m) (Refused OpenMark)
      (cond (stands t.layout.mode c n marks.Control m) (block_after marks.Control m) (block_after marks.Data m))

  -- The mark that stands there.
  unfoldable pub mark_at : ℕ → Mark
  mark_at m =
      cond (stands t.layout.mode c n marks.Open m) marks.Open
      (cond (stands t.layout.mode c n marks.Control m) marks.Control marks.Data)

  -- How many clock cells of its N + 2 bytes are doubtful, the first of them after the last bit of the mark that stands there (02, Req 06). The mark's own do
  -- not count.
  unfoldable pub block_clocks : ℕ → ℕ
  block_clocks m = bytes_clocks t.layout.mode c (last_bit (mark_at m)) (m + mark_cells t.layout.mode) (t.layout.size + 2)

  -- What one accepted identifier makes of its sector. The place is the cell at which the block's mark begins (02, Req 01).
  unfoldable pub identifier_record : Block → Sector
  identifier_record Missing = refused t.layout.size NoBlock no_place
  identifier_record (Beyond m) = refused t.layout.size PastEnd m
  identifier_record (Within m) = answering t.layout.size (block_answer m) m (block_clocks m) (block_bytes m)

  -- What a sector is, by what its accepted identifiers gave. Without one, and with more than one, it has no place and no doubtful
  -- clock cells (02, Req 01 and 06).
  unfoldable pub record_for : List Block → Sector
  record_for [] = refused t.layout.size NoIdentifier no_place
  record_for (b ∷ []) = identifier_record b
  record_for (b ∷ x ∷ bs) = refused t.layout.size Doubled no_place

  -- Sector s, by what the walk met. One past the layout's count is not there: it is refused with 21.
  unfoldable pub sector_of : List Event → ℕ → Sector
  sector_of es s = cond (leb s t.layout.sectors) (record_for (blocks s es)) (refused t.layout.size NoIdentifier no_place)

  -- The records, by sector number: what each sector answers, its place, and how many of its clock cells are doubtful.
  unfoldable pub records_of : List Event → List Record
  records_of es = map (λ s. (sector_of es s).known) (numbers most_sectors 1)

  -- The area that is lent to the read: the slots of the sectors, one behind the other.
  unfoldable pub area_of : List Event → List ℕ
  area_of es = slots (λ s. (sector_of es s).slot) (numbers t.layout.sectors 1)
