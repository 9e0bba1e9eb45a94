-- What the reader does as it goes: how a block's bytes come into a slot, and what is known of a sector once one more of its identifiers was accepted.
-- (Aids of the code; the law `record_next` says that the latter is the definition's. No promise rests on them.)
use Rattle.std.specs.Prelude.{Bool, true, false, cond, List, ◌≡◌, ℕ, ◌+◌, ◌-◌, ◌*◌, ◌≤◌, length, get_or, replicate}
use Rattle.std.proofs.lemmas.List.Edits.{sets}
use Rattle.cells.specs.Cells.{cell, data_byte, data_bytes, bytes_clocks}
use Rattle.cells.specs.declared.Mode.{Mode}
use Rattle.layouts.specs.Layouts.{most_sectors}
use Rattle.layouts.specs.declared.Layout.{Layout}
use Rattle.layouts.specs.declared.Track.{Track}
use Rattle.marks.specs.Marks.{last_bit}
use Rattle.marks.specs.declared.Mark.{Mark}
use Rattle.marks.specs.declared.Mark.TheVariants as marks
use Rattle.walk.specs.Walk.{edc_right}
use Rattle.walk.specs.Turns.{Placed}
use Rattle.read.specs.Records.{Sector, slot_of, refused, identifier_record}
use Rattle.answers.specs.Answers.{no_place}
use Rattle.answers.specs.Letters.{answer_after}
use Rattle.answers.specs.declared.Fault.TheVariants.{NoIdentifier, Doubled, NoBlock, PastEnd, OpenMark, WrongEdc, ForbiddenLetter}
use Rattle.answers.specs.declared.Answer.{Answer}
use Rattle.answers.specs.declared.Answer.TheVariants.{Data, Control, Defective, Refused}
use Rattle.answers.specs.declared.Record.{Record}
use Rattle.walk.specs.declared.Block.{Block}
use Rattle.walk.specs.declared.Block.TheVariants.{Missing, Beyond, Within}

-- The layout's numbers are small enough for sums of cells, and a sector has a first byte. Those of every layout are so.
abbrev pub Modest : Layout → Type 0
Modest l = (l.size ≤ 65536) × (l.sectors ≤ most_sectors) × (1 ≤ l.size)

-- What a function is lent that reads a block of an image: a layout of small numbers, a block so placed, and a slot for it.
abbrev pub Lent : Track → (image : List ℕ) → Block → (slot : List ℕ) → Type 0
Lent t image block slot =
    Modest t.layout × (length slot ≡ t.layout.size) × Placed t.layout.mode (cell image) (8 * length image) block

-- The same with the area of all sectors, for the block of a sector that there is.
abbrev pub LentAll : Track → (image : List ℕ) → (sector : ℕ) → Block → (area : List ℕ) → Type 0
LentAll t image sector block area =
    Modest t.layout
    × (1 ≤ sector)
    × (sector ≤ t.layout.sectors)
    × Placed t.layout.mode (cell image) (8 * length image) block
    × (length area ≡ t.layout.sectors * t.layout.size)

-- A function that is lent a slot gives the answer of this sector and its doubtful clock cells, and leaves its bytes.
abbrev pub Leaves : Sector → Answer → (clocks : ℕ) → (after : List ℕ) → Type 0
Leaves sector answer clocks after = (answer ≡ sector.known.answer) × (clocks ≡ sector.known.clocks) × (after ≡ sector.slot)

-- The same of a function that gives the whole record.
abbrev pub Gives : Sector → Record → List ℕ → Type 0
Gives sector answer after = (answer ≡ sector.known) × (after ≡ sector.slot)

-- And of one that is lent the whole area: the sector is the one with this number.
abbrev pub Enters : Sector → (size number : ℕ) → (before : List ℕ) → Record → (after : List ℕ) → Type 0
Enters sector size number before answer after = (answer ≡ sector.known) × (after ≡ sets before ((number - 1) * size) sector.slot)

module _ (mode : Mode) (mark : Mark) where
  -- Behind the mark, which ends at cell p: the slot's k bytes are those from there on, the two of the EDC those behind them, and so many clock cells of
  -- them all are doubtful.
  abbrev pub Decodes : (ℕ → ℕ) → (p k high low clocks : ℕ) → (after : List ℕ) → Type 0
  Decodes c p k high low clocks after =
      (after ≡ data_bytes c p k)
      × (high ≡ data_byte c (p + 16 * k))
      × (low ≡ data_byte c (p + 16 * k + 16))
      × (clocks ≡ bytes_clocks mode c (last_bit mark) p (k + 2))

-- Of the k bytes at p, after this mark and on this cylinder: what the block answers, how many of its clock cells are doubtful, and what the answer leaves
-- of the bytes in the slot.
abbrev pub Checks : (cylinder : ℕ) → Mode → Mark → (ℕ → ℕ) → (p k : ℕ) → Answer → (clocks : ℕ) → (after : List ℕ) → Type 0
Checks cylinder mode mark c p k answer clocks after =
    (answer ≡ answer_after cylinder mark (get_or (data_bytes c p k) 0 0) (edc_right mode c mark p (k + 2)))
    × (clocks ≡ bytes_clocks mode c (last_bit mark) p (k + 2))
    × (after ≡ slot_of k answer (data_bytes c p k))

-- The same after an open mark.
abbrev pub Opens : Mode → (ℕ → ℕ) → (p k : ℕ) → Answer → (clocks : ℕ) → (after : List ℕ) → Type 0
Opens mode c p k answer clocks after =
    (answer ≡ Refused OpenMark) × (clocks ≡ bytes_clocks mode c (last_bit marks.Open) p (k + 2)) × (after ≡ replicate k 0)

-- The place that a block gives its sector.
abbrev pub place_of : Block → ℕ
place_of Missing = no_place
place_of (Beyond m) = m
place_of (Within m) = m

-- No identifier of the sector has been accepted.
abbrev pub unmet : Answer → Bool
unmet Data = false
unmet Control = false
unmet Defective = false
unmet (Refused NoIdentifier) = true
unmet (Refused Doubled) = false
unmet (Refused NoBlock) = false
unmet (Refused PastEnd) = false
unmet (Refused OpenMark) = false
unmet (Refused WrongEdc) = false
unmet (Refused ForbiddenLetter) = false

-- The first identifier's block decides; with a second one the sector is doubled. What counts of the record before is the answer.
unfoldable pub next : (t : Track) → (c : ℕ → ℕ) → (n : ℕ) → (before : Answer) → Block → Sector
next t c n before b = cond (unmet before) (identifier_record t c n b) (refused t.layout.size Doubled no_place)
