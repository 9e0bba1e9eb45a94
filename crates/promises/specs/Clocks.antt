-- Doubtful clocks (02, Req 06): what the sum in a sector's record is, of every sector of every image; that no answer depends on it; and where it is 0.
use Rattle.std.specs.Prelude.{Bool, true, false, List, [], ◌∷◌, ◌≡◌, ℕ, ◌+◌, ◌*◌, length, replicate, Result, Ok, IsOkAnd, map}
use Rattle.answers.specs.declared.Answer.{Answer}
use Rattle.answers.specs.declared.Answer.TheVariants as answers
use Rattle.answers.specs.declared.Fault.TheVariants.{NoIdentifier, Doubled, NoBlock, PastEnd, OpenMark, WrongEdc, ForbiddenLetter}
use Rattle.answers.specs.declared.Record.{Record}
use Rattle.calls.specs.declared.Refusal.{Refusal}
use Rattle.cells.specs.Cells.{cell, data_bytes, bytes_clocks, Bytes}
use Rattle.format.specs.Order.{Numbered}
use Rattle.format.specs.Outcomes.{Formats}
use Rattle.layouts.specs.Layouts.{layout_of, most_sectors, slot_in}
use Rattle.layouts.specs.Tracks.{track_of}
use Rattle.layouts.specs.declared.Track.{Track}
use Rattle.marks.specs.Marks.{mark_cells, last_bit, stands}
use Rattle.marks.specs.declared.Mark.{Mark}
use Rattle.read.specs.Outcomes.{Reads}
use Rattle.read.specs.Records.{Sector}
use Rattle.read.specs.declared.Reading.{Reading}
use Rattle.request.specs.Outcomes.{Requests}
use Rattle.rewrite.specs.declared.Plan.{Plan}
use Rattle.station.specs.Outcomes.{GivesFormat, GivesRead}
use Rattle.station.specs.Records.{numbered_at}
use Rattle.walk.specs.Events.{blocks}
use Rattle.walk.specs.Outcomes.{met}
use Rattle.walk.specs.declared.Block.{Block}
use Rattle.walk.specs.declared.Block.TheVariants.{Missing, Beyond, Within}
use Rattle.promises.specs.Doors.{clocks_in}
use Rattle.promises.specs.Records.{OfEveryRecord}
use Rattle.promises.specs.Rewriting.{Ran, number}
use Rattle.promises.specs.Sectors.{sector_in}

-- ---- what is counted

-- The answers that say a whole block: 1, 2, 3, 25, 26 and 27.
abbrev pub of_whole : Answer → Bool
of_whole answers.Data = true
of_whole answers.Control = true
of_whole answers.Defective = true
of_whole (answers.Refused OpenMark) = true
of_whole (answers.Refused WrongEdc) = true
of_whole (answers.Refused ForbiddenLetter) = true
of_whole (answers.Refused NoIdentifier) = false
of_whole (answers.Refused Doubled) = false
of_whole (answers.Refused NoBlock) = false
of_whole (answers.Refused PastEnd) = false

-- What the sum of a record says of an image.
pub record Counted (t : Track) (image : List ℕ) (known : Record) : Type 0 where
  -- Where no whole block was found, and for 22, it is 0;
  pub none : of_whole known.answer ≡ false → known.clocks ≡ 0
  -- else it is the sum for the block's N + 2 bytes, the first of them after the last bit of the mark that stands at the sector's place.
  pub some :
      of_whole known.answer ≡ true → (mark : Mark) → stands t.layout.mode (cell image) (8 * length image) mark known.place ≡ true
      → known.clocks ≡ bytes_clocks t.layout.mode (cell image) (last_bit mark) (known.place + mark_cells t.layout.mode) (t.layout.size + 2)

-- Of every sector of every image.
abbrev pub ClocksOfBlock : Type 0
ClocksOfBlock = OfEveryRecord Counted

-- ---- no answer depends on it

-- Each of these blocks, where it is within the images, has the same mark in both and the same N + 2 data bytes. Of the clock cells of its bytes nothing is said.
abbrev pub SameData : Track → (image other : List ℕ) → List Block → Type 0
SameData t image other [] = Unit {0}
SameData t image other (Missing ∷ bs) = SameData t image other bs
SameData t image other (Beyond m ∷ bs) = SameData t image other bs
SameData t image other (Within m ∷ bs) =
    ((mark : Mark) → stands t.layout.mode (cell other) (8 * length other) mark m ≡ stands t.layout.mode (cell image) (8 * length image) mark m)
    × (data_bytes (cell other) (m + mark_cells t.layout.mode) (t.layout.size + 2)
    ≡ data_bytes (cell image) (m + mark_cells t.layout.mode) (t.layout.size + 2))
    × SameData t image other bs

-- Two sectors have the same answer, place and slot; of their doubtful clock cells nothing is said.
pub record Alike (one two : Sector) : Type 0 where
  pub answer : one.known.answer ≡ two.known.answer
  pub place : one.known.place ≡ two.known.place
  pub slot : one.slot ≡ two.slot

-- Two images in which the walk meets the same: a sector whose blocks have the same marks and data bytes has the same answer, place and slot in both,
-- whatever the clock cells of these bytes are.
pub record AnswersWithoutClocks : Type 0 where
  pub sectors : (t : Track) (image other : List ℕ) (s : ℕ)
      → met t other ≡ met t image
      → SameData t image other (blocks s (met t image))
      → Alike (sector_in t other s) (sector_in t image s)
  -- So it is at the door, of the record and the slot that two reads give.
  pub door : (layout cylinder side : ℕ) (image other : List ℕ) (s : ℕ)
      → (given : ℕ) (area records counts : List ℕ) → GivesRead layout cylinder side image given 0 area records counts
      → (lent : ℕ) (slots known bads : List ℕ) → GivesRead layout cylinder side other lent 0 slots known bads
      → Numbered (layout_of layout) s
      → met (track_of layout cylinder side) other ≡ met (track_of layout cylinder side) image
      → SameData (track_of layout cylinder side) image other (blocks s (met (track_of layout cylinder side) image))
      → Alike
      (record { known = numbered_at known s; slot = slot_in (layout_of layout).size s slots })
      (record { known = numbered_at records s; slot = slot_in (layout_of layout).size s area })

-- ---- where it is 0

pub record FaultlessClocks : Type 0 where
  -- A track that `format` wrote reads back with 0 in every record,
  pub formatted : (layout cylinder side : ℕ) (contents marks before image : List ℕ) (answer : Result Reading Refusal) (area : List ℕ)
      → Bytes contents
      → Formats layout cylinder side contents marks before (Ok _) image
      → Reads layout cylinder side image (layout_of layout).area_bytes answer area
      → IsOkAnd answer (λ reading. map (λ (r : Record). r.clocks) reading.records ≡ replicate most_sectors 0)
  -- also at the door.
  pub there : (layout cylinder side : ℕ) (contents marks before image : List ℕ) (number : ℕ) (area records counts : List ℕ) (s : ℕ)
      → Bytes contents
      → GivesFormat layout cylinder side contents marks before 0 image
      → GivesRead layout cylinder side image (layout_of layout).area_bytes number area records counts
      → Numbered (layout_of layout) s
      → clocks_in records s ≡ 0
  -- So does the sector of a rewrite that is finished, whatever the image was.
  pub rewritten : (layout cylinder side sector mark : ℕ) (contents image : List ℕ) (plan held : Plan) (now : List ℕ)
      → Requests layout cylinder side sector mark contents image (Ok plan)
      → Ran mark contents plan image (number layout image plan) held now
      → Bytes contents
      → (sector_in (track_of layout cylinder side) now sector).known.clocks ≡ 0
