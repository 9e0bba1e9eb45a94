-- The round trip: a formatted track reads back as the very sectors and marks that went in. The statement is over a layout's constants and
-- over any order of the sectors; natural order is one of them.
use Rattle.std.specs.Prelude.{cond, List, [], ◌∷◌, ◌≡◌, ℕ, suc, ◌+◌, ◌-◌, ◌*◌, ◌≤◌, eqb, get_or, length, Result, Ok}
use Rattle.cells.specs.Cells.{Byte, Bytes}
use Rattle.format.specs.Order.{Numbered}
use Rattle.format.specs.Outcomes.{Formats}
use Rattle.format.specs.Places.{block_place}
use Rattle.layouts.specs.Layouts.{Every, layout_of, slot_in}
use Rattle.layouts.specs.Tracks.{track_of}
use Rattle.calls.specs.declared.Refusal.{Refusal}
use Rattle.layouts.specs.declared.Layout.{Layout}
use Rattle.layouts.specs.declared.Track.{Track}
use Rattle.answers.specs.Answers.{answer_number, record_at}
use Rattle.read.specs.Outcomes.{Reads}
use Rattle.read.specs.declared.Reading.{Reading}
use Rattle.walk.specs.Events.{bads, foreigns}
use Rattle.walk.specs.Outcomes.{met}
use Rattle.walk.specs.Walk.{reach}
use Rattle.walk.specs.declared.Block.TheVariants.{Within}
use Rattle.walk.specs.declared.Event.{Event}
use Rattle.walk.specs.declared.Event.TheVariants.{Accepted}
use Rattle.promises.specs.Sectors.{sector_in, Back, reads_back, ReadsSo}

-- ---- what is asked

-- Of a layout's constants: 00 bytes before each mark, a gap behind the index mark, the block's mark within reach of the address, and
-- bytes in the address.
pub record Legible (l : Layout) : Type 0 where
  pub sync : 1 ≤ l.sync
  pub index_gap : 1 ≤ l.index_gap
  pub near : 16 * (l.identifier_gap + l.sync) ≤ reach l.mode
  pub few : Byte l.sectors
  pub fourth : Byte l.fourth

-- How often s stands in a list.
unfoldable pub times : ℕ → List ℕ → ℕ
times s [] = 0
times s (x ∷ xs) = cond (eqb x s) (suc (times s xs)) (times s xs)

-- Where s stands in a list: how many stand before it.
unfoldable pub position : ℕ → List ℕ → ℕ
position s [] = 0
position s (x ∷ xs) = cond (eqb x s) 0 (suc (position s xs))

-- Of the order of the sectors: it holds each sector number once, and nothing else.
pub record Ordered (l : Layout) (order : List ℕ) : Type 0 where
  pub numbered : Every (Numbered l) order
  pub once : (s : ℕ) → Numbered l s → times s order ≡ 1

-- ---- what is met and answered

-- The sectors of a list of numbers, the first of them at position i of the track: each accepted, with its block in its place.
unfoldable pub accepted_from : Layout → ℕ → List ℕ → List Event
accepted_from l i [] = []
accepted_from l i (s ∷ ss) = Accepted s (Within (8 * block_place l i)) ∷ accepted_from l (suc i) ss

-- What sector s of a track that was formatted with these data and marks reads back as.
abbrev pub went_in : Track → (contents marks : List ℕ) → ℕ → Back
went_in t contents marks s = reads_back t.cylinder (get_or marks (s - 1) 0) (slot_in t.layout.size s contents)

-- Reading the image gives back the data and the marks: the sectors are met in their order and nothing else is, no identifier is bad or
-- foreign, each sector reads as what went in (01, "How a track is read"), its place is that of its block on the track (02, Req 01), and none of its clock
-- cells is doubtful (02, Req 06).
pub record ReadsBack (t : Track) (contents marks order image : List ℕ) : Type 0 where
  pub meets : met t image ≡ accepted_from t.layout 0 order
  pub bad : bads (met t image) ≡ 0
  pub foreign : foreigns (met t image) ≡ 0
  pub sectors : (s : ℕ) → Numbered t.layout s → ReadsSo (sector_in t image s) (went_in t contents marks s)
  pub places : (s : ℕ) → Numbered t.layout s → (sector_in t image s).known.place ≡ 8 * block_place t.layout (position s order)
  pub clocks : (s : ℕ) → Numbered t.layout s → (sector_in t image s).known.clocks ≡ 0

-- ---- demand 2

-- What `read` hands back of a formatted track: it is not refused, no identifier is bad or foreign, and of each sector the answer's number and
-- the slot in the area are those of what went in. The order is the natural one: sector s stands at position s - 1, and there its place is. No clock cell
-- of its block is doubtful.
pub record HandsBack (t : Track) (contents marks : List ℕ) (answer : Result Reading Refusal) (area : List ℕ) : Type 0 where
  pub reading : Reading
  pub accepted : answer ≡ Ok reading
  pub counted : reading.sectors ≡ t.layout.sectors
  pub bad : reading.bad ≡ 0
  pub foreign : reading.foreign ≡ 0
  pub answers : (s : ℕ) → Numbered t.layout s → answer_number (record_at reading.records s).answer ≡ (went_in t contents marks s).number
  pub places : (s : ℕ) → Numbered t.layout s → (record_at reading.records s).place ≡ 8 * block_place t.layout (s - 1)
  pub clocks : (s : ℕ) → Numbered t.layout s → (record_at reading.records s).clocks ≡ 0
  pub slots : (s : ℕ) → Numbered t.layout s → slot_in t.layout.size s area ≡ (went_in t contents marks s).bytes
  pub whole : length area ≡ t.layout.sectors * t.layout.size

-- Demand 2: for every layout, cylinder, side, data and marks that `format` accepts, and whatever the image held before, reading what it wrote
-- hands back the very sectors and marks. (Data are bytes, as every area's contents are.)
abbrev pub ReadsBackAsWritten : Type 0
ReadsBackAsWritten =
    (layout cylinder side : ℕ) (contents marks before image : List ℕ) (answer : Result Reading Refusal) (area : List ℕ)
    → Bytes contents
    → Formats layout cylinder side contents marks before (Ok _) image
    → Reads layout cylinder side image (layout_of layout).area_bytes answer area
    → HandsBack (track_of layout cylinder side) contents marks answer area
