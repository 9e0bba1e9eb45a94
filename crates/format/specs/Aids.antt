-- What only the contracts of the writers inside this crate cite: the parts in which the track is written, and what they ask of their caller.
use Rattle.std.specs.Prelude.{List, [], ◌∷◌, ◌≡◌, ℕ, ◌-◌, ◌*◌, ◌%◌, ◌≤◌, length, get_or}
use Rattle.format.specs.Order.{mark, image, run, gap, sector}
use Rattle.layouts.specs.Layouts.{gap_byte, slot_in}
use Rattle.layouts.specs.declared.Layout.{Layout}
use Rattle.layouts.specs.declared.Track.{Track}
use Rattle.marks.specs.Marks.{mark_of}
use Rattle.marks.specs.declared.Mark.TheVariants.{Index}

-- The image bytes before the first sector.
unfoldable pub leader : Layout → List ℕ
leader l = image l.mode 0 (gap l l.lead (run l.sync 0 (mark Index ∷ gap l l.index_gap [])))

-- The image bytes of sector s behind a gap, mark and data looked up by its number.
unfoldable pub stretch : Track → (contents marks : List ℕ) → ℕ → List ℕ
stretch t contents marks s =
    image t.layout.mode (gap_byte t.layout.mode % 2)
    (sector t s (mark_of (get_or marks (s - 1) 0)) (slot_in t.layout.size s contents) [])

-- None of these gaps is empty: the bit behind each is the gap byte's last.
pub record Spaced (l : Layout) : Type 0 where
  pub lead : 1 ≤ l.lead
  pub index_gap : 1 ≤ l.index_gap
  pub identifier_gap : 1 ≤ l.identifier_gap
  pub block_gap : 1 ≤ l.block_gap

-- A track that can be written: its numbers are bytes, and it has sectors, data and gaps.
pub record Writable (t : Track) : Type 0 where
  pub cylinder : t.cylinder ≤ 255
  pub side : t.side ≤ 255
  pub sectors : 1 ≤ t.layout.sectors
  pub size : 1 ≤ t.layout.size
  pub gaps : Spaced t.layout

-- There is a slot and a mark for each sector.
pub record Filled (l : Layout) (contents marks : List ℕ) : Type 0 where
  pub slots : length contents ≡ l.sectors * l.size
  pub marked : length marks ≡ l.sectors
