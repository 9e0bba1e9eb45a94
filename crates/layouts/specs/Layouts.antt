-- The four layouts: the table of 01, "The image and the four layouts", and the counts of its "Order on the track".
-- Gaps, fields and tracks are counted in data bytes, which take two image bytes each.
use Rattle.std.specs.Prelude.{◌≡◌, List, [], ◌∷◌, ℕ, zero, suc, ◌+◌, ◌-◌, ◌*◌, get_or, take, drop}
use Rattle.cells.specs.declared.Mode.{Mode}
use Rattle.cells.specs.declared.Mode.TheVariants.{Fm, Mfm}
use Rattle.marks.specs.Marks.{mark_bytes, mark_cells}
use Rattle.layouts.specs.declared.Layout.{Layout}

-- The byte that fills every gap (004, clauses 5 and 6).
abbrev pub gap_byte : Mode → ℕ
gap_byte Fm = 0xFF
gap_byte Mfm = 0x4E

-- The bytes of a track (01, "The image and the four layouts").
abbrev pub bytes_of_track : Mode → ℕ
bytes_of_track Fm = 5208
bytes_of_track Mfm = 10416

-- A layout of the track 00 of side 0 (004, 4.11 and clause 5), from the numbers that go with its sectors.
abbrev pub fm_layout : (sectors size fourth blockGap trackGap : ℕ) → Layout
fm_layout sectors size fourth blockGap trackGap =
    record {
      mode = Fm;
      sectors = sectors;
      size = size;
      fourth = fourth;
      lead = 40;
      sync = 6;
      index_gap = 26;
      identifier_gap = 11;
      block_gap = blockGap;
      track_gap = trackGap;
      track_bytes = bytes_of_track Fm;
      image_bytes = 2 * bytes_of_track Fm;
      area_bytes = sectors * size;
    }

-- A layout of the other tracks (004, 4.11 and clause 6), from the numbers that go with its sectors.
abbrev pub mfm_layout : (sectors size fourth blockGap trackGap : ℕ) → Layout
mfm_layout sectors size fourth blockGap trackGap =
    record {
      mode = Mfm;
      sectors = sectors;
      size = size;
      fourth = fourth;
      lead = 80;
      sync = 12;
      index_gap = 50;
      identifier_gap = 22;
      block_gap = blockGap;
      track_gap = trackGap;
      track_bytes = bytes_of_track Mfm;
      image_bytes = 2 * bytes_of_track Mfm;
      area_bytes = sectors * size;
    }

-- Layout 0: 26 sectors of 128 data bytes (004, 4.8, 5.2.2.3, 5.4.2, 5.5 and 5.6).
abbrev pub layout0 : Layout
layout0 = fm_layout 26 128 0x00 27 247

-- Layout 1: 26 sectors of 256 data bytes (004, tables 1, 5, 7 and 8).
abbrev pub layout1 : Layout
layout1 = mfm_layout 26 256 0x01 54 598

-- Layout 2: 15 sectors of 512 data bytes (004, tables 1, 5, 7 and 8).
abbrev pub layout2 : Layout
layout2 = mfm_layout 15 512 0x02 84 400

-- Layout 3: 8 sectors of 1 024 data bytes (004, tables 1, 5, 7 and 8).
abbrev pub layout3 : Layout
layout3 = mfm_layout 8 1024 0x03 116 654

-- The MFM layouts are numbered from 1 to this (01, "The image and the four layouts").
abbrev pub highest_mfm : ℕ
highest_mfm = 3

-- The highest layout number (01, "The image and the four layouts").
abbrev pub highest : ℕ
highest = highest_mfm

-- The layout of a number (01, "The image and the four layouts"). Above the highest there is none and
-- every call is refused; layout 0 fills in.
unfoldable pub layout_of : ℕ → Layout
layout_of n = get_or (layout0 ∷ layout1 ∷ layout2 ∷ layout3 ∷ []) n layout0

-- The track bytes of a sector: identifier mark, address, EDC and gap, then data mark, data, EDC and gap (01, "Order on the track").
unfoldable pub sector_fields : Layout → ℕ
sector_fields l =
    (l.sync + mark_bytes l.mode + 4 + 2 + l.identifier_gap)
    + (l.sync + mark_bytes l.mode + l.size + 2 + l.block_gap)

-- What the fields of a layout add up to, in track bytes (01, "Order on the track").
unfoldable pub fields : Layout → ℕ
fields l = l.lead + l.sync + mark_bytes l.mode + l.index_gap + l.sectors * sector_fields l + l.track_gap

-- The numbers of a layout fit: the area holds all data (004, 4.11), a data byte takes 16 cells, the fields fill the track (01, "Small facts").
pub record Adds (l : Layout) : Type 0 where
  pub area : l.area_bytes ≡ l.sectors * l.size
  pub image : l.image_bytes ≡ 2 * l.track_bytes
  pub track : fields l ≡ l.track_bytes

-- The most sectors that a layout has (01, "The image and the four layouts").
abbrev pub most_sectors : ℕ
most_sectors = 26

-- The numbers from s on, k of them: the natural order of the sectors (004, 5.2.2.2 and 6.2.2.2).
abbrev pub numbers : ℕ → ℕ → List ℕ
numbers zero s = []
numbers (suc k) s = s ∷ numbers k (suc s)

-- The cells of a block with its mark: N data bytes and the EDC (01, "How a track is read", step 4).
abbrev pub block_cells : Layout → ℕ
block_cells l = mark_cells l.mode + 16 * (l.size + 2)

-- The slot of sector s in an area: so many bytes for each sector number from 1 on (01, "How a track is read").
abbrev pub slot_in : (size s : ℕ) → List ℕ → List ℕ
slot_in size s area = take size (drop ((s - 1) * size) area)

-- All of a list are so.
abbrev pub Every : {A : Type 0} → (A → Type 0) → List A → Type 0
Every P [] = Unit {0}
Every P (x ∷ xs) = P x × Every P xs
