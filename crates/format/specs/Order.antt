-- The order on the track, for every layout: a list of symbols, and the image bytes that they are coded to, in one pass that hands on the
-- bit before. Each definition takes what follows it as its last argument, so that the track reads from the top to the bottom.
use Rattle.std.specs.Prelude.{List, [], ◌∷◌, ◌++◌, ℕ, zero, suc, ◌-◌, ◌%◌, ◌≤◌, get_or}
use Rattle.coding.specs.Coding.{high, low}
use Rattle.cells.specs.declared.Mode.{Mode}
use Rattle.edc.specs.Register.{edc_of, edc_bytes}
use Rattle.layouts.specs.Layouts.{gap_byte, slot_in}
use Rattle.layouts.specs.declared.Layout.{Layout}
use Rattle.layouts.specs.declared.Track.{Track}
use Rattle.marks.specs.Marks.{string, last_bit, mark_of, covered}
use Rattle.marks.specs.declared.Mark.{Mark}
use Rattle.marks.specs.declared.Mark.TheVariants.{Index, Identifier}

-- What stands on a track: bytes, coded by the clock rule, and marks, which are fixed strings.
pub data Symbol : Type 0 where
  plain : ℕ → Symbol
  mark : Mark → Symbol

-- The image bytes of symbols that follow the bit a (01, "The image and the four layouts").
unfoldable pub image : Mode → ℕ → List Symbol → List ℕ
image mode a [] = []
image mode a (plain x ∷ ss) = let rest = image mode (x % 2) ss in high mode a x ∷ low mode x ∷ rest
image mode a (mark m ∷ ss) = let rest = image mode (last_bit m) ss in string mode m ++ rest

-- k times the byte x.
unfoldable pub run : ℕ → ℕ → List Symbol → List Symbol
run zero x ss = ss
run (suc k) x ss = let rest = run k x ss in plain x ∷ rest

-- The bytes xs.
unfoldable pub bytes : List ℕ → List Symbol → List Symbol
bytes [] ss = ss
bytes (x ∷ xs) ss = let rest = bytes xs ss in plain x ∷ rest

-- The bytes xs and their EDC, which covers the mark before them too (004, 5.2.2.4, 5.4.3, 6.2.2.4 and 6.4.3).
unfoldable pub checked : Mode → Mark → List ℕ → List ℕ
checked mode m xs = xs ++ edc_bytes (edc_of (covered mode m ++ xs))

module _ (l : Layout) where
  -- A gap of k bytes.
  abbrev pub gap : ℕ → List Symbol → List Symbol
  gap k ss = run k (gap_byte l.mode) ss

  -- A mark with the 00 bytes before it, and the bytes xs with their EDC (004, 5.2, 5.4, 6.2 and 6.4).
  unfoldable pub block : Mark → List ℕ → List Symbol → List Symbol
  block m xs ss = run l.sync 0 (mark m ∷ bytes (checked l.mode m xs) ss)

  -- A sector number of the layout (01, "Order on the track").
  abbrev pub Numbered : ℕ → Type 0
  Numbered s = (1 ≤ s) × (s ≤ l.sectors)

module _ (t : Track) where
  -- The address bytes of sector s: cylinder, side, sector number and fourth byte (004, 5.2.2 and 6.2.2).
  abbrev pub address : ℕ → List ℕ
  address s = t.cylinder ∷ t.side ∷ s ∷ t.layout.fourth ∷ []

  -- Sector s: its identifier, a gap, the block with the mark m and the data xs, and a gap (004, 5.2 to 5.5 and 6.2 to 6.5).
  unfoldable pub sector : ℕ → Mark → List ℕ → List Symbol → List Symbol
  sector s m xs ss =
      let l = t.layout in
      block l Identifier (address s)
      (gap l l.identifier_gap
      (block l m xs
      (gap l l.block_gap ss)))

  module _ (contents marks : List ℕ) where
    -- The sectors of a list of numbers, one after the other, mark and data of each looked up by its number; then the track gap
    -- (004, 5.6 and 6.6).
    unfoldable pub sectors : List ℕ → List Symbol
    sectors [] = gap t.layout t.layout.track_gap []
    sectors (s ∷ ss) = sector s (mark_of (get_or marks (s - 1) 0)) (slot_in t.layout.size s contents) (sectors ss)

    -- The whole track: the index gap with the index mark (004, 5.1 and 6.1), and the sectors.
    unfoldable pub track : List ℕ → List Symbol
    track order =
        let l = t.layout in
        gap l l.lead (run l.sync 0 (mark Index ∷ gap l l.index_gap (sectors order)))

    -- The image of the track; the bit before its first is taken as ZERO.
    unfoldable pub formatted : List ℕ → List ℕ
    formatted order = image t.layout.mode 0 (track order)
