-- The image of a track in the parts in which it is written: the leader, each sector's own stretch, and the track gap. The bit before
-- every sector is the gap byte's last, so that a stretch asks nothing of what stands before it. Then the length of the whole.
use mathlib.Core.Path.{◌≡◌, refl, ap, ◌∙◌}
use mathlib.Core.List.{List, [], ◌∷◌, ◌++◌, append_assoc}
use Prim.Native.Nat.{ℕ, zero, suc, ◌+◌, ◌-◌, ◌*◌, ◌%◌, ◌<◌, ◌≤◌}
use native.Mathlib.Nat.{sub-zero, suc-mul, mul-le-mul_right}
use native.Mathlib.Omega.{arith}
use borrow.Author.Rules.{rules}
use lib.ListN.{length, get_or, take, length-take, length-drop}
use Rattle.format.proofs.Symbols.{image_run, image_mark, image_front, image_spaced, width, length_image, width_run, width_block}
use Rattle.format.specs.Order.{Symbol, mark, image, run, gap, block, Numbered, address, sector, sectors, track, formatted}
use Rattle.format.specs.Aids.{leader, stretch, Spaced}
use Rattle.layouts.proofs.Layouts.{every_layout}
use Rattle.layouts.specs.Layouts.{gap_byte, most_sectors, layout_of, sector_fields, fields, numbers, slot_in, Every}
use Rattle.layouts.specs.declared.Layout.{Layout}
use Rattle.layouts.specs.declared.Track.{Track}
use Rattle.marks.specs.Marks.{mark_bytes}
use Rattle.marks.specs.declared.Mark.{Mark}
use Rattle.marks.specs.declared.Mark.TheVariants.{Index, Identifier}

-- ---- what the laws ask

-- The gaps of the layout of every number are not empty.
pub spaced : (n : ℕ) → Spaced (layout_of n)
spaced = every_layout Spaced (search rules) (search rules) (search rules) (search rules)

-- Of a sector number: its whole slot lies in the data.
abbrev pub Slotted : ℕ → List ℕ → ℕ → Type 0
Slotted size contents s = (s - 1) * size + size ≤ length contents

-- Such a slot is as long as a sector's data.
pub length_slot : (size : ℕ) (contents : List ℕ) (s : ℕ) → Slotted size contents s → length (slot_in size s contents) ≡ size
length_slot size contents s h = simp (length-take, length-drop) (omega arith)

-- Data of n slots have one for each number from 1 to n.
pub slotted : (n size : ℕ) (contents : List ℕ) → length contents ≡ n * size → (s : ℕ) → 1 ≤ s → s ≤ n → Slotted size contents s
slotted n size contents e s from to = rw (e, ← suc-mul) (mul-le-mul_right size (omega arith))

-- Of a list of sector numbers: what holds of each holds of the one at i, and each has its slot.
pub number_at : (l : Layout) (order : List ℕ) (i : ℕ) → Every (Numbered l) order → i < length order → Numbered l (get_or order i 0)
number_at l [] i h k = absurd (omega arith)
number_at l (s ∷ ss) zero h k = h.0
number_at l (s ∷ ss) (suc i) h k = number_at l ss i h.1 (omega arith)

pub slots : (l : Layout) (contents : List ℕ) → length contents ≡ l.sectors * l.size → (order : List ℕ) → Every (Numbered l) order
    → Every (Slotted l.size contents) order
slots l contents e [] h = tt
slots l contents e (s ∷ ss) h = (slotted l.sectors l.size contents e s h.0.0 h.0.1, slots l contents e ss h.1)

-- ---- natural order

-- There are as many numbers as were asked for,
pub length_numbers : (k s : ℕ) → length (numbers k s) ≡ k
length_numbers zero s = refl
length_numbers (suc k) s = ap suc (length_numbers k (suc s))

-- those from 1 on are the sector numbers of the layout,
pub numbered : (l : Layout) → Every (Numbered l) (numbers l.sectors 1)
numbered l = go l.sectors 1 (omega arith) (omega arith)
  where
    go : (k s : ℕ) → 1 ≤ s → s + k ≤ l.sectors + 1 → Every (Numbered l) (numbers k s)
    go zero s from to = tt
    go (suc k) s from to = ((from, omega arith), go k (suc s) (omega arith) (omega arith))

-- and the first of them are fewer numbers from the same one on.
take_numbers : (n k s : ℕ) → n ≤ k → take n (numbers k s) ≡ numbers n s
take_numbers zero k s h = refl
take_numbers (suc n) zero s h = absurd (omega arith)
take_numbers (suc n) (suc k) s h = ap {B = List ℕ} (λ r. s ∷ r) (take_numbers n k (suc s) (omega arith))

-- So the part of the natural order that a layout takes is its own natural order.
pub natural : (n : ℕ) → n ≤ most_sectors → take (n - 0) (numbers most_sectors 1) ≡ numbers n 1
natural n h = rw sub-zero (take_numbers n most_sectors 1 h)

-- ---- the leader

module _ (l : Layout) where
  -- It is a gap, the index mark with the 00 bytes before it, and a gap.
  pub leader_parts : 1 ≤ l.lead
      → leader l
      ≡ image l.mode 0 (run l.lead (gap_byte l.mode) [])
      ++ (image l.mode (gap_byte l.mode % 2) (run l.sync 0 (mark Index ∷ []))
      ++ image l.mode 0 (run l.index_gap (gap_byte l.mode) []))
  unfolding leader
  leader_parts h =
      rw (image_run l.mode 0 l.lead (gap_byte l.mode) _ h, image_mark, image_front l.mode (gap_byte l.mode % 2) l.sync 0 Index) (simp append_assoc)

  -- Its image bytes.
  pub length_leader : length (leader l) ≡ 2 * (l.lead + l.sync + mark_bytes l.mode + l.index_gap)
  unfolding leader width
  length_leader = rw (length_image, width_run, width_run l.mode l.sync, width_run l.mode l.index_gap) (omega arith)

module _ (t : Track) where
  -- ---- a sector

  -- It is its identifier and its block, each with the gap behind it.
  pub sector_parts : 1 ≤ t.layout.identifier_gap → (a s : ℕ) (m : Mark) (xs : List ℕ)
      → image t.layout.mode a (sector t s m xs [])
      ≡ image t.layout.mode a (block t.layout Identifier (address t s) (gap t.layout t.layout.identifier_gap []))
      ++ image t.layout.mode (gap_byte t.layout.mode % 2) (block t.layout m xs (gap t.layout t.layout.block_gap []))
  unfolding sector
  sector_parts h a s m xs = image_spaced t.layout t.layout.identifier_gap h a Identifier (address t s) _

  -- The image of a sector and of what follows it.
  image_sector : Spaced t.layout → (a s : ℕ) (m : Mark) (xs : List ℕ) (ss : List Symbol)
      → image t.layout.mode a (sector t s m xs ss)
      ≡ image t.layout.mode a (sector t s m xs []) ++ image t.layout.mode (gap_byte t.layout.mode % 2) ss
  unfolding sector
  image_sector h a s m xs ss =
      let l = t.layout in
      rw (
        sector_parts h.identifier_gap a s m xs,
        image_spaced l l.identifier_gap h.identifier_gap a Identifier (address t s) (block l m xs (gap l l.block_gap ss)),
        image_spaced l l.block_gap h.block_gap _ m xs ss,
      )
      (simp append_assoc)

  -- Its track bytes.
  pub width_sector : (s : ℕ) (m : Mark) (xs : List ℕ) (ss : List Symbol) → length xs ≡ t.layout.size
      → width t.layout.mode (sector t s m xs ss) ≡ sector_fields t.layout + width t.layout.mode ss
  unfolding sector sector_fields
  width_sector s m xs ss h = rw (width_block, width_run, width_block, width_run) (omega arith)

  -- Its image bytes.
  pub length_sector : (a s : ℕ) (m : Mark) (xs : List ℕ) → length xs ≡ t.layout.size
      → length (image t.layout.mode a (sector t s m xs [])) ≡ 2 * sector_fields t.layout
  unfolding width
  length_sector a s m xs h = rw (length_image, width_sector) (omega arith)

  module _ (contents marks : List ℕ) where
    -- ---- the track

    -- The image bytes of a stretch.
    pub length_stretch : (s : ℕ) → Slotted t.layout.size contents s → length (stretch t contents marks s) ≡ 2 * sector_fields t.layout
    unfolding stretch
    length_stretch s h = length_sector _ s _ _ (length_slot t.layout.size contents s h)

    -- The stretches of the sectors one after the other, and the track gap.
    unfoldable pub stretches : List ℕ → List ℕ
    stretches [] = image t.layout.mode (gap_byte t.layout.mode % 2) (gap t.layout t.layout.track_gap [])
    stretches (s ∷ ss) = stretch t contents marks s ++ stretches ss

    -- The sectors after a gap are their stretches.
    image_sectors : Spaced t.layout → (order : List ℕ)
        → image t.layout.mode (gap_byte t.layout.mode % 2) (sectors t contents marks order) ≡ stretches order
    unfolding sectors stretches stretch
    image_sectors h [] = refl
    image_sectors h (s ∷ ss) =
        image_sector h _ s _ _ (sectors t contents marks ss)
        ∙ ap (λ r. stretch t contents marks s ++ r) (image_sectors h ss)

    -- The track is the leader and the stretches.
    pub track_parts : Spaced t.layout → (order : List ℕ) → formatted t contents marks order ≡ leader t.layout ++ stretches order
    unfolding formatted track
    track_parts h order =
        let l = t.layout in
        rw (
          image_run l.mode 0 l.lead (gap_byte l.mode) _ h.lead,
          image_mark,
          image_run l.mode 0 l.index_gap (gap_byte l.mode) (sectors t contents marks order) h.index_gap,
          image_sectors h order,
          leader_parts l h.lead,
          image_front l.mode (gap_byte l.mode % 2) l.sync 0 Index,
        )
        (simp append_assoc)

    -- The track bytes of the sectors and the track gap.
    width_sectors : (order : List ℕ) → Every (Slotted t.layout.size contents) order
        → width t.layout.mode (sectors t contents marks order) ≡ length order * sector_fields t.layout + t.layout.track_gap
    unfolding sectors width
    width_sectors [] h = rw width_run (omega arith)
    width_sectors (s ∷ ss) h =
        width_sector s _ _ (sectors t contents marks ss) (length_slot t.layout.size contents s h.0)
        ∙ rw (width_sectors ss h.1, suc-mul (length ss) (sector_fields t.layout)) (omega arith)

    -- The image bytes of the track: with the layout's number of sectors they are what its fields add up to.
    pub length_formatted : (order : List ℕ) → Every (Slotted t.layout.size contents) order
        → length (formatted t contents marks order)
        ≡ 2 * (t.layout.lead + t.layout.sync + mark_bytes t.layout.mode + t.layout.index_gap
        + length order * sector_fields t.layout + t.layout.track_gap)
    unfolding formatted track width
    length_formatted order h =
        rw (length_image, width_run, width_run t.layout.mode t.layout.sync, width_run t.layout.mode t.layout.index_gap, width_sectors order h) (omega arith)

    pub length_fields : (order : List ℕ) → length order ≡ t.layout.sectors → Every (Slotted t.layout.size contents) order
        → length (formatted t contents marks order) ≡ 2 * fields t.layout
    unfolding fields
    length_fields order e h = rw e at (length_formatted order h)
