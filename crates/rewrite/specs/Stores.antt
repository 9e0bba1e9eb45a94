-- The stores of a rewrite: one fixed list in the papers' order, of which each step makes one (01, "Rewriting a sector"). It is made of the
-- layout, the image, the cell at which the block's mark begins, the new mark and the N new bytes. Of the image only its length and the byte
-- after the block are looked at, and making a store leaves the list as it is (the law `stores_fixed`): so every step finds the same list.
use Rattle.std.specs.Prelude.{Bool, false, cond, List, [], ◌∷◌, ◌++◌, ℕ, suc, ◌+◌, ◌-◌, ◌*◌, ◌/◌, ◌%◌, eqb, ltb, length, get_or, set}
use Rattle.coding.specs.Coding.{high, low}
use Rattle.cells.specs.declared.Mode.{Mode}
use Rattle.cells.specs.declared.Mode.TheVariants.{Fm, Mfm}
use Rattle.edc.specs.Register.{edc_of, edc_bytes}
use Rattle.layouts.specs.declared.Layout.{Layout}
use Rattle.marks.specs.Marks.{mark_byte, mark_bytes, mark_last, last_byte, covered}
use Rattle.marks.specs.declared.Mark.{Mark}
use Rattle.marks.specs.declared.Mark.TheVariants.{Open}
use Rattle.rewrite.specs.declared.Store.{Store}

-- The image after a store: no other byte is changed.
abbrev pub stored : List ℕ → Store → List ℕ
stored image store = set image store.byte store.value

-- No store: what the list gives beyond its end, where every step is refused.
abbrev pub no_store : Store
no_store = record { byte = 0; value = 0 }

-- ---- bytes: where in the image a block's parts are, whose mark begins at cell `place`, on a byte boundary

module _ (l : Layout) (place : ℕ) where
  -- The last byte of the mark.
  abbrev pub mark_end : ℕ
  mark_end = place / 8 + mark_last l.mode

  -- The first byte of the data cells, right behind the mark.
  abbrev pub field_start : ℕ
  field_start = place / 8 + 2 * mark_bytes l.mode

  -- The byte after the block: its N data bytes and its EDC take two image bytes each.
  abbrev pub block_end : ℕ
  block_end = field_start + 2 * (l.size + 2)

-- The byte after the block is stored too: in MFM only, and only if the image has it.
abbrev pub follows : Mode → (end bytes : ℕ) → Bool
follows Fm end bytes = false
follows Mfm end bytes = ltb end bytes

-- ---- values

-- The image bytes of the bytes xs, coded as if the byte b stood before them.
unfoldable pub coding : Mode → ℕ → List ℕ → List ℕ
coding mode b [] = []
coding mode b (x ∷ xs) = let rest = coding mode x xs in high mode (b % 2) x ∷ low mode x ∷ rest

-- The EDC of the new bytes, counted over the new mark too.
abbrev pub new_edc : Mode → Mark → List ℕ → ℕ
new_edc mode mark contents = edc_of (covered mode mark ++ contents)

-- The image bytes of the new bytes and of their EDC, coded as if the new mark stood before them.
abbrev pub field : Mode → Mark → List ℕ → List ℕ
field mode mark contents = coding mode (mark_byte mark) (contents ++ edc_bytes (new_edc mode mark contents))

-- The byte after the block, behind an EDC whose last bit is `bit`: unchanged, but if its first data cell is 0, its first clock cell is 1
-- exactly if that bit is ZERO.
unfoldable pub joined : (bit byte : ℕ) → ℕ
joined bit byte = cond (eqb (byte / 64 % 2) 0) (128 * (1 - bit) + byte % 128) byte

-- ---- the list

-- Values stored one behind the other, from an image byte on.
unfoldable pub storing : ℕ → List ℕ → List Store
storing at [] = []
storing at (v ∷ vs) = let rest = storing (suc at) vs in record { byte = at; value = v } ∷ rest

module _ (l : Layout) (image : List ℕ) (place : ℕ) (mark : Mark) (contents : List ℕ) where
  -- The store of the byte after the block, if there is one.
  abbrev pub edge : List Store
  edge =
      cond (follows l.mode (block_end l place) (length image))
      (record { byte = block_end l place; value = joined (new_edc l.mode mark contents % 2) (get_or image (block_end l place) 0) } ∷ [])
      []

  -- The stores: the mark is opened, the data cells and those of the EDC are written, then the byte after the block; last the mark becomes the
  -- new one.
  unfoldable pub stores : List Store
  stores =
      record { byte = mark_end l place; value = last_byte l.mode Open }
      ∷ (storing (field_start l place) (field l.mode mark contents)
      ++ (edge
      ++ (record { byte = mark_end l place; value = last_byte l.mode mark } ∷ [])))

-- How many they are: 2N + 7, or 2N + 6 in FM and at the image's end. (The law `stores_count` says that N bytes make a list of this length.)
unfoldable pub store_count : Layout → (place bytes : ℕ) → ℕ
store_count l place bytes = 2 * l.size + cond (follows l.mode (block_end l place) bytes) 7 6
