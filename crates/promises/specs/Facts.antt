-- The small facts that 01 marks P, as one list: beside what the definitions compute to stands what the paper expects.
use Rattle.std.specs.Prelude.{cond, ◌&&◌, List, [], ◌∷◌, ◌≡◌, ℕ, ◌+◌, eqb, length, get_or, take, drop, replicate}
use Rattle.coding.specs.Coding.{high, low}
use Rattle.cells.specs.declared.Mode.{Mode}
use Rattle.cells.specs.declared.Mode.TheVariants.{Fm, Mfm}
use Rattle.format.specs.Order.{Symbol, plain, mark, image, track}
use Rattle.marks.specs.Marks.{string, mark_byte}
use Rattle.marks.specs.declared.Mark.{Mark}
use Rattle.marks.specs.declared.Mark.TheVariants.{Index, Identifier, Data}
use Rattle.rewrite.specs.Stores.{stores}
use Rattle.layouts.specs.declared.Layout.{Layout}
use Rattle.layouts.specs.Layouts.{layout0, layout1, layout2, layout3, fields, numbers}

-- A fact: what is computed, and what the paper expects.
pub record Fact : Type 0 where
  pub computed : List ℕ
  pub expected : List ℕ

-- The two image bytes of a byte after a bit.
abbrev coded : Mode → ℕ → ℕ → List ℕ
coded mode before byte = high mode before byte ∷ low mode byte ∷ []

-- 1 where the two image bytes of a byte after a ZERO are the first two of an MFM mark, else 0.
abbrev taken : ℕ → List ℕ → ℕ
taken byte bs = cond (eqb (high Mfm 0 byte) (get_or bs 0 0) && eqb (low Mfm byte) (get_or bs 1 0)) 1 0

-- The image bytes before the first such mark of a track.
abbrev place : Mode → Mark → List Symbol → ℕ
place mode m [] = 0
place mode m (plain x ∷ ss) = 2 + place mode m ss
place mode m (mark k ∷ ss) = cond (eqb (mark_byte k) (mark_byte m)) 0 (length (string mode k) + place mode m ss)

-- A track of a layout with FB and zeros in every sector.
abbrev symbols : Layout → ℕ → List Symbol
symbols l cylinder =
    track (record { layout = l; cylinder = cylinder; side = 0 }) (replicate l.area_bytes 0) (replicate l.sectors 0xFB) (numbers l.sectors 1)

-- The first identifier mark and the first data mark of it: where they begin, and what stands there in the image.
abbrev places : Layout → ℕ → List ℕ
places l cylinder = place l.mode Identifier (symbols l cylinder) ∷ place l.mode Data (symbols l cylinder) ∷ []

abbrev standing : Layout → ℕ → Mark → List ℕ
standing l cylinder m =
    take (length (string l.mode m)) (drop (place l.mode m (symbols l cylinder)) (image l.mode 0 (symbols l cylinder)))

-- How many stores the rewrite of a sector to zeros makes whose mark is the first of an image of so many bytes.
abbrev stores_of : Layout → (bytes : ℕ) → ℕ
stores_of l bytes = length (stores l (replicate bytes 0) 0 Data (replicate l.size 0))

-- The facts of 01, "Small facts".
unfoldable pub facts : List Fact
facts =
    -- MFM 4E after ZERO: 92 54
    record { computed = coded Mfm 0 0x4E; expected = 0x92 ∷ 0x54 ∷ [] }
    -- 00 after ZERO: AA AA; after ONE: 2A AA
    ∷ record { computed = coded Mfm 0 0x00; expected = 0xAA ∷ 0xAA ∷ [] }
    ∷ record { computed = coded Mfm 1 0x00; expected = 0x2A ∷ 0xAA ∷ [] }
    -- MFM FF after ONE: 55 55
    ∷ record { computed = coded Mfm 1 0xFF; expected = 0x55 ∷ 0x55 ∷ [] }
    -- ordinary A1 after ZERO: 44 A9, never 44 89
    ∷ record { computed = coded Mfm 0 0xA1; expected = 0x44 ∷ 0xA9 ∷ [] }
    ∷ record { computed = taken 0xA1 (string Mfm Identifier) ∷ []; expected = 0 ∷ [] }
    -- ordinary C2 after ZERO: 52 A4, never 52 24
    ∷ record { computed = coded Mfm 0 0xC2; expected = 0x52 ∷ 0xA4 ∷ [] }
    ∷ record { computed = taken 0xC2 (string Mfm Index) ∷ []; expected = 0 ∷ [] }
    -- FM 00: AA AA; FF: FF FF
    ∷ record { computed = coded Fm 0 0x00; expected = 0xAA ∷ 0xAA ∷ [] }
    ∷ record { computed = coded Fm 0 0xFF; expected = 0xFF ∷ 0xFF ∷ [] }
    -- layouts add up to 5,208 and three times to 10,416
    ∷ record { computed = fields layout0 ∷ fields layout1 ∷ fields layout2 ∷ fields layout3 ∷ []; expected = 5208 ∷ 10416 ∷ 10416 ∷ 10416 ∷ [] }
    -- layout 1: the first identifier mark begins at image byte 316, the first data mark at 404
    ∷ record { computed = places layout1 1; expected = 316 ∷ 404 ∷ [] }
    ∷ record { computed = standing layout1 1 Identifier; expected = string Mfm Identifier }
    ∷ record { computed = standing layout1 1 Data; expected = string Mfm Data }
    -- layout 0: the same at 158 and 206
    ∷ record { computed = places layout0 0; expected = 158 ∷ 206 ∷ [] }
    ∷ record { computed = standing layout0 0 Identifier; expected = string Fm Identifier }
    ∷ record { computed = standing layout0 0 Data; expected = string Fm Data }
    -- stores: 519 for N = 256 with a byte after, 518 without; 262 for layout 0
    ∷ record { computed = stores_of layout1 525 ∷ stores_of layout1 524 ∷ []; expected = 519 ∷ 518 ∷ [] }
    ∷ record { computed = stores_of layout0 263 ∷ stores_of layout0 262 ∷ []; expected = 262 ∷ 262 ∷ [] }
    ∷ []

-- Every fact of a list holds.
abbrev pub Hold : List Fact → Type 0
Hold [] = Unit {0}
Hold (fact ∷ facts) = (fact.computed ≡ fact.expected) × Hold facts
