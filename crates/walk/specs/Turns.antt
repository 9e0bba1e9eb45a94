-- What the walk does as it goes: an address as it is read, and whether it is of this track, by its bytes. (Aids of the
-- code; the law `own` says that it is the definition's. No promise rests on them.)
use Rattle.std.specs.Prelude.{Bool, true, ◌&&◌, ◌++◌, ◌⊎◌, ◌≡◌, ℕ, ◌+◌, ◌≤◌, eqb, leb}
use Rattle.cells.specs.Cells.{data_byte, data_bytes, bytes_clocks}
use Rattle.cells.specs.declared.Mode.{Mode}
use Rattle.edc.specs.Register.{edc_of}
use Rattle.layouts.specs.declared.Layout.{Layout}
use Rattle.layouts.specs.declared.Track.{Track}
use Rattle.marks.specs.Marks.{covered, last_bit, stands}
use Rattle.marks.specs.declared.Mark.TheVariants.{Identifier, Data, Control, Open}
use Rattle.search.specs.Search.{either_marks, first_mark}
use Rattle.walk.specs.Walk.{reach, reached, Round}
use Rattle.walk.specs.declared.Block.{Block}
use Rattle.walk.specs.declared.Block.TheVariants.{Missing, Beyond, Within}

-- The address at cell p: its four bytes, the register once the identifier mark and all six bytes have entered it, and how many clock cells
-- of the six are doubtful.
abbrev pub AddressAt : Mode → (ℕ → ℕ) → ℕ → (cylinder side sector fourth register clocks : ℕ) → Type 0
AddressAt mode c p cylinder side sector fourth register clocks =
    (cylinder ≡ data_byte c p)
    × (side ≡ data_byte c (p + 16))
    × (sector ≡ data_byte c (p + 32))
    × (fourth ≡ data_byte c (p + 48))
    × (register ≡ edc_of (covered mode Identifier ++ data_bytes c p 6))
    × (clocks ≡ bytes_clocks mode c (last_bit Identifier) p 6)

-- Steps 3 and 4, of an accepted identifier of this sector; a is the cell after the address EDC.
abbrev pub block_of : Layout → (c : ℕ → ℕ) → (n sector a : ℕ) → Round
block_of l c n sector a = reached l n sector a (first_mark l.mode c n either_marks a (a + reach l.mode + 1))

-- The address with these bytes is of this track.
abbrev pub is_ours : Track → (first second third fourth : ℕ) → Bool
is_ours t first second third fourth =
    eqb first t.cylinder
    && eqb second t.side
    && eqb fourth t.layout.fourth
    && leb 1 third
    && leb third t.layout.sectors

-- A mark of a block stands at p: a data, a control or an open mark.
abbrev pub BlockStands : Mode → (c : ℕ → ℕ) → (n p : ℕ) → Type 0
BlockStands mode c n p = (stands mode c n Data p ≡ true) ⊎ ((stands mode c n Control p ≡ true) ⊎ (stands mode c n Open p ≡ true))

-- In an image of the house bound the mark of a block begins at a cell that sums can take, and of one within the image it stands there.
abbrev pub Placed : Mode → (c : ℕ → ℕ) → (n : ℕ) → Block → Type 0
Placed mode c n Missing = Unit {0}
Placed mode c n (Beyond m) = m ≤ 2147483648
Placed mode c n (Within m) = (m ≤ 2147483648) × BlockStands mode c n m
