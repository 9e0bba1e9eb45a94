-- What the words of the code count, the doubtful clock cells of octets, and which runs of bytes they serve. (Aids of the code; the laws `words_clocks` and
-- `sixteen_clocks` say that those of octets are those of a byte. No promise rests on them.)
use Rattle.std.specs.Prelude.{ℕ, ◌+◌, ◌*◌, ◌/◌, ◌%◌, ◌<◌, List, length, bit_and, bit_or, bit_xor}
use Rattle.cells.specs.Cells.{cell, doubt}
use Rattle.cells.specs.Outcomes.{AreReadBytes}
use Rattle.cells.specs.declared.Mode.{Mode}
use Rattle.cells.specs.declared.Mode.TheVariants.{Fm, Mfm}

-- The clock cells that go by the data bits beside them: in MFM all of sixteen, in FM none.
abbrev pub ruled : Mode → ℕ
ruled Fm = 0
ruled Mfm = 0xAAAA

-- Of two octets, as the halves of w, the clock cells that are right, each where it stands, as the code finds them.
abbrev pub right_clocks : Mode → (e w : ℕ) → ℕ
right_clocks mode e w = bit_xor w (bit_and (bit_or (bit_and w 0x5555 * 2 % 65536) e) (ruled mode))

-- How many clock cells of the octet x are doubtful; e is the octet from one cell earlier on, in which each data bit stands where x has the clock cell behind it.
abbrev pub octet_clocks : Mode → (e x : ℕ) → ℕ
octet_clocks mode e x =
    doubt mode (e / 128 % 2) (x / 128 % 2) (x / 64 % 2)
    + doubt mode (e / 32 % 2) (x / 32 % 2) (x / 16 % 2)
    + doubt mode (e / 8 % 2) (x / 8 % 2) (x / 4 % 2)
    + doubt mode (e / 2 % 2) (x / 2 % 2) (x % 2)

-- How many of two octets, as the halves of a word.
abbrev pub word_clocks : Mode → (e w : ℕ) → ℕ
word_clocks mode e w = octet_clocks mode (e / 256) (w / 256) + octet_clocks mode (e % 256) (w % 256)

-- The words serve a run of so many bytes that begins one cell behind the one that is `shift` cells into the image byte `at`: its image bytes are there, and
-- the sum of its clock cells fits in sixteen bits.
abbrev pub Served : List ℕ → (at shift count : ℕ) → Type 0
Served image at shift count = (shift < 8) × (at + 2 * count < length image) × (count < 8192)

-- It is read, after the bit that stands before it.
abbrev pub IsRunRead : Mode → List ℕ → (at shift count : ℕ) → (answer : ℕ) → List ℕ → Type 0
IsRunRead mode image at shift = AreReadBytes mode (cell image (8 * at + shift)) image (8 * at + shift + 1)
