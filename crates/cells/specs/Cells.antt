-- The cells of an image, what eight or sixteen of them hold, and which clock cells are doubtful. An image is bytes, eight cells each, most
-- significant bit first; it begins at the index hole and does not wrap round (01, "The image and the four layouts"). Past the image's end every
-- cell is 0, so that each definition has a value at every cell. From the octet on, all is said of a function c, whose value c i is cell i.
use Rattle.std.specs.Prelude.{ℕ, zero, suc, ◌+◌, ◌-◌, ◌*◌, ◌/◌, ◌%◌, ◌^◌, ◌<◌, cond, List, [], ◌∷◌, ◌==◌, slice_index}
use Rattle.cells.specs.declared.Mode.{Mode}
use Rattle.cells.specs.declared.Mode.TheVariants.{Fm, Mfm}

-- A number that is a byte.
abbrev pub Byte : ℕ → Type 0
Byte x = x < 256

-- A list of bytes: what an image is, and a data area.
abbrev pub Bytes : List ℕ → Type 0
Bytes [] = Unit {0}
Bytes (x ∷ xs) = Byte x × Bytes xs

-- Cell i of an image (01, "The image and the four layouts").
unfoldable pub cell : List ℕ → ℕ → ℕ
cell image i = slice_index image (i / 8) / 2 ^ (7 - i % 8) % 2

-- Eight bits as a byte, the first of them B8, the most significant (004, 4.7).
abbrev pub byte_of : ℕ → ℕ → ℕ → ℕ → ℕ → ℕ → ℕ → ℕ → ℕ
byte_of a b c d e f g h = 128 * a + 64 * b + 32 * c + 16 * d + 8 * e + 4 * f + 2 * g + h

-- The eight cells from cell p on, as a byte; p may stand on a byte boundary or not (01, "How a track is read").
unfoldable pub octet : (ℕ → ℕ) → ℕ → ℕ
octet c p = byte_of (c p) (c (p + 1)) (c (p + 2)) (c (p + 3)) (c (p + 4)) (c (p + 5)) (c (p + 6)) (c (p + 7))

-- The data byte of the sixteen cells from cell p on: clock cell, data cell, eight times, B8 first; only the data cells count
-- (01, "The image and the four layouts" and "How a track is read").
unfoldable pub data_byte : (ℕ → ℕ) → ℕ → ℕ
data_byte c p =
    byte_of (c (p + 1)) (c (p + 3)) (c (p + 5)) (c (p + 7)) (c (p + 9)) (c (p + 11)) (c (p + 13)) (c (p + 15))

-- The k data bytes from cell p on, one behind the other.
unfoldable pub data_bytes : (ℕ → ℕ) → ℕ → ℕ → List ℕ
data_bytes c p zero = []
data_bytes c p (suc k) = data_byte c p ∷ data_bytes c (p + 16) k

-- The clock cell between the data bits a and d: in FM it is 1, in MFM it is 1 exactly if both are ZERO
-- (01, "The image and the four layouts"; 004, 4.1.1 and 4.1.2).
unfoldable pub clock : Mode → ℕ → ℕ → ℕ
clock Fm a d = 1
clock Mfm a d = 1 - (a + d)

-- 1 where the clock cell x between the data bits a and d is doubtful, which is to say not the mode's, else 0 (02, Req 06).
unfoldable pub doubt : Mode → (a x d : ℕ) → ℕ
doubt mode a x d = cond (x == clock mode a d) 0 1

module _ (mode : Mode) (c : ℕ → ℕ) where
  -- How many of the eight clock cells of the sixteen from cell p on are doubtful, after the bit a (02, Req 06).
  unfoldable pub byte_clocks : (a p : ℕ) → ℕ
  byte_clocks a p =
      doubt mode a (c p) (c (p + 1))
      + doubt mode (c (p + 1)) (c (p + 2)) (c (p + 3))
      + doubt mode (c (p + 3)) (c (p + 4)) (c (p + 5))
      + doubt mode (c (p + 5)) (c (p + 6)) (c (p + 7))
      + doubt mode (c (p + 7)) (c (p + 8)) (c (p + 9))
      + doubt mode (c (p + 9)) (c (p + 10)) (c (p + 11))
      + doubt mode (c (p + 11)) (c (p + 12)) (c (p + 13))
      + doubt mode (c (p + 13)) (c (p + 14)) (c (p + 15))

  -- The sum for the k bytes from cell p on, the first of them after the bit a: the last bit of each is the bit before the next (02, Req 06).
  unfoldable pub bytes_clocks : (a p k : ℕ) → ℕ
  bytes_clocks a p zero = 0
  bytes_clocks a p (suc k) = byte_clocks a p + bytes_clocks (c (p + 15)) (p + 16) k
