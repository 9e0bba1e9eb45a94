-- How a data byte is coded as sixteen cells: clock cell, data cell, eight times, B8 first. A clock cell stands between two data bits,
-- so the coding of a byte takes the bit before it; the bit before the track's first is taken as ZERO.
use Rattle.std.specs.Prelude.{ℕ, ◌/◌, ◌%◌}
use Rattle.cells.specs.Cells.{byte_of, clock}
use Rattle.cells.specs.declared.Mode.{Mode}
use Rattle.coding.specs.declared.Pair.{Pair}

-- Four data bits after the bit a, as an image byte: clock cell, data cell, four times.
unfoldable pub four : Mode → ℕ → ℕ → ℕ → ℕ → ℕ → ℕ
four mode a d e f g = byte_of (clock mode a d) d (clock mode d e) e (clock mode e f) f (clock mode f g) g

-- The first image byte of the data byte x after the bit a: its bits B8 to B5.
unfoldable pub high : Mode → ℕ → ℕ → ℕ
high mode a x = four mode a (x / 128 % 2) (x / 64 % 2) (x / 32 % 2) (x / 16 % 2)

-- The second image byte of the data byte x: its bits B4 to B1, after B5.
unfoldable pub low : Mode → ℕ → ℕ
low mode x = four mode (x / 16 % 2) (x / 8 % 2) (x / 4 % 2) (x / 2 % 2) (x % 2)

-- The two image bytes of the data byte x after the bit a.
abbrev pub coded_byte : Mode → ℕ → ℕ → Pair
coded_byte mode a x = record { first = high mode a x; second = low mode x }
