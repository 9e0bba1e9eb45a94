-- What each public function of this crate promises. They are total: they take every image, every cell number, every bit and byte.
use Rattle.std.specs.Prelude.{◌≡◌, ℕ, ◌%◌, ◌^◌, ◌≤◌, List, replicate}
use Rattle.cells.specs.Cells.{cell, octet, data_byte, data_bytes, byte_clocks, bytes_clocks}
use Rattle.cells.specs.declared.Mode.{Mode}
use Rattle.cells.specs.declared.ReadByte.{ReadByte}

-- `octet` answers the eight cells from a place on.
abbrev pub IsOctet : List ℕ → ℕ → ℕ → Type 0
IsOctet image place answer = answer ≡ octet (cell image) place

-- `data_byte` answers the data byte of the sixteen cells from a place on.
abbrev pub IsDataByte : List ℕ → ℕ → ℕ → Type 0
IsDataByte image place answer = answer ≡ data_byte (cell image) place

-- What reading the byte from cell p on tells, after the bit a.
abbrev pub read_byte : Mode → (c : ℕ → ℕ) → (a p : ℕ) → ReadByte
read_byte mode c a p = record { byte = data_byte c p; clocks = byte_clocks mode c a p }

-- `read_byte` answers the data byte of the sixteen cells from a place on, and how many of their eight clock cells are doubtful after the bit before.
-- (That these are 8 at most follows; it stands here for who adds them up.)
abbrev pub IsReadByte : Mode → (before : ℕ) → List ℕ → (place : ℕ) → ReadByte → Type 0
IsReadByte mode before image place answer = (answer ≡ read_byte mode (cell image) before place) × (answer.clocks ≤ 8)

-- `read_bytes` leaves the area filled with the data bytes from a place on, as many as it has room for, and answers how many of their clock cells are
-- doubtful: the number's lowest 32 bits, so that there is an answer for areas of 2^29 bytes and above too.
pub record AreReadBytes (mode : Mode) (before : ℕ) (image : List ℕ) (place room answer : ℕ) (exit : List ℕ) : Type 0 where
  pub bytes : exit ≡ data_bytes (cell image) place room
  pub clocks : answer ≡ bytes_clocks mode (cell image) before place room % 2 ^ 32

-- `clear` leaves the area filled with zeros.
abbrev pub AreZeros : ℕ → List ℕ → Type 0
AreZeros room exit = exit ≡ replicate room 0
