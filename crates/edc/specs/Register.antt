-- The shift register that makes the EDC (004, 4.13 and annex A), a bit at a time. Its sixteen positions C0 to C15 are the
-- binary digits of a number below 65536, C15 the highest. Bits enter it one after the other; what it then holds are the
-- two EDC bytes. Assumes nothing.
use Rattle.std.specs.Prelude.{ℕ, ◌+◌, ◌*◌, ◌/◌, ◌%◌, List, [], ◌∷◌}
use Rattle.std.specs.Int.Bits.{bit_xor}

-- prior to operation, all positions of the register are set to ONE (004, annex A)
abbrev pub start : ℕ
start = 0xFFFF

-- the feedback: an input bit added (exclusive OR) to the contents of position C15 (004, annex A)
abbrev pub feedback : ℕ → ℕ → ℕ
feedback r b = (r / 32768 + b) % 2

-- a bit entered: the register shifted, the feedback added into C0, C5 and C12, the places of 0x1021 (004, 4.13, annex A)
unfoldable pub bit_entered : ℕ → ℕ → ℕ
bit_entered r b = bit_xor (r * 2 % 65536) (feedback r b * 0x1021)

-- the eight bits of a byte, B8 first (004, 4.7)
abbrev pub bits : ℕ → List ℕ
bits x = x / 128 % 2 ∷ x / 64 % 2 ∷ x / 32 % 2 ∷ x / 16 % 2 ∷ x / 8 % 2 ∷ x / 4 % 2 ∷ x / 2 % 2 ∷ x % 2 ∷ []

-- bits entered, first to last (004, annex A)
abbrev pub bits_entered : ℕ → List ℕ → ℕ
bits_entered r [] = r
bits_entered r (b ∷ bs) = bits_entered (bit_entered r b) bs

-- a byte entered, most significant bit first (01, Order on the track)
unfoldable pub byte_entered : ℕ → ℕ → ℕ
byte_entered r x = bits_entered r (bits x)

-- bytes entered, first to last (004, 4.13)
unfoldable pub bytes_entered : ℕ → List ℕ → ℕ
bytes_entered r [] = r
bytes_entered r (x ∷ xs) = bytes_entered (byte_entered r x) xs

-- the EDC of bytes: the register after the shift of the last bit, and no further one (01, Order on the track; 004, annex A)
unfoldable pub edc_of : List ℕ → ℕ
edc_of xs = bytes_entered start xs

-- the two EDC bytes of a register, high byte first (01, Order on the track)
abbrev pub edc_bytes : ℕ → List ℕ
edc_bytes r = r / 256 ∷ r % 256 ∷ []
