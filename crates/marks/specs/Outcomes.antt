-- What each public function of this crate promises.
use Rattle.std.specs.Prelude.{Bool, List, ◌≡◌, ℕ, ◌*◌, ◌≤◌, length}
use Rattle.cells.specs.Cells.{cell}
use Rattle.cells.specs.declared.Mode.{Mode}
use Rattle.marks.specs.Marks.{string, mark_bytes, last_byte, last_bit, of_block, mark_of, stands, register_after}
use Rattle.marks.specs.declared.Mark.{Mark}

-- The house bound: an image of at most 2^28 bytes, so that the number of its cells is far from wrapping.
abbrev pub Housed : List ℕ → Type 0
Housed image = length image ≤ 268435456

-- `fm_string` and `mfm_string` answer the image bytes of a mark in their mode.
abbrev pub IsString : Mode → Mark → List ℕ → Type 0
IsString mode mark answer = answer ≡ string mode mark

-- `mark_bytes` answers how many track bytes a mark has; they are few, so that no sum with them is near to wrapping.
abbrev pub AreMarkBytes : Mode → ℕ → Type 0
AreMarkBytes mode answer = (answer ≡ mark_bytes mode) × (1 ≤ answer) × (answer ≤ 4)

-- `last_byte` answers the last image byte of a mark.
abbrev pub IsLastByte : Mode → Mark → ℕ → Type 0
IsLastByte mode mark answer = answer ≡ last_byte mode mark

-- `last_bit` answers the last bit of a mark.
abbrev pub IsLastBit : Mark → ℕ → Type 0
IsLastBit mark answer = answer ≡ last_bit mark

-- `is_block` answers whether the mark is of a block.
abbrev pub TellsBlock : Mark → Bool → Type 0
TellsBlock mark answer = answer ≡ of_block mark

-- `stands` answers whether the mark stands at a place of the image.
abbrev pub TellsStanding : Mode → Mark → List ℕ → ℕ → Bool → Type 0
TellsStanding mode mark image place answer = answer ≡ stands mode (cell image) (8 * length image) mark place

-- `register_after` answers the register of the EDC once the mark has entered it.
abbrev pub IsRegisterAfter : Mode → Mark → ℕ → Type 0
IsRegisterAfter mode mark answer = answer ≡ register_after mode mark

-- `mark_of` answers the mark that a mark byte asks for.
abbrev pub IsMarkOf : (byte : ℕ) → Mark → Type 0
IsMarkOf byte answer = answer ≡ mark_of byte
