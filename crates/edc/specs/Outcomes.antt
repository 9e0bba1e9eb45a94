-- What each public function promises. Every promise fixes the result for all arguments. Assumes nothing.
use Rattle.std.specs.Prelude.{ℕ, ◌≡◌, List}
use Rattle.edc.specs.Register.{byte_entered, bytes_entered, edc_of}

-- the result is the register after the byte (004, 4.13)
abbrev pub IsByteEntered : ℕ → ℕ → ℕ → Type 0
IsByteEntered register byte r = r ≡ byte_entered register byte

-- the result is the register after the bytes, first to last (004, 4.13)
abbrev pub IsBytesEntered : ℕ → List ℕ → ℕ → Type 0
IsBytesEntered register bytes r = r ≡ bytes_entered register bytes

-- the result is the EDC of the bytes (004, annex A)
abbrev pub IsEdc : List ℕ → ℕ → Type 0
IsEdc bytes r = r ≡ edc_of bytes
