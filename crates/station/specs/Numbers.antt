-- The number of an answer, as the exported functions hand it out (01, "Refused calls"). Which number a refusal has is said where the refusal is.
use Rattle.std.specs.Prelude.{ℕ, Result, Ok, Err}

-- 0, or the number of the refusal.
abbrev pub number_of : {A F : Type 0} → (F → ℕ) → Result A F → ℕ
number_of number (Ok x) = 0
number_of number (Err f) = number f
