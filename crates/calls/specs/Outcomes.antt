-- What each public function promises, over its inputs and its result r. Each fixes the result for all inputs.
use Rattle.std.specs.Prelude.{Bool, [], ◌∷◌, ◌≡◌, ℕ, ⊤, Result}
use Rattle.verdicts.specs.Tests.{refusal}
use Rattle.calls.specs.Refusals.{refusal_number, checked_number, told, image_test, area_test, mark_test, control_test, sector_test}
use Rattle.calls.specs.declared.Refusal.{Refusal}

-- The number that the papers give the refusal.
abbrev pub IsRefusalNumber : Refusal → ℕ → Type 0
IsRefusalNumber f r = r ≡ refusal_number f

-- The number of the answer.
abbrev pub IsCheckedNumber : {T : Type 0} → Result T Refusal → ℕ → Type 0
IsCheckedNumber answer r = r ≡ checked_number answer

-- What one test says: passed, or refused by it.
abbrev pub IsTested : Bool → Refusal → Result ⊤ Refusal → Type 0
IsTested applies gives r = r ≡ told (refusal (record { applies = applies; gives = gives } ∷ []))

-- Passed, or refused 1.
abbrev pub IsImageLength : (length : ℕ) → Result ⊤ Refusal → Type 0
IsImageLength length r = r ≡ told (refusal (image_test length ∷ []))

-- Passed, or refused 5.
abbrev pub IsAreaLength : (wanted given : ℕ) → Result ⊤ Refusal → Type 0
IsAreaLength wanted given r = r ≡ told (refusal (area_test wanted given ∷ []))

-- Passed, or refused 6.
abbrev pub IsMarkByte : (mark : ℕ) → Result ⊤ Refusal → Type 0
IsMarkByte mark r = r ≡ told (refusal (mark_test mark ∷ []))

-- Passed, or refused 7.
abbrev pub IsControlRecord : (cylinder mark first : ℕ) → Result ⊤ Refusal → Type 0
IsControlRecord cylinder mark first r = r ≡ told (refusal (control_test cylinder mark first ∷ []))

-- Passed, or refused 9.
abbrev pub IsSectorNumber : (sectors sector : ℕ) → Result ⊤ Refusal → Type 0
IsSectorNumber sectors sector r = r ≡ told (refusal (sector_test sectors sector ∷ []))
