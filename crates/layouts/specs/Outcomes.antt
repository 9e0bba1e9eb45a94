-- What each public function promises, over its inputs and its result r. Each fixes the result for all inputs.
use Rattle.std.specs.Prelude.{◌≡◌, [], ◌∷◌, ℕ, ⊤, Result}
use Rattle.cells.specs.declared.Mode.{Mode}
use Rattle.verdicts.specs.Tests.{refusal}
use Rattle.layouts.specs.declared.Layout.{Layout}
use Rattle.layouts.specs.declared.Track.{Track}
use Rattle.calls.specs.declared.Refusal.{Refusal}
use Rattle.layouts.specs.Layouts.{gap_byte, layout_of}
use Rattle.layouts.specs.Tracks.{track_of}
use Rattle.calls.specs.Refusals.{told}
use Rattle.layouts.specs.Refusals.{number_test, track_tests, reading_tests}

-- The constants of a layout's type are the definition's.
abbrev pub IsLayout : Layout → Layout → Type 0
IsLayout l r = r ≡ l

-- The byte that fills the mode's gaps.
abbrev pub IsGapByte : Mode → ℕ → Type 0
IsGapByte mode r = r ≡ gap_byte mode

-- The layout of the number.
abbrev pub IsLayoutOf : (layout : ℕ) → Layout → Type 0
IsLayoutOf layout r = r ≡ layout_of layout

-- The track that a call names.
abbrev pub IsTrack : (layout cylinder side : ℕ) → Track → Type 0
IsTrack layout cylinder side r = r ≡ track_of layout cylinder side

-- Passed, or refused 4 above the highest.
abbrev pub IsLayoutNumber : (layout : ℕ) → Result ⊤ Refusal → Type 0
IsLayoutNumber layout r = r ≡ told (refusal (number_test layout ∷ []))

-- Passed, or refused by the first of 2, 3, 4.
abbrev pub IsTrackNumbers : (layout cylinder side : ℕ) → Result ⊤ Refusal → Type 0
IsTrackNumbers layout cylinder side r = r ≡ told (refusal (track_tests layout cylinder side))

-- Passed, or refused by the first of 2, 3, 4, 1.
abbrev pub IsTrackAndImage : (layout cylinder side length : ℕ) → Result ⊤ Refusal → Type 0
IsTrackAndImage layout cylinder side length r = r ≡ told (refusal (reading_tests layout cylinder side length))
