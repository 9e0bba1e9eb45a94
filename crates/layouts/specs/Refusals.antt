-- The tests of the numbers that name a track, in the papers' order (01, "Refused calls").
use Rattle.std.specs.Prelude.{not, List, [], ◌∷◌, ◌++◌, ℕ, ltb}
use Rattle.verdicts.specs.Tests.{Test}
use Rattle.calls.specs.Refusals.{image_test}
use Rattle.calls.specs.declared.Refusal.{Refusal}
use Rattle.calls.specs.declared.Refusal.TheVariants.{CylinderNumber, SideNumber, LayoutNumber}
use Rattle.layouts.specs.Layouts.{highest}
use Rattle.layouts.specs.Tracks.{highest_cylinder, highest_side, allowed}

-- 2: the cylinder is above the highest.
abbrev pub cylinder_test : ℕ → Test Refusal
cylinder_test cylinder = record { applies = ltb highest_cylinder cylinder; gives = CylinderNumber }

-- 3: the side is above the highest.
abbrev pub side_test : ℕ → Test Refusal
side_test side = record { applies = ltb highest_side side; gives = SideNumber }

-- 4: the layout is not allowed on this track; above the highest it is on none.
abbrev pub track_test : (layout cylinder side : ℕ) → Test Refusal
track_test layout cylinder side = record { applies = not (allowed layout cylinder side); gives = LayoutNumber }

-- 4, where no track is named: the layout is above the highest.
abbrev pub number_test : ℕ → Test Refusal
number_test layout = record { applies = ltb highest layout; gives = LayoutNumber }

-- 2, 3, 4: how format, read and the rewrite request begin.
unfoldable pub track_tests : (layout cylinder side : ℕ) → List (Test Refusal)
track_tests layout cylinder side = cylinder_test cylinder ∷ side_test side ∷ track_test layout cylinder side ∷ []

-- 2, 3, 4, 1: how read and the rewrite request begin.
unfoldable pub reading_tests : (layout cylinder side length : ℕ) → List (Test Refusal)
reading_tests layout cylinder side length = track_tests layout cylinder side ++ (image_test length ∷ [])
