-- What is known of a track once its tests have passed.
use mathlib.Core.Path.{◌≡◌}
use Prim.Native.Nat.{ℕ, ◌≤◌}
use borrow.Author.Tests.{ltb-false, not-false}
use Rattle.verdicts.specs.Tests.{passed, refusal}
use Rattle.verdicts.proofs.Tests.{first_passed}
use Rattle.layouts.specs.Layouts.{highest}
use Rattle.layouts.specs.Refusals.{track_tests}
use Rattle.layouts.specs.Tracks.{highest_cylinder, highest_side}
use Rattle.layouts.proofs.Layouts.{allowed_known}

-- Where 2, 3 and 4 pass, the layout, the cylinder and the side are among those that there are.
pub track_known : (layout cylinder side : ℕ) → refusal (track_tests layout cylinder side) ≡ passed
    → (layout ≤ highest) × (cylinder ≤ highest_cylinder) × (side ≤ highest_side)
unfolding track_tests
track_known layout cylinder side h =
    let first = first_passed _ _ h in
    let second = first_passed _ _ first.1 in
    let third = first_passed _ _ second.1 in
    (allowed_known layout cylinder side (not-false _ third.0), ltb-false _ _ first.0, ltb-false _ _ second.0)
