-- What is known of a call that its tests pass: 2, 3, 4 and 1, with which every reading begins.
use mathlib.Core.Path.{◌≡◌}
use mathlib.Core.List.{[], ◌∷◌}
use Prim.Native.Nat.{ℕ, ◌≤◌}
use borrow.Author.Tests.{ltb-false}
use lib.Dec.{eqb, ltb}
use Rattle.layouts.specs.Layouts.{highest}
use Rattle.calls.specs.Refusals.{longest_image, image_test}
use Rattle.layouts.specs.Refusals.{track_tests, reading_tests}
use Rattle.layouts.specs.Tracks.{highest_cylinder, highest_side}
use Rattle.calls.proofs.Refusals.{or_right}
use Rattle.layouts.proofs.Tracks.{track_known}
use Rattle.verdicts.specs.Tests.{passed, refusal}
use Rattle.verdicts.proofs.Tests.{passed_both, first_passed}

pub record Readable (layout cylinder side image : ℕ) : Type 0 where
  pub known : layout ≤ highest
  pub cylinders : cylinder ≤ highest_cylinder
  pub sides : side ≤ highest_side
  pub long : image ≤ longest_image

pub readable : (layout cylinder side image : ℕ) → refusal (reading_tests layout cylinder side image) ≡ passed → Readable layout cylinder side image
unfolding reading_tests
readable layout cylinder side image h =
    let two = passed_both (track_tests layout cylinder side) (image_test image ∷ []) h in
    let track = track_known layout cylinder side two.0 in
    let one = first_passed _ _ two.1 in
    record {
      known = track.0;
      cylinders = track.1;
      sides = track.2;
      long = ltb-false _ _ (or_right (eqb image 0) (ltb longest_image image) one.0);
    }
