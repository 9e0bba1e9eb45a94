-- What is known of a read that its tests pass.
use mathlib.Core.Path.{◌≡◌, ◌∙◌}
use mathlib.Core.List.{[], ◌∷◌}
use Prim.Native.Nat.{ℕ, ◌*◌}
use borrow.Author.Rules.{rules}
use borrow.Author.Tests.{eqb-true, not-false}
use Rattle.layouts.specs.Layouts.{layout_of}
use Rattle.calls.specs.Refusals.{area_test}
use Rattle.layouts.specs.Refusals.{reading_tests}
use Rattle.layouts.proofs.Layouts.{every_layout, adds}
use Rattle.walk.proofs.Passing.{Readable, readable}
use Rattle.verdicts.specs.Tests.{passed, refusal}
use Rattle.verdicts.proofs.Tests.{passed_both, first_passed}
use Rattle.read.specs.Turns.{Modest}
use Rattle.read.specs.Outcomes.{read_tests}

pub modest : (n : ℕ) → Modest (layout_of n)
modest = every_layout Modest (search rules) (search rules) (search rules) (search rules)

-- 2, 3, 4 and 1 say what they say of every reading; 5 says that the area has a slot for each sector.
module _ (layout cylinder side image area : ℕ) (h : refusal (read_tests layout cylinder side image area) ≡ passed) where
  pub read_known : Readable layout cylinder side image
  unfolding read_tests
  read_known = readable layout cylinder side image (passed_both (reading_tests layout cylinder side image) _ h).0

  pub area_whole : area ≡ (layout_of layout).sectors * (layout_of layout).size
  unfolding read_tests
  area_whole =
      let five = (passed_both (reading_tests layout cylinder side image) (area_test (layout_of layout).area_bytes area ∷ []) h).1 in
      eqb-true area (layout_of layout).area_bytes (not-false _ (first_passed _ _ five).0) ∙ (adds layout).area
