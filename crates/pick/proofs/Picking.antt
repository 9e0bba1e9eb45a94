-- What is known of a pick that its tests pass.
use mathlib.Core.Path.{◌≡◌, ◌∙◌}
use mathlib.Core.List.{[], ◌∷◌}
use Prim.Native.Nat.{ℕ, ◌*◌, ◌≤◌}
use native.Mathlib.Omega.{arith}
use borrow.Author.Tests.{eqb-true, ltb-false, not-false}
use Rattle.layouts.specs.Layouts.{highest, most_sectors, layout_of}
use Rattle.layouts.specs.Refusals.{number_test}
use Rattle.layouts.proofs.Layouts.{adds, sectors_few}
use Rattle.calls.proofs.Refusals.{sector_known}
use Rattle.verdicts.specs.Tests.{passed, refusal}
use Rattle.verdicts.proofs.Tests.{passed_both, first_passed}
use Rattle.pick.specs.Picks.{area_tests, pick_tests}

-- A pick that its tests pass.
pub record Pickable (layout sector first second : ℕ) : Type 0 where
  pub known : layout ≤ highest
  pub low : 1 ≤ sector
  pub high : sector ≤ (layout_of layout).sectors
  pub few : sector ≤ most_sectors
  pub one : first ≡ (layout_of layout).sectors * (layout_of layout).size
  pub two : second ≡ (layout_of layout).sectors * (layout_of layout).size

pub pickable : (layout sector first second : ℕ) → refusal (pick_tests layout sector first second) ≡ passed → Pickable layout sector first second
unfolding pick_tests area_tests
pickable layout sector first second h =
    let l = layout_of layout in
    let both = passed_both (number_test layout ∷ []) (area_tests l sector first second) h in
    let n : layout ≤ highest = ltb-false _ _ (first_passed _ _ both.0).0 in
    let nine = first_passed _ _ both.1 in
    let there = sector_known l.sectors sector nine.0 in
    let five = first_passed _ _ nine.1 in
    let more = first_passed _ _ five.1 in
    record {
      known = n;
      low = there.0;
      high = there.1;
      few = omega (arith, there.1, sectors_few layout);
      one = eqb-true first l.area_bytes (not-false _ five.0) ∙ (adds layout).area;
      two = eqb-true second l.area_bytes (not-false _ more.0) ∙ (adds layout).area;
    }
