-- `locate` meets its contract: the tests decide, and what passes them is looked for.
use native.Mathlib.Omega.{arith}
use Rattle.calls.proofs.Refusals.{told_passed}
use Rattle.verdicts.proofs.Tests.{passed_both}
use Rattle.locate.specs.Outcomes.{locate_tests}
use Rattle.walk.proofs.Passing.{readable}
use Rattle.locate.proofs.locate.Goals as goal

pub invariant_of-image : goal.invariant_of-image
unfolding locate_tests
invariant_of-image c =
    let passes = told_passed _ c.in_ok-tested.ensures in
    record { housed = omega (arith, (readable _ _ _ _ (passed_both _ _ passes).0).long) }
