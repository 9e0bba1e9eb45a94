-- `has_wrong_mark` meets its contract: the marks that are left tell what all tell.
use mathlib.Core.Path.{◌≡◌}
use lib.ListN.{drop}
use Rattle.calls.specs.Refusals.{mark_test}
use Rattle.format.specs.Refusals.{some, marks_test}
use Rattle.format.proofs.refusals.has_wrong_mark.Given as goal

abbrev pub invariant-loop-mark : goal.invariant-loop-mark
invariant-loop-mark l = (marks_test l.sectors l.marks).applies ≡ some (λ m. (mark_test m).applies) (drop l.mark-index l.marks)
