-- `tried` meets its contract: before the place to look at next there is nothing, and behind it only what is left of the entry.
use Rattle.search.proofs.Passing.{Left}
use Rattle.search.proofs.tables.tried.Given as goal

abbrev pub invariant-loop-left : goal.invariant-loop-left
invariant-loop-left l = Left l.mode l.kinds l.image.bytes.now l.next l.from l.to l.left

abbrev pub decreases-loop-left : goal.decreases-loop-left
decreases-loop-left l = l.left
