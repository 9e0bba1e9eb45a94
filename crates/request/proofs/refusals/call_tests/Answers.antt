-- `call_tests` meets its contract: the sectors of every layout have some byte.
use Rattle.rewrite.proofs.Counted.{size_some}
use Rattle.request.proofs.refusals.call_tests.Goals as goal

pub contents_tests-requires : goal.contents_tests-requires
contents_tests-requires c = rw c.layout_of-taken.ensures (size_some _)
