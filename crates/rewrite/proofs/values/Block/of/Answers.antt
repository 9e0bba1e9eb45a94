-- `of` keeps the block's fact: a sector of every layout is small.
use Rattle.rewrite.proofs.Counted.{size_small}
use Rattle.rewrite.proofs.values.Block.of.Goals as goal

pub invariant_of-result : goal.invariant_of-result
invariant_of-result c = record { small = rw c.layout_of.ensures (size_small _) }
