-- `edc::moved` meets its contract: its shifts agree with the register at each single bit.
use borrow.Author.Rules.{rules}
use Rattle.edc.proofs.Folds.{moved_eight}
use Rattle.edc.proofs.moved.Goals as goal

pub returns : goal.returns
returns c = moved_eight c.args.register (search rules)
