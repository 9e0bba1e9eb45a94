-- `edc::reduced` meets its contract: its shifts agree with the register at each single bit.
use borrow.Author.Rules.{rules}
use Rattle.edc.proofs.Folds.{reduced_stands}
use Rattle.edc.proofs.reduced.Goals as goal

pub returns : goal.returns
returns c = reduced_stands c.args.word (search rules)
