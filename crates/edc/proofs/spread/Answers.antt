-- `edc::spread` meets its contract: the word stands for each single bit of the register.
use borrow.Author.Rules.{rules}
use Rattle.edc.proofs.Folds.{spread_stands}
use Rattle.edc.proofs.spread.Goals as goal

pub returns : goal.returns
returns c = spread_stands c.args.register (search rules)
