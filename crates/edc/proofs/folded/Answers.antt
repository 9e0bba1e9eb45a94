-- `edc::folded` meets its contract: its shifts agree with 64 of the register at each single bit.
use borrow.Author.Rules.{rules}
use Rattle.edc.proofs.Folds.{folded_stands}
use Rattle.edc.proofs.folded.Goals as goal

pub returns : goal.returns
returns c = folded_stands c.args.word (search rules)
