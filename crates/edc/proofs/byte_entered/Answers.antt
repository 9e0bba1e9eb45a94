-- `edc::byte_entered` meets its contract: what is added to the upper half has entered after eight shifts.
use mathlib.Core.Path.{◌∙◌}
use borrow.Author.Rules.{rules}
use Rattle.edc.proofs.Linear.{byte_added}
use Rattle.edc.proofs.byte_entered.Goals as goal

pub returns : goal.returns
returns c = c.moved.ensures ∙ byte_added c.args.register c.args.byte (search rules)
