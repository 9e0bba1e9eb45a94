-- `edc` meets its contract: the bytes enter the register after the mark.
use mathlib.Core.Path.{◌∙◌}
use Rattle.marks.proofs.Spelling.{register_all}
use Rattle.rewrite.proofs.values.Field.edc.Goals as goal

pub returns : goal.returns
returns c = c.bytes_entered.ensures ∙ rw (c.register_after-register.ensures, c.mark_of.ensures) (register_all _ _ _)
