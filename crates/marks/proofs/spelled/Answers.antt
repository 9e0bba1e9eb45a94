-- `spelled` meets its contract: what is left to compare from byte i on says the same as the whole.
use Rattle.std.proofs.Common.{sym, ◌∙◌}
use Rattle.marks.proofs.Spelling.{spells_differ, spells_same, spells_end}
use Rattle.marks.proofs.spelled.Goals as goal

pub returns-then-octet-byte : goal.returns-then-octet-byte
returns-then-octet-byte c = sym (c.loop-i.invariant ∙ spells_differ _ _ _ _ _ c.loop-i-test.true c.octet.ensures c.if-octet-byte.true)

pub loop-i-preserved : goal.loop-i-preserved
loop-i-preserved c = c.loop-i.invariant ∙ spells_same _ _ _ _ _ c.loop-i-test.true c.octet.ensures c.if-octet-byte.false

pub returns : goal.returns
returns c = sym (c.loop-i.invariant ∙ spells_end _ _ _ _ c.loop-i-test.false)
