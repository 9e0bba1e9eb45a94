-- `stores` meets its contract: one store more where the byte after the block is stored.
use mathlib.Core.Path.{refl}
use Rattle.rewrite.proofs.Counted.{count_by}
use Rattle.rewrite.proofs.values.Block.stores.Goals as goal

pub returns-then-is_followed : goal.returns-then-is_followed
returns-then-is_followed c = count_by _ _ _ _ _ _ refl c.is_followed.ensures (rw c.if-is_followed.true)

pub returns : goal.returns
returns c = count_by _ _ _ _ _ _ refl c.is_followed.ensures (rw c.if-is_followed.false)
