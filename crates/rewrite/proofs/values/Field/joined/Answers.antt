-- `joined` meets its contract: the first data cell decides.
use mathlib.Core.Path.{ap, ◌∙◌}
use Prim.Native.Nat.{ℕ, ◌%◌}
use Rattle.rewrite.specs.Stores.{joined as joinedTo}
use Rattle.rewrite.proofs.Counted.{joined_zero, joined_one}
use Rattle.rewrite.proofs.values.Field.joined.Goals as goal

pub returns-then-byte-eq0 : goal.returns-then-byte-eq0
returns-then-byte-eq0 c =
    joined_zero _ _ c.if-byte-eq0.true ∙ ap (λ (k : ℕ). joinedTo (k % 2) c.args.byte) c.edc.ensures

pub returns : goal.returns
returns c = joined_one _ _ c.if-byte-eq0.false
