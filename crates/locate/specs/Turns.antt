-- Where a sector's block is once one event more was met. (An aid of the code; the law `located_after_lem` says that it is the definition's. No promise
-- rests on it.)
use Rattle.std.specs.Prelude.{cond, ℕ, eqb}
use Rattle.walk.specs.declared.Block.{Block}
use Rattle.walk.specs.declared.Event.{Event}
use Rattle.walk.specs.declared.Event.TheVariants.{Bad, Foreign, Accepted}
use Rattle.locate.specs.declared.Located.{Located}
use Rattle.locate.specs.declared.Located.TheVariants.{Unmet, Single, Doubled}

-- Once one more of the sector's identifiers was accepted.
abbrev pub located_next : Located → Block → Located
located_next Unmet b = Single b
located_next (Single x) b = Doubled
located_next Doubled b = Doubled

-- Once the walk has met an event more.
abbrev pub located_after : ℕ → Located → Event → Located
located_after s before Bad = before
located_after s before Foreign = before
located_after s before (Accepted x b) = cond (eqb x s) (located_next before b) before
