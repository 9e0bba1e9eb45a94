-- What the walk met: the two counts, and what the accepted identifiers of each sector gave (01, "How a track is read").
use Rattle.std.specs.Prelude.{cond, List, [], ◌∷◌, ℕ, suc, eqb}
use Rattle.walk.specs.declared.Block.{Block}
use Rattle.walk.specs.declared.Event.{Event}
use Rattle.walk.specs.declared.Event.TheVariants.{Bad, Foreign, Accepted}

-- The identifiers whose EDC is wrong, and those of other tracks: exactly what step 2 meets.
unfoldable pub bads : List Event → ℕ
bads [] = 0
bads (Bad ∷ es) = suc (bads es)
bads (Foreign ∷ es) = bads es
bads (Accepted s b ∷ es) = bads es

unfoldable pub foreigns : List Event → ℕ
foreigns [] = 0
foreigns (Bad ∷ es) = foreigns es
foreigns (Foreign ∷ es) = suc (foreigns es)
foreigns (Accepted s b ∷ es) = foreigns es

-- What the accepted identifiers of sector s gave.
unfoldable pub blocks : ℕ → List Event → List Block
blocks s [] = []
blocks s (Bad ∷ es) = blocks s es
blocks s (Foreign ∷ es) = blocks s es
blocks s (Accepted x b ∷ es) = cond (eqb x s) (b ∷ blocks s es) (blocks s es)
