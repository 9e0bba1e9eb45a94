-- Where a sector's block is, as the walk goes on: what is held is what the events met so far give.
use mathlib.Core.Path.{◌≡◌, refl, ap, ◌∙◌}
use mathlib.Core.Bool.{Bool, true, false, cond}
use mathlib.Core.List.{List, [], ◌∷◌, ◌++◌, append-nil}
use Prim.Native.Nat.{ℕ}
use lib.Dec.{eqb}
use Rattle.walk.specs.Events.{blocks}
use Rattle.locate.specs.Outcomes.{located}
use Rattle.locate.specs.Turns.{located_next, located_after}
use Rattle.walk.specs.declared.Block.{Block}
use Rattle.walk.specs.declared.Event.{Event}
use Rattle.walk.specs.declared.Event.TheVariants.{Bad, Foreign, Accepted}
use Rattle.walk.proofs.Events.{blocks_append, blocks_bad, blocks_foreign}

located_next_lem : (bs : List Block) (b : Block) → located (bs ++ b ∷ []) ≡ located_next (located bs) b
unfolding located
located_next_lem [] b = refl
located_next_lem (x ∷ []) b = refl
located_next_lem (x ∷ y ∷ bs) b = refl

module _ (s : ℕ) where
  pub located_after_lem : (xs : List Event) (e : Event) → located (blocks s (xs ++ e ∷ [])) ≡ located_after s (located (blocks s xs)) e
  unfolding blocks
  located_after_lem xs Bad = ap located (blocks_bad s xs)
  located_after_lem xs Foreign = ap located (blocks_foreign s xs)
  located_after_lem xs (Accepted x b) = ap located (blocks_append s xs (Accepted x b ∷ [])) ∙ by (eqb x s)
    where
      by : (h : Bool) → located (blocks s xs ++ cond h (b ∷ []) []) ≡ cond h (located_next (located (blocks s xs)) b) (located (blocks s xs))
      by true = located_next_lem (blocks s xs) b
      by false = ap located (append-nil (blocks s xs))
