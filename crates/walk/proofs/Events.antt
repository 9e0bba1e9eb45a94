-- What events one behind the other give: the counts, and the blocks of a sector.
use mathlib.Core.Path.{◌≡◌, refl, ap, ◌∙◌}
use mathlib.Core.Bool.{Bool, true, false, cond}
use mathlib.Core.List.{List, [], ◌∷◌, ◌++◌, append-nil}
use Prim.Native.Nat.{ℕ, ◌+◌, ◌≤◌}
use native.Mathlib.Omega.{arith}
use borrow.Author.Tests.{eq-eqb, ne_eqb}
use lib.Dec.{eqb}
use lib.ListN.{length}
use Rattle.walk.specs.Events.{bads, foreigns, blocks}
use Rattle.walk.specs.declared.Block.{Block}
use Rattle.walk.specs.declared.Event.{Event}
use Rattle.walk.specs.declared.Event.TheVariants.{Bad, Foreign, Accepted}

-- ---- the counts

pub bads_append : (xs ys : List Event) → bads (xs ++ ys) ≡ bads xs + bads ys
unfolding bads
bads_append [] ys = omega arith
bads_append (Bad ∷ xs) ys = omega (arith, bads_append xs ys)
bads_append (Foreign ∷ xs) ys = bads_append xs ys
bads_append (Accepted s b ∷ xs) ys = bads_append xs ys

pub foreigns_append : (xs ys : List Event) → foreigns (xs ++ ys) ≡ foreigns xs + foreigns ys
unfolding foreigns
foreigns_append [] ys = omega arith
foreigns_append (Bad ∷ xs) ys = foreigns_append xs ys
foreigns_append (Foreign ∷ xs) ys = omega (arith, foreigns_append xs ys)
foreigns_append (Accepted s b ∷ xs) ys = foreigns_append xs ys

-- No event is counted twice.
pub counts_few : (xs : List Event) → bads xs + foreigns xs ≤ length xs
unfolding bads foreigns
counts_few [] = omega arith
counts_few (Bad ∷ xs) = omega (arith, counts_few xs)
counts_few (Foreign ∷ xs) = omega (arith, counts_few xs)
counts_few (Accepted s b ∷ xs) = omega (arith, counts_few xs)

-- ---- the blocks of a sector

pub blocks_append : (s : ℕ) (xs ys : List Event) → blocks s (xs ++ ys) ≡ blocks s xs ++ blocks s ys
unfolding blocks
blocks_append s [] ys = refl
blocks_append s (Bad ∷ xs) ys = blocks_append s xs ys
blocks_append s (Foreign ∷ xs) ys = blocks_append s xs ys
blocks_append s (Accepted x b ∷ xs) ys = go (eqb x s) (blocks_append s xs ys)
  where
    go : (h : Bool) → blocks s (xs ++ ys) ≡ blocks s xs ++ blocks s ys
        → cond h (b ∷ blocks s (xs ++ ys)) (blocks s (xs ++ ys)) ≡ cond h (b ∷ blocks s xs) (blocks s xs) ++ blocks s ys
    go true e = ap (λ bs. b ∷ bs) e
    go false e = e

-- One event more: the blocks of its own sector, and of the others.
pub blocks_own : (s : ℕ) (xs : List Event) (b : Block) → blocks s (xs ++ Accepted s b ∷ []) ≡ blocks s xs ++ b ∷ []
unfolding blocks
blocks_own s xs b = blocks_append s xs (Accepted s b ∷ []) ∙ rw (eq-eqb s s refl)

pub blocks_other : (s x : ℕ) (xs : List Event) (b : Block) → (x ≡ s → ⊥) → blocks s (xs ++ Accepted x b ∷ []) ≡ blocks s xs
unfolding blocks
blocks_other s x xs b h = blocks_append s xs (Accepted x b ∷ []) ∙ rw (ne_eqb x s h) (append-nil (blocks s xs))

pub blocks_bad : (s : ℕ) (xs : List Event) → blocks s (xs ++ Bad ∷ []) ≡ blocks s xs
unfolding blocks
blocks_bad s xs = blocks_append s xs (Bad ∷ []) ∙ append-nil (blocks s xs)

pub blocks_foreign : (s : ℕ) (xs : List Event) → blocks s (xs ++ Foreign ∷ []) ≡ blocks s xs
unfolding blocks
blocks_foreign s xs = blocks_append s xs (Foreign ∷ []) ∙ append-nil (blocks s xs)
