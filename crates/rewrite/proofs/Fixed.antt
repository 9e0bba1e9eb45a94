-- The list of stores stays the same while its stores are made, so that every step finds the list that the first one found; what the store of
-- the byte after the block keeps; and that coded bytes are bytes.
use mathlib.Core.Path.{◌≡◌, refl, ap, ◌∙◌}
use mathlib.Core.Bool.{Bool, true, false, cond}
use mathlib.Core.List.{List, [], ◌∷◌}
use mathlib.Core.Logic.{◌⊎◌, inl, inr}
use Prim.Native.Nat.{ℕ, zero, suc, ◌+◌, ◌-◌, ◌*◌, ◌/◌, ◌%◌, ◌<◌}
use native.Mathlib.Omega.{arith}
use borrow.Author.Tests.{eqb-true}
use lib.Dec.{eqb, lit<}
use lib.ListN.{length, get_or, set, length-set}
use lib.Seq.{get_or-set_same, get_or-set_other}
use Rattle.cells.specs.declared.Mode.{Mode}
use Rattle.coding.proofs.Coding.{high_lt, low_lt}
use Rattle.layouts.specs.declared.Layout.{Layout}
use Rattle.marks.specs.declared.Mark.{Mark}
use Rattle.rewrite.specs.Stores.{stored, block_end, coding, new_edc, joined, stores}
use Rattle.rewrite.specs.declared.Store.{Store}
use Rattle.rewrite.proofs.Listed.{mark_last_lem, follows_true, Kind, opens, codes, joins, closes}

-- Stored twice, the byte after the block becomes what the second store alone makes of it.
joined_again : (other bit byte : ℕ) → joined other (joined bit byte) ≡ joined other byte
unfolding joined
joined_again other bit byte = go (1 - other) (1 - bit) (eqb (byte / 64 % 2) 0) refl
  where
    go : (y x : ℕ) (b : Bool) → eqb (byte / 64 % 2) 0 ≡ b
        → let once = cond b (128 * x + byte % 128) byte in
        cond (eqb (once / 64 % 2) 0) (128 * y + once % 128) once ≡ cond (eqb (byte / 64 % 2) 0) (128 * y + byte % 128) byte
    go y x true e =
        let h : (128 * x + byte % 128) / 64 % 2 ≡ byte / 64 % 2 = omega arith in
        let k : (128 * x + byte % 128) % 128 ≡ byte % 128 = omega arith in
        rw (h, e, k)
    go y x false e = rw e

-- It keeps all but its first cell, and that too unless its first data cell is 0.
pub joined_kept : (bit byte : ℕ) → (joined bit byte % 128 ≡ byte % 128) × ((joined bit byte ≡ byte) ⊎ (byte / 64 % 2 ≡ 0))
unfolding joined
joined_kept bit byte = go (1 - bit) (eqb (byte / 64 % 2) 0) refl
  where
    go : (x : ℕ) (b : Bool) → eqb (byte / 64 % 2) 0 ≡ b
        → let once = cond b (128 * x + byte % 128) byte in
        (once % 128 ≡ byte % 128) × ((once ≡ byte) ⊎ (byte / 64 % 2 ≡ 0))
    go x true e = (omega arith, inr (eqb-true (byte / 64 % 2) 0 e))
    go x false e = (refl, inl refl)

-- Coded bytes are bytes.
pub coding_lt : (mode : Mode) (b : ℕ) (xs : List ℕ) (at : ℕ) → get_or (coding mode b xs) at 0 < 256
unfolding coding
coding_lt mode b [] at = lit< tt
coding_lt mode b (x ∷ xs) zero = high_lt mode (b % 2) x
coding_lt mode b (x ∷ xs) (suc zero) = low_lt mode x
coding_lt mode b (x ∷ xs) (suc (suc at)) = coding_lt mode x xs at

module _ (l : Layout) (image : List ℕ) (place : ℕ) (mark : Mark) (contents : List ℕ) where
  -- What the byte after the block becomes.
  abbrev after : List ℕ → ℕ
  after bytes = joined (new_edc l.mode mark contents % 2) (get_or bytes (block_end l place) 0)

  -- An image of the same length, in which that byte becomes the same, has the same list.
  alike : (other : List ℕ) → length other ≡ length image → after other ≡ after image
      → stores l other place mark contents ≡ stores l image place mark contents
  unfolding stores
  alike other e f = rw (e, f)

  before_end : (p v : ℕ) → p < block_end l place → stores l (set image p v) place mark contents ≡ stores l image place mark contents
  before_end p v h =
      alike (set image p v) (length-set image p v)
      (ap (joined (new_edc l.mode mark contents % 2)) (get_or-set_other image p (block_end l place) v 0 (λ e. omega arith)))

module _ (l : Layout) (image : List ℕ) (place : ℕ) (mark : Mark) (contents : List ℕ) where
  -- A store leaves the list as it is: that of its own rewrite, and that of every other rewrite of the block.
  pub stores_fixed : (other : Mark) (bytes : List ℕ) (k : ℕ) (store : Store) → Kind l image place mark contents k store
      → stores l (stored image store) place other bytes ≡ stores l image place other bytes
  stores_fixed other bytes k store (opens e) = before_end l image place other bytes _ _ (omega (arith, mark_last_lem l.mode))
  stores_fixed other bytes k store (codes j e h) = before_end l image place other bytes _ _ (omega arith)
  stores_fixed other bytes k store (joins e f) =
      alike l image place other bytes (set image (block_end l place) _) (length-set image _ _)
      (ap (joined (new_edc l.mode other bytes % 2))
      (get_or-set_same image (block_end l place) _ 0 (follows_true l.mode (block_end l place) (length image) f).1)
      ∙ joined_again (new_edc l.mode other bytes % 2) (new_edc l.mode mark contents % 2) (get_or image (block_end l place) 0))
  stores_fixed other bytes k store (closes e) = before_end l image place other bytes _ _ (omega (arith, mark_last_lem l.mode))
