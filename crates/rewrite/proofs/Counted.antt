-- Laws of the small functions: the number of stores, the byte after the block, and how large a sector of a layout is.
use mathlib.Core.Path.{◌≡◌, ◌∙◌}
use mathlib.Core.Bool.{Bool, true, false, cond}
use Prim.Native.Nat.{ℕ, ◌+◌, ◌-◌, ◌*◌, ◌/◌, ◌%◌, ◌≤◌}
use native.Mathlib.Omega.{arith}
use borrow.Author.Tests.{eq-eqb, ne_eqb}
use lib.Dec.{lit≤}
use Rattle.layouts.specs.Layouts.{layout_of}
use Rattle.layouts.specs.declared.Layout.{Layout}
use Rattle.layouts.proofs.Layouts.{every_layout}
use Rattle.rewrite.specs.Stores.{block_end, follows, joined, store_count}

-- A sector of every layout has a first byte, and is small.
pub size_some : (n : ℕ) → 1 ≤ (layout_of n).size
size_some = every_layout (λ l. 1 ≤ l.size) (lit≤ tt) (lit≤ tt) (lit≤ tt) (lit≤ tt)

pub size_small : (n : ℕ) → (layout_of n).size ≤ 65535
size_small = every_layout (λ l. l.size ≤ 65535) (lit≤ tt) (lit≤ tt) (lit≤ tt) (lit≤ tt)

-- The number of stores, as the code comes to it: by the byte after the block, and whether that is stored.
pub count_by : (l : Layout) (place bytes end k : ℕ) (b : Bool) → end ≡ block_end l place → b ≡ follows l.mode end bytes
    → k ≡ 2 * l.size + cond b 7 6 → k ≡ store_count l place bytes
unfolding store_count
count_by l place bytes end k b e f g = g ∙ rw (f, e)

pub count_most : (l : Layout) (place bytes : ℕ) → store_count l place bytes ≤ 2 * l.size + 7
unfolding store_count
count_most l place bytes = go (follows l.mode (block_end l place) bytes)
  where
    go : (b : Bool) → 2 * l.size + cond b 7 6 ≤ 2 * l.size + 7
    go true = omega arith
    go false = omega arith

pub count_least : (l : Layout) (place bytes : ℕ) → 2 * l.size + 6 ≤ store_count l place bytes
unfolding store_count
count_least l place bytes = go (follows l.mode (block_end l place) bytes)
  where
    go : (b : Bool) → 2 * l.size + 6 ≤ 2 * l.size + cond b 7 6
    go true = omega arith
    go false = omega arith

-- The byte after the block, by its first data cell.
pub joined_zero : (bit byte : ℕ) → byte / 64 % 2 ≡ 0 → 128 * (1 - bit) + byte % 128 ≡ joined bit byte
unfolding joined
joined_zero bit byte e = rw (eq-eqb (byte / 64 % 2) 0 e)

pub joined_one : (bit byte : ℕ) → (byte / 64 % 2 ≡ 0 → ⊥) → byte ≡ joined bit byte
unfolding joined
joined_one bit byte n = rw (ne_eqb (byte / 64 % 2) 0 n)
