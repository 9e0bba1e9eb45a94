-- A rewrite that is cut at any point: the stores that it makes, whichever of them and in whatever order, leave cells of which a part of the
-- block is rewritten. Each store is told by its place and by the byte that the first image has there.
use mathlib.Core.Path.{◌≡◌, refl, sym, ap, ◌∙◌}
use mathlib.Core.Bool.{true}
use mathlib.Core.List.{List}
use mathlib.Core.Logic.{◌⊎◌, inl, inr, ⊎_elim}
use Prim.Native.Nat.{ℕ, ◌+◌, ◌*◌, ◌/◌, ◌%◌, ◌≤◌, ◌<◌}
use native.Mathlib.Omega.{arith}
use lib.ListN.{length, get_or, set}
use lib.Seq.{set_out}
use Rattle.cells.specs.Cells.{cell}
use Rattle.cells.specs.declared.Mode.TheVariants.{Mfm}
use Rattle.layouts.specs.declared.Layout.{Layout}
use Rattle.search.specs.Search.{among}
use Rattle.marks.specs.declared.Mark.{Mark}
use Rattle.marks.specs.Marks.{last_byte}
use Rattle.search.proofs.Searching.{le_or_lt}
use Rattle.marks.specs.Marks.{mark_cells}
use Rattle.search.specs.Search.{block_marks}
use Rattle.layouts.specs.Layouts.{block_cells}
use Rattle.promises.proofs.rewriting.Rewritten.{Rewritten}
use Rattle.promises.proofs.rewriting.Touched.{cell_at, cell_stored, low_cells, store_mark, store_block, edge_cells}

-- The store of v at byte j is one of a rewrite of the block at m: the last byte of a block's mark, or any byte behind the mark, or the byte
-- after the block, which is the first image's, or differs from it in the first cell alone, in MFM and where the second is 0.
pub data Fits (l : Layout) (first : List ℕ) (m j v : ℕ) : Type 0 where
  to_mark : (k : Mark) → among block_marks k ≡ true → v ≡ last_byte l.mode k → 8 * j + 8 ≡ m + mark_cells l.mode → Fits l first m j v
  to_block : m + mark_cells l.mode ≤ 8 * j → 8 * j + 8 ≤ m + block_cells l → Fits l first m j v
  to_edge : 8 * j ≡ m + block_cells l → v % 128 ≡ get_or first j 0 % 128
      → (v ≡ get_or first j 0) ⊎ ((l.mode ≡ Mfm) × (get_or first j 0 / 64 % 2 ≡ 0)) → Fits l first m j v

module _ (l : Layout) (first : List ℕ) (n m : ℕ) (image : List ℕ) (R : Rewritten l (cell first) (cell image) n m) where
  -- The byte after the block, made of the first image's.
  store_edge_first : (j v : ℕ) → 8 * j ≡ m + block_cells l → j < length image → v % 128 ≡ get_or first j 0 % 128
      → (v ≡ get_or first j 0) ⊎ ((l.mode ≡ Mfm) × (get_or first j 0 / 64 % 2 ≡ 0)) → Rewritten l (cell first) (cell (set image j v)) n m
  store_edge_first j v e h r z =
      edge_cells l (cell first) n m image R j v e h
      (λ x a u. low_cells x v (get_or first j 0) a u r ∙ sym (cell_at first j x (8 * j + x) refl u))
      (⊎_elim (λ (y : v ≡ get_or first j 0). inl (kept y))
      (λ (y : (l.mode ≡ Mfm) × (get_or first j 0 / 64 % 2 ≡ 0)).
      inr (y.0, cell_at first j 1 (m + block_cells l + 1) (omega arith) (omega arith) ∙ y.1)) z)
    where
      kept : v ≡ get_or first j 0 → cell (set image j v) (m + block_cells l) ≡ cell first (m + block_cells l)
      kept y =
          cell_stored image j v 0 (m + block_cells l) h (omega arith) (omega arith)
          ∙ ap (λ (b : ℕ). b / 128 % 2) y ∙ sym (cell_at first j 0 (m + block_cells l) (omega arith) (omega arith))

  -- Each store of a rewrite keeps what is known of the cells. (Past the image's end it changes nothing.)
  pub store_fits : (j v : ℕ) → Fits l first m j v → Rewritten l (cell first) (cell (set image j v)) n m
  store_fits j v f = ⊎_elim (λ (h : length image ≤ j). rw (set_out image j v h) R) (λ h. by f h) (le_or_lt (length image) j)
    where
      by : Fits l first m j v → j < length image → Rewritten l (cell first) (cell (set image j v)) n m
      by (to_mark k b e p) h = rw e (store_mark l (cell first) n m image R j k b p h)
      by (to_block a b) h = store_block l (cell first) n m image R j v a b
      by (to_edge e r z) h = store_edge_first j v e h r z
