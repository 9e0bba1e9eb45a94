-- The stores of a rewrite, one byte each: after every one of them the cells are those of the first image with a part of the block rewritten.
use mathlib.Core.Path.{◌≡◌, sym, ap, ap₂, ◌∙◌}
use mathlib.Core.Bool.{true}
use mathlib.Core.List.{List}
use mathlib.Core.Logic.{◌⊎◌, inl, inr, ⊎_elim, ◌≢◌}
use Prim.Native.Nat.{ℕ, zero, suc, ◌+◌, ◌-◌, ◌*◌, ◌/◌, ◌%◌, ◌^◌, ◌≤◌, ◌<◌}
use native.Mathlib.Nat.{div-one}
use native.Mathlib.Omega.{arith}
use lib.ListN.{length, get_or, set}
use lib.Seq.{get_or-set_same, get_or-set_other}
use Rattle.cells.specs.Cells.{cell, octet}
use Rattle.cells.specs.declared.Mode.{Mode}
use Rattle.cells.specs.declared.Mode.TheVariants.{Mfm}
use Rattle.cells.proofs.Digits.{bits}
use Rattle.cells.proofs.Joined.{cell_lt}
use Rattle.marks.specs.Marks.{mark_last, last_byte}
use Rattle.cells.proofs.Bytes.{byte_at}
use Rattle.promises.proofs.formatting.Standing.{string_bytes}
use Rattle.layouts.specs.declared.Layout.{Layout}
use Rattle.marks.specs.Marks.{string, stands}
use Rattle.search.specs.Search.{among}
use Rattle.marks.specs.declared.Mark.{Mark}
use Rattle.marks.proofs.Spelling.{stands_room}
use Rattle.search.proofs.Searching.{le_or_lt}
use Rattle.search.proofs.Clash.{start}
use Rattle.marks.specs.Marks.{mark_cells}
use Rattle.search.specs.Search.{block_marks}
use Rattle.layouts.specs.Layouts.{block_cells}
use Rattle.promises.proofs.rewriting.Marks.{string_cells, start_cells, stands_same, stands_start, start_same, stands_made, block_searchable}
use Rattle.promises.proofs.rewriting.Rewritten.{Rewritten}

-- ---- the cells of an image after one store

cell_other : (image : List ℕ) (j v i : ℕ) → i / 8 ≢ j → cell (set image j v) i ≡ cell image i
unfolding cell
cell_other image j v i h = ap (λ (b : ℕ). b / 2 ^ (7 - i % 8) % 2) (get_or-set_other image j (i / 8) v 0 h)

-- Cell x of byte j, which is cell i of the image.
pub cell_at : (image : List ℕ) (j x i : ℕ) → i ≡ 8 * j + x → x < 8 → cell image i ≡ get_or image j 0 / 2 ^ (7 - x) % 2
unfolding cell
cell_at image j x i e h = ap₂ (λ (a b : ℕ). get_or image a 0 / 2 ^ (7 - b) % 2) (omega arith) (omega arith)

pub cell_stored : (image : List ℕ) (j v x i : ℕ) → j < length image → i ≡ 8 * j + x → x < 8 → cell (set image j v) i ≡ v / 2 ^ (7 - x) % 2
cell_stored image j v x i h e u =
    cell_at (set image j v) j x i e u ∙ ap (λ (b : ℕ). b / 2 ^ (7 - x) % 2) (get_or-set_same image j v 0 h)

-- The octet on a byte boundary is the byte.
pub octet_at : (image : List ℕ) (j p : ℕ) → p ≡ 8 * j → get_or image j 0 < 256 → octet (cell image) p ≡ get_or image j 0
unfolding octet
octet_at image j p e u =
    rw (
      cell_at image j 0 p (omega arith) (omega arith),
      cell_at image j 1 (p + 1) (omega arith) (omega arith),
      cell_at image j 2 (p + 2) (omega arith) (omega arith),
      cell_at image j 3 (p + 3) (omega arith) (omega arith),
      cell_at image j 4 (p + 4) (omega arith) (omega arith),
      cell_at image j 5 (p + 5) (omega arith) (omega arith),
      cell_at image j 6 (p + 6) (omega arith) (omega arith),
      cell_at image j 7 (p + 7) (omega arith) (omega arith),
      div-one (get_or image j 0),
    ) (bits (get_or image j 0) u)

octet_stored : (image : List ℕ) (j v p : ℕ) → j < length image → p ≡ 8 * j → v < 256 → octet (cell (set image j v)) p ≡ v
octet_stored image j v p h e u =
    let s = get_or-set_same image j v 0 h in
    octet_at (set image j v) j p e (rw s u) ∙ s

-- Two bytes with the same last seven bits have the same cells but the first.
pub low_cells : (x v w : ℕ) → 0 < x → x < 8 → v % 128 ≡ w % 128 → v / 2 ^ (7 - x) % 2 ≡ w / 2 ^ (7 - x) % 2
low_cells zero v w l u h = absurd (omega arith)
low_cells (suc zero) v w l u h = omega arith
low_cells (suc (suc zero)) v w l u h = omega arith
low_cells (suc (suc (suc zero))) v w l u h = omega arith
low_cells (suc (suc (suc (suc zero)))) v w l u h = omega arith
low_cells (suc (suc (suc (suc (suc zero))))) v w l u h = omega arith
low_cells (suc (suc (suc (suc (suc (suc zero)))))) v w l u h = omega arith
low_cells (suc (suc (suc (suc (suc (suc (suc zero))))))) v w l u h = omega arith
low_cells (suc (suc (suc (suc (suc (suc (suc (suc x)))))))) v w l u h = absurd (omega arith)

-- ---- the last byte of a mark

last_lt : (mode : Mode) (k : Mark) → last_byte mode k < 256
unfolding last_byte
last_lt mode k = byte_at (string mode k) (mark_last mode) (string_bytes mode k)

-- A store behind the mark leaves what stands at m.
pub mark_stays : (mode : Mode) (image : List ℕ) (n m j v : ℕ) (k : Mark) → m + mark_cells mode ≤ 8 * j
    → stands mode (cell (set image j v)) n k m ≡ stands mode (cell image) n k m
mark_stays mode image n m j v k h = stands_same mode (cell (set image j v)) (cell image) n k m (λ i a b. cell_other image j v i (omega arith))

module _ (l : Layout) (c : ℕ → ℕ) (n m : ℕ) (image : List ℕ) (R : Rewritten l c (cell image) n m) where
  -- ---- the first store and the last: the last byte of the mark

  -- With it the mark stands.
  pub mark_stored : (j : ℕ) (k : Mark) → among block_marks k ≡ true → 8 * j + 8 ≡ m + mark_cells l.mode → j < length image
      → stands l.mode (cell (set image j (last_byte l.mode k))) n k m ≡ true
  mark_stored j k b e h =
      let v = last_byte l.mode k in
      let y = start_cells l.mode in
      stands_made l.mode (cell (set image j v)) n k (block_searchable k b) m
      (omega (arith, stands_room l.mode (cell image) n R.kind m R.there, string_cells l.mode R.kind))
      (start_same l.mode (cell (set image j v)) (cell image) m (λ i a u. cell_other image j v i (omega arith))
      (stands_start l.mode (cell image) n R.kind (block_searchable R.kind R.of_block_lem) m R.there))
      (octet_stored image j v (m + 8 * length (start l.mode)) h (omega arith) (last_lt l.mode k))

  pub store_mark : (j : ℕ) (k : Mark) → among block_marks k ≡ true → 8 * j + 8 ≡ m + mark_cells l.mode → j < length image
      → Rewritten l c (cell (set image j (last_byte l.mode k))) n m
  store_mark j k b e h =
      let v = last_byte l.mode k in
      record {
        bits = R.bits;
        new_bits = cell_lt (set image j v);
        before = λ i u. cell_other image j v i (omega arith) ∙ R.before i u;
        after = λ i u. cell_other image j v i (omega arith) ∙ R.after i u;
        edge = ⊎_elim (λ x. inl (cell_other image j v (m + block_cells l) (omega arith) ∙ x)) inr R.edge;
        kind = k;
        of_block_lem = b;
        there = mark_stored j k b e h;
      }

  -- ---- a byte of the block behind its mark

  pub store_block : (j v : ℕ) → m + mark_cells l.mode ≤ 8 * j → 8 * j + 8 ≤ m + block_cells l → Rewritten l c (cell (set image j v)) n m
  store_block j v a b =
      record {
        bits = R.bits;
        new_bits = cell_lt (set image j v);
        before = λ i u. cell_other image j v i (omega arith) ∙ R.before i u;
        after = λ i u. cell_other image j v i (omega arith) ∙ R.after i u;
        edge = ⊎_elim (λ x. inl (cell_other image j v (m + block_cells l) (omega arith) ∙ x)) inr R.edge;
        kind = R.kind;
        of_block_lem = R.of_block_lem;
        there = mark_stays l.mode image n m j v R.kind a ∙ R.there;
      }

  -- ---- the byte after the block

  -- Its cells but the first are as they were; so is the first, or in MFM the second is 0.
  pub edge_cells : (j v : ℕ) → 8 * j ≡ m + block_cells l → j < length image
      → ((x : ℕ) → 0 < x → x < 8 → v / 2 ^ (7 - x) % 2 ≡ c (8 * j + x))
      → (cell (set image j v) (m + block_cells l) ≡ c (m + block_cells l)) ⊎ ((l.mode ≡ Mfm) × (c (m + block_cells l + 1) ≡ 0))
      → Rewritten l c (cell (set image j v)) n m
  edge_cells j v e h low first =
      record {
        bits = R.bits;
        new_bits = cell_lt (set image j v);
        before = λ i u. cell_other image j v i (omega arith) ∙ R.before i u;
        after = λ i u. ⊎_elim (λ (w : i ≤ 8 * j + 7). within i (i - 8 * j) (omega arith) (omega arith) (omega arith))
            (λ w. cell_other image j v i (omega arith) ∙ R.after i u) (le_or_lt i (8 * j + 7));
        edge = first;
        kind = R.kind;
        of_block_lem = R.of_block_lem;
        there = mark_stays l.mode image n m j v R.kind (omega arith) ∙ R.there;
      }
    where
      within : (i x : ℕ) → i ≡ 8 * j + x → 0 < x → x < 8 → cell (set image j v) i ≡ c i
      within i x y a u = cell_stored image j v x i h y u ∙ low x a u ∙ ap c (sym y)
