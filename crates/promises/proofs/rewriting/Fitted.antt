-- Every store of a rewrite fits, so every cut of it leaves cells of which a part of the block is rewritten; and from the first store to the
-- last but one the open mark stands, after the last the new one.
use mathlib.Core.Path.{◌≡◌, refl, ◌∙◌}
use mathlib.Core.Bool.{true}
use mathlib.Core.List.{List}
use mathlib.Core.Logic.{inl, inr, ⊎_elim}
use Prim.Native.Nat.{ℕ, zero, suc, ◌%◌, ◌<◌, ◌≤◌}
use native.Mathlib.Omega.{arith}
use lib.ListN.{length, get_or, set}
use Rattle.cells.specs.Cells.{cell}
use Rattle.layouts.specs.declared.Layout.{Layout}
use Rattle.marks.specs.Marks.{stands}
use Rattle.search.specs.Search.{among}
use Rattle.marks.specs.declared.Mark.{Mark}
use Rattle.marks.specs.declared.Mark.TheVariants.{Open}
use Rattle.search.specs.Search.{block_marks}
use Rattle.rewrite.specs.Stores.{stored, no_store, mark_end, block_end, stores, store_count}
use Rattle.marks.specs.Marks.{last_byte}
use Rattle.promises.specs.Cuts.{cut}
use Rattle.rewrite.specs.declared.Store.{Store}
use Rattle.promises.proofs.rewriting.Rewritten.{Rewritten}
use Rattle.promises.proofs.rewriting.Fitting.{Fits, to_mark, to_block, to_edge, store_fits}
use Rattle.promises.proofs.rewriting.Touched.{mark_stored, mark_stays}
use Rattle.rewrite.proofs.Fixed.{joined_kept}
use Rattle.promises.proofs.rewriting.Cutting.{length_cut, cut_none, cut_step}
use Rattle.rewrite.proofs.Listed.{store_closed, mark_last_lem, follows_true, Kind, opens, codes, joins, closes, kind, store_open}

module _ (l : Layout) (image : List ℕ) (place : ℕ) (mark : Mark) (contents : List ℕ) (boundary : place % 8 ≡ 0)
    (new : among block_marks mark ≡ true) where
  -- Each kind of store is one that may be made of the first image.
  store_kind_fits : (k : ℕ) (store : Store) → Kind l image place mark contents k store → Fits l image place store.byte store.value
  unfolding last_byte
  store_kind_fits k store (opens e) = to_mark Open refl refl (omega (arith, mark_last_lem l.mode))
  store_kind_fits k store (codes j e i) = to_block (omega arith) (omega arith)
  store_kind_fits k store (joins e f) =
      let low = joined_kept _ (get_or image (block_end l place) 0) in
      to_edge (omega arith) low.0
      (⊎_elim inl (λ z. inr ((follows_true l.mode (block_end l place) (length image) f).0, z)) low.1)
  store_kind_fits k store (closes e) = to_mark mark new refl (omega (arith, mark_last_lem l.mode))

  abbrev now : ℕ → List ℕ
  now j = cut l image place mark contents j

  module _ (n : ℕ) (whole : length contents ≡ l.size) (R : Rewritten l (cell image) (cell image) n place) where
    -- Wherever it is cut, a part of the block is rewritten and nothing else.
    pub cut_rewritten : (k : ℕ) → k ≤ store_count l place (length image) → Rewritten l (cell image) (cell (now k)) n place
    cut_rewritten zero h = rw (cut_none l image place mark contents) R
    cut_rewritten (suc k) h =
        rw (cut_step l image place mark contents whole k h)
        (store_fits l image n place (now k) (cut_rewritten k (omega arith)) _ _
        (store_kind_fits k (get_or (stores l image place mark contents) k no_store) (kind l image place mark contents whole k h)))

    module _ (room : block_end l place ≤ length image) where
      -- A store of a mark's last byte makes the mark stand.
      mark_made : (k : ℕ) → k ≤ store_count l place (length image) → (new : Mark) → among block_marks new ≡ true
          → stands l.mode (cell (set (now k) (mark_end l place) (last_byte l.mode new))) n new place ≡ true
      unfolding last_byte
      mark_made k h new b =
          mark_stored l (cell image) n place (now k) (cut_rewritten k h) (mark_end l place) new b (omega (arith, mark_last_lem l.mode))
          (omega (arith, mark_last_lem l.mode, length_cut l image place mark contents k))

      -- From the first store on, and before the last, the open mark stands.
      pub cut_open : (k : ℕ) → suc k < store_count l place (length image) → stands l.mode (cell (now (suc k))) n Open place ≡ true
      cut_open zero h =
          rw (cut_step l image place mark contents whole zero (omega arith), store_open l image place mark contents whole)
          (mark_made zero (omega arith) Open refl)
      cut_open (suc k) h =
          rw (cut_step l image place mark contents whole (suc k) (omega arith))
          (by (cut_open k (omega arith)) (get_or (stores l image place mark contents) (suc k) no_store)
          (kind l image place mark contents whole (suc k) (omega arith)))
        where
          by : stands l.mode (cell (now (suc k))) n Open place ≡ true → (store : Store) → Kind l image place mark contents (suc k) store
              → stands l.mode (cell (stored (now (suc k)) store)) n Open place ≡ true
          by ih store (opens e) = absurd (omega arith)
          by ih store (codes j e i) = mark_stays l.mode (now (suc k)) n place _ _ Open (omega arith) ∙ ih
          by ih store (joins e f) = mark_stays l.mode (now (suc k)) n place _ _ Open (omega arith) ∙ ih
          by ih store (closes e) = absurd (omega arith)

      -- After the last store the new mark stands.
      pub cut_closed : (k : ℕ) → suc k ≡ store_count l place (length image) → stands l.mode (cell (now (suc k))) n mark place ≡ true
      cut_closed k h =
          rw (cut_step l image place mark contents whole k (omega arith), store_closed l image place mark contents whole k h)
          (mark_made k (omega arith) mark new)
