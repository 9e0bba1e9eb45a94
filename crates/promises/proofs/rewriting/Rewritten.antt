-- Cells of which a part of one block is rewritten, as a rewrite leaves them wherever it is cut: no mark outside the block comes or goes.
use mathlib.Core.Path.{◌≡◌, refl, sym, ap, subst, ◌∙◌}
use mathlib.Core.Bool.{true}
use mathlib.Core.Logic.{◌⊎◌, inl, ⊎_elim}
use Prim.Native.Nat.{ℕ, suc, ◌+◌, ◌≤◌, ◌<◌}
use native.Mathlib.Nat.{eq-or-lt_of_le}
use native.Mathlib.Omega.{arith}
use lib.Dec.{T}
use Rattle.cells.specs.declared.Mode.{Mode}
use Rattle.cells.specs.declared.Mode.TheVariants.{Fm, Mfm}
use Rattle.layouts.specs.declared.Layout.{Layout}
use Rattle.marks.specs.Marks.{stands}
use Rattle.search.specs.Search.{among}
use Rattle.marks.specs.declared.Mark.{Mark}
use Rattle.search.specs.declared.Kinds.{Kinds}
use Rattle.marks.proofs.Spelling.{Stand}
use Rattle.search.proofs.Searching.{searchable, le_or_lt}
use Rattle.search.proofs.Clash.{start, stands_clear}
use Rattle.marks.specs.Marks.{mark_cells}
use Rattle.search.specs.Search.{block_marks}
use Rattle.layouts.specs.Layouts.{block_cells}
use Rattle.promises.proofs.rewriting.Searches.{sort, Alike}
use Rattle.promises.proofs.rewriting.Marks.{stands_same, stands_start, start_same, stands_edge, block_searchable, block_sort, standing_same}
use Rattle.promises.proofs.rewriting.Rounds.{Agrees}
use Rattle.promises.proofs.rewriting.Claims.{Placed}

-- The cells d are the cells c but for the last byte of the mark at m and its block, and in MFM perhaps the first clock cell after it, where the
-- data cell behind that is 0. At m stands a mark of a block.
pub record Rewritten (l : Layout) (c d : ℕ → ℕ) (n m : ℕ) : Type 0 where
  pub bits : (i : ℕ) → c i < 2
  pub new_bits : (i : ℕ) → d i < 2
  pub before : (i : ℕ) → i + 8 < m + mark_cells l.mode → d i ≡ c i
  pub after : (i : ℕ) → m + block_cells l < i → d i ≡ c i
  pub edge : (d (m + block_cells l) ≡ c (m + block_cells l)) ⊎ ((l.mode ≡ Mfm) × (c (m + block_cells l + 1) ≡ 0))
  pub kind : Mark
  pub of_block_lem : among block_marks kind ≡ true
  pub there : stands l.mode d n kind m ≡ true

-- Before the first store nothing is rewritten.
pub untouched : (l : Layout) (c : ℕ → ℕ) (n m : ℕ) → ((i : ℕ) → c i < 2) → Placed l c n m → Rewritten l c c n m
untouched l c n m h P =
    record {
      bits = h;
      new_bits = h;
      before = λ i u. refl;
      after = λ i u. refl;
      edge = inl refl;
      kind = P.kind;
      of_block_lem = P.of_block_lem;
      there = P.there;
    }

-- The cells before a mark are before its last byte.
pub before_last : (mode : Mode) (m i : ℕ) → i < m → i + 8 < m + mark_cells mode
before_last Fm m i u = omega arith
before_last Mfm m i u = omega arith

-- A fact at p and at all places past it.
from_next : (Q : ℕ → Type 0) (p w : ℕ) → Q p → (suc p ≤ w → Q w) → p ≤ w → Q w
from_next Q p w a b h = ⊎_elim (λ (e : p ≡ w). subst Q e a) b (eq-or-lt_of_le h)

module _ (l : Layout) (c d : ℕ → ℕ) (n m : ℕ) (R : Rewritten l c d n m) where
  -- Where the block ends.
  abbrev past : ℕ
  past = m + block_cells l

  -- A mark before the block's is as it was: where it would reach into the last byte it can't stand beside the beginning that stands at m.
  pub mark_before : (k : Mark) → T (searchable k) → (w : ℕ) → w < m → stands l.mode d n k w ≡ stands l.mode c n k w
  mark_before k t w u =
      ⊎_elim
      (λ (v : w + 8 ≤ m). stands_same l.mode d c n k w (λ i a b. R.before i (omega arith)))
      (λ v. stands_clear l.mode d R.new_bits n k t w m u v begins ∙ sym (stands_clear l.mode c R.bits n k t w m u v
      (start_same l.mode c d m (λ i a b. sym (R.before i b)) begins)))
      (le_or_lt (w + 8) m)
    where
      begins : Stand d m (start l.mode)
      begins = stands_start l.mode d n R.kind (block_searchable R.kind R.of_block_lem) m R.there

  -- A mark behind the block is as it was: none begins with a cell that was set before a zero.
  pub mark_after : (k : Mark) → T (searchable k) → (w : ℕ) → past ≤ w → stands l.mode d n k w ≡ stands l.mode c n k w
  mark_after k t w u = from_next (λ x. stands l.mode d n k x ≡ stands l.mode c n k x) past w at_edge beyond_edge u
    where
      beyond_edge : suc past ≤ w → stands l.mode d n k w ≡ stands l.mode c n k w
      beyond_edge v = stands_same l.mode d c n k w (λ i a b. R.after i (omega arith))

      at_edge : stands l.mode d n k past ≡ stands l.mode c n k past
      at_edge =
          ⊎_elim
          (λ (e : d past ≡ c past). stands_same l.mode d c n k past (λ i a b. from_next (λ x. d x ≡ c x) past i e (λ v. R.after i v) a))
          (λ (e : (l.mode ≡ Mfm) × (c (past + 1) ≡ 0)).
          stands_edge l.mode d R.new_bits n k t past e.0 (R.after (past + 1) (omega arith) ∙ e.1)
          ∙ sym (stands_edge l.mode c R.bits n k t past e.0 e.1))
          R.edge

  -- ---- what a round sees

  pub agrees_after : (p hi : ℕ) → past ≤ p → Agrees l n c d p hi
  agrees_after p hi u =
      record {
        marks = λ kinds w a b. ap sort (standing_same l.mode d c n kinds w (λ k t. mark_after k t w (omega arith)));
        cells = λ i a b. R.after i (omega arith);
      }

  pub agrees_before : Placed l c n m → (p hi : ℕ) → hi ≤ m → Agrees l n c d p hi
  agrees_before P p hi u =
      record {
        marks = λ kinds w a b. up_to kinds w (omega arith);
        cells = λ i a b. R.before i (before_last l.mode m i (omega arith));
      }
    where
      up_to : (kinds : Kinds) (w : ℕ) → w ≤ m → Alike l.mode n kinds c d w
      up_to kinds w h =
          ⊎_elim
          (λ (e : w ≡ m). subst (λ x. Alike l.mode n kinds c d x) (sym e) (block_sort l.mode d n kinds R.kind m R.there R.of_block_lem
          ∙ sym (block_sort l.mode c n kinds P.kind m P.there P.of_block_lem)))
          (λ v. ap sort (standing_same l.mode d c n kinds w (λ k t. mark_before k t w v)))
          (eq-or-lt_of_le h)
