-- After the last store the block holds the new bytes and their right EDC, and no doubtful clock cell: the coded bytes that were stored still stand, and they
-- read back.
use mathlib.Core.Path.{◌≡◌, refl, sym, ap, ap₂, ◌∙◌}
use mathlib.Core.Bool.{true}
use mathlib.Core.List.{List, [], ◌∷◌, ◌++◌, append-nil, append_assoc}
use Prim.Native.Nat.{ℕ, zero, suc, ◌+◌, ◌-◌, ◌*◌, ◌%◌, ◌<◌, ◌≤◌}
use native.Mathlib.Nat.{add-zero}
use native.Mathlib.Omega.{arith}
use borrow.Author.Tests.{eq-eqb}
use lib.ListN.{length, get_or, length-append}
use lib.Seq.{get_or-set_same, get_or-set_other}
use Rattle.cells.specs.Cells.{cell, octet, data_bytes, bytes_clocks, Bytes}
use Rattle.cells.specs.declared.Mode.{Mode}
use Rattle.coding.proofs.Coding.{read_back, coded_clocks}
use Rattle.cells.proofs.Bytes.{bytes_append}
use Rattle.cells.proofs.Clocks.{last_bit_lem}
use Rattle.cells.proofs.Joined.{cell_lt}
use Rattle.edc.specs.Register.{edc_bytes}
use Rattle.edc.proofs.Laws.{edc_closes, edc_lt}
use Rattle.layouts.specs.declared.Layout.{Layout}
use Rattle.marks.specs.Marks.{mark_byte, last_bit, covered}
use Rattle.marks.specs.declared.Mark.{Mark}
use Rattle.marks.specs.Marks.{mark_cells}
use Rattle.walk.specs.Walk.{edc_right}
use Rattle.rewrite.specs.Stores.{stored, no_store, field_start, block_end, coding, new_edc, field, stores, store_count}
use Rattle.promises.specs.Cuts.{cut}
use Rattle.rewrite.specs.declared.Store.{Store}
use Rattle.rewrite.proofs.Listed.{mark_last_lem, store_coded, Kind, opens, codes, joins, closes, kind}
use Rattle.rewrite.proofs.Counted.{count_least}
use Rattle.rewrite.proofs.Fixed.{coding_lt}
use Rattle.promises.proofs.rewriting.Cutting.{length_cut, cut_step}
use Rattle.promises.proofs.rewriting.Touched.{octet_at}

-- ---- coded bytes read back

-- Where the coding of xs and ys stands, the bytes xs are read.
coded_read : (c : ℕ → ℕ) → ((i : ℕ) → c i < 2) → (mode : Mode) (b : ℕ) (xs ys : List ℕ) (p : ℕ) → Bytes xs
    → ((k : ℕ) → k < 2 * length xs → octet c (p + 8 * k) ≡ get_or (coding mode b (xs ++ ys)) k 0) → data_bytes c p (length xs) ≡ xs
unfolding coding data_bytes
coded_read c bit mode b [] ys p small h = refl
coded_read c bit mode b (x ∷ xs) ys p small h =
    ap₂ ◌∷◌
    (read_back c bit mode (b % 2) x p small.0 (ap (octet c) (omega arith) ∙ h 0 (omega arith)) (h 1 (omega arith)))
    (coded_read c bit mode x xs ys (p + 16) small.1 (λ k u. ap (octet c) (omega arith) ∙ h (suc (suc k)) (omega arith)))

-- and none of their clock cells is doubtful, after the bit that they were coded after.
coded_none : (c : ℕ → ℕ) → ((i : ℕ) → c i < 2) → (mode : Mode) (b : ℕ) (xs : List ℕ) (p : ℕ) → Bytes xs
    → ((k : ℕ) → k < 2 * length xs → octet c (p + 8 * k) ≡ get_or (coding mode b xs) k 0) → bytes_clocks mode c (b % 2) p (length xs) ≡ 0
unfolding coding bytes_clocks
coded_none c bit mode b [] p small h = refl
coded_none c bit mode b (x ∷ xs) p small h =
    let at : p ≡ p + 8 * 0 = omega arith in
    let upper = ap (octet c) at ∙ h 0 (omega arith) in
    let last : c (p + 15) ≡ x % 2 =
    sym (last_bit_lem mode c bit p) ∙ ap (λ (y : ℕ). y % 2) (read_back c bit mode (b % 2) x p small.0 upper (h 1 (omega arith))) in
    ap₂ ◌+◌ (coded_clocks c bit mode (b % 2) x p upper (h 1 (omega arith)))
    (ap (λ (a : ℕ). bytes_clocks mode c a (p + 16) (length xs)) last
    ∙ coded_none c bit mode x xs (p + 16) small.1 (λ k u. ap (octet c) (omega arith) ∙ h (suc (suc k)) (omega arith)))

edc_small : (e : ℕ) → e < 65536 → Bytes (edc_bytes e)
edc_small e h = (omega arith, (omega arith, tt))

module _ (l : Layout) (image : List ℕ) (place : ℕ) (mark : Mark) (contents : List ℕ) (whole : length contents ≡ l.size)
    (room : block_end l place ≤ length image) where
  abbrev now : ℕ → List ℕ
  now j = cut l image place mark contents j

  -- ---- what was stored still stands

  -- A coded byte stands from its store on: no later store is of its place.
  stays : (i : ℕ) → i < 2 * (l.size + 2) → (d : ℕ) → suc (suc i) + d ≤ store_count l place (length image)
      → get_or (now (suc (suc i) + d)) (field_start l place + i) 0 ≡ get_or (field l.mode mark contents) i 0
  stays i u zero h =
      rw (
        add-zero (suc (suc i)),
        cut_step l image place mark contents whole (suc i) (omega arith),
        store_coded l image place mark contents whole i u,
      )
      (get_or-set_same (now (suc i)) (field_start l place + i) _ 0 (omega (arith, length_cut l image place mark contents (suc i))))
  stays i u (suc d) h =
      let s : suc (suc i) + suc d ≡ suc (suc (suc i) + d) = omega arith in
      rw (s, cut_step l image place mark contents whole (suc (suc i) + d) (omega arith))
      (later (stays i u d (omega arith)) (get_or (stores l image place mark contents) (suc (suc i) + d) no_store)
      (kind l image place mark contents whole (suc (suc i) + d) (omega arith)))
    where
      later : get_or (now (suc (suc i) + d)) (field_start l place + i) 0 ≡ get_or (field l.mode mark contents) i 0
          → (store : Store) → Kind l image place mark contents (suc (suc i) + d) store
          → get_or (stored (now (suc (suc i) + d)) store) (field_start l place + i) 0 ≡ get_or (field l.mode mark contents) i 0
      later ih store (opens e) = absurd (omega arith)
      later ih store (codes j e g) = get_or-set_other (now (suc (suc i) + d)) _ _ _ 0 (λ q. omega arith) ∙ ih
      later ih store (joins e f) = get_or-set_other (now (suc (suc i) + d)) _ _ _ 0 (λ q. omega arith) ∙ ih
      later ih store (closes e) = get_or-set_other (now (suc (suc i) + d)) _ _ _ 0 (λ q. omega (arith, mark_last_lem l.mode)) ∙ ih

  module _ (boundary : place % 8 ≡ 0) (all : ℕ) (last : all ≡ store_count l place (length image)) where
    coded_there : (i : ℕ) → i < 2 * (l.size + 2)
        → octet (cell (now all)) (place + mark_cells l.mode + 8 * i) ≡ get_or (field l.mode mark contents) i 0
    coded_there i u =
        let few = count_least l place (length image) in
        let s : suc (suc i) + (all - suc (suc i)) ≡ all = omega (arith, few) in
        let e : get_or (now all) (field_start l place + i) 0 ≡ get_or (field l.mode mark contents) i 0 =
        rw s at (stays i u (all - suc (suc i)) (omega (arith, few))) in
        octet_at (now all) (field_start l place + i) (place + mark_cells l.mode + 8 * i) (omega arith)
        (rw e (coding_lt l.mode (mark_byte mark) _ i)) ∙ e

    module _ (small : Bytes contents) where
      abbrev edc : ℕ
      edc = new_edc l.mode mark contents

      -- The block's bytes are the new ones.
      pub holds_new : data_bytes (cell (now all)) (place + mark_cells l.mode) l.size ≡ contents
      holds_new =
          ap (data_bytes (cell (now all)) (place + mark_cells l.mode)) (sym whole)
          ∙ coded_read (cell (now all)) (cell_lt (now all)) l.mode (mark_byte mark) contents (edc_bytes edc) (place + mark_cells l.mode) small
          (λ k u. coded_there k (omega arith))

      -- With them stands their EDC.
      holds_edc : data_bytes (cell (now all)) (place + mark_cells l.mode) (l.size + 2) ≡ contents ++ edc_bytes edc
      holds_edc =
          let e : l.size + 2 ≡ length (contents ++ edc_bytes edc) = omega (arith, length-append contents (edc_bytes edc)) in
          rw e
          (coded_read (cell (now all)) (cell_lt (now all)) l.mode (mark_byte mark) (contents ++ edc_bytes edc) [] (place + mark_cells l.mode)
          (bytes_append contents (edc_bytes edc) small (edc_small edc (edc_lt (covered l.mode mark ++ contents))))
          (λ k u. rw (append-nil (contents ++ edc_bytes edc)) (coded_there k (omega arith))))

      -- No clock cell of them is doubtful after the new mark.
      pub clocks_new : bytes_clocks l.mode (cell (now all)) (last_bit mark) (place + mark_cells l.mode) (l.size + 2) ≡ 0
      clocks_new =
          let e : l.size + 2 ≡ length (contents ++ edc_bytes edc) = omega (arith, length-append contents (edc_bytes edc)) in
          rw e
          (coded_none (cell (now all)) (cell_lt (now all)) l.mode (mark_byte mark) (contents ++ edc_bytes edc) (place + mark_cells l.mode)
          (bytes_append contents (edc_bytes edc) small (edc_small edc (edc_lt (covered l.mode mark ++ contents))))
          (λ k u. coded_there k (omega arith)))

      -- Counted over the new mark too, it is right.
      pub edc_new : edc_right l.mode (cell (now all)) mark (place + mark_cells l.mode) (l.size + 2) ≡ true
      unfolding edc_right
      edc_new =
          rw (holds_edc, ← append_assoc (covered l.mode mark) contents (edc_bytes edc))
          (eq-eqb _ 0 (edc_closes (covered l.mode mark ++ contents)))
