-- How the code comes to a store: each result of its arms is the list's store of that number.
use mathlib.Core.Path.{◌≡◌, refl, sym, ap, ◌∙◌}
use mathlib.Core.Bool.{Bool, true, false, cond}
use mathlib.Core.List.{List, [], ◌∷◌, ◌++◌}
use Prim.Native.Nat.{ℕ, suc, ◌+◌, ◌-◌, ◌*◌, ◌/◌, ◌%◌, ◌<◌, ◌≤◌}
use native.Mathlib.Omega.{arith}
use lib.ListN.{length, get_or, length-append, get_or-append}
use lib.Seq.{get_or_at, get_or-append-add}
use Rattle.coding.specs.Coding.{coded_byte}
use Rattle.cells.specs.declared.Mode.{Mode}
use Rattle.coding.specs.declared.Pair.{Pair}
use Rattle.edc.specs.Register.{edc_bytes}
use Rattle.layouts.specs.declared.Layout.{Layout}
use Rattle.marks.specs.Marks.{mark_byte, last_byte}
use Rattle.marks.specs.declared.Mark.{Mark}
use Rattle.marks.specs.declared.Mark.TheVariants.{Open}
use Rattle.rewrite.specs.Stores.{no_store, mark_end, field_start, block_end, follows, joined, new_edc, field, stores, store_count}
use Rattle.rewrite.proofs.Coded.{coding_at}
use Rattle.rewrite.proofs.Listed.{mark_last_lem, follows_true, store_open, store_coded, store_joined, store_closed}

-- ---- a coded byte

module _ (mode : Mode) (mark : Mark) (contents : List ℕ) (i : ℕ) where
  -- The bytes with their EDC.
  abbrev edc : ℕ
  edc = new_edc mode mark contents

  abbrev checked : List ℕ
  checked = contents ++ edc_bytes edc

  length_checked : length checked ≡ length contents + 2
  length_checked = length-append contents (edc_bytes edc)

  -- These are the image bytes of byte i.
  abbrev Codes : Pair → Type 0
  Codes p = (p.first ≡ get_or (field mode mark contents) (2 * i) 0) × (p.second ≡ get_or (field mode mark contents) (2 * i + 1) 0)

  -- from the last bit before it, and the byte itself, x
  by_bytes : (bit x : ℕ) (p : Pair) → i < length checked → bit ≡ get_or (mark_byte mark ∷ checked) i 0 % 2 → x ≡ get_or checked i 0
      → p ≡ coded_byte mode bit x → Codes p
  by_bytes bit x p h e f g = rw (g, e, f) (coding_at mode (mark_byte mark) checked i h)

  -- the byte before stands in the contents, or is the mark
  before_kept : i ≤ length contents → get_or (mark_byte mark ∷ contents) i 0 % 2 ≡ get_or (mark_byte mark ∷ checked) i 0 % 2
  before_kept h = ap (λ (x : ℕ). x % 2) (sym (get_or-append (mark_byte mark ∷ contents) (edc_bytes edc) 0 i (omega arith)))

  pub data_coded : (bit : ℕ) (p : Pair) → i < length contents → bit ≡ get_or (mark_byte mark ∷ contents) i 0 % 2
      → p ≡ coded_byte mode bit (get_or contents i 0) → Codes p
  data_coded bit p h e g =
      by_bytes bit (get_or contents i 0) p (omega (arith, length_checked)) (e ∙ before_kept (omega arith))
      (sym (get_or-append contents (edc_bytes edc) 0 i h)) g

  module _ (k : ℕ) (edc-said : k ≡ edc) where
    pub upper_coded : (bit : ℕ) (p : Pair) → i ≡ length contents → bit ≡ get_or (mark_byte mark ∷ contents) i 0 % 2
        → p ≡ coded_byte mode bit (k / 256) → Codes p
    upper_coded bit p h e g =
        by_bytes bit (k / 256) p (omega (arith, length_checked)) (e ∙ before_kept (omega arith))
        (ap (λ (x : ℕ). x / 256) edc-said ∙ sym (get_or_at contents (edc / 256) (edc % 256 ∷ []) 0 i (sym h))) g

    pub lower_coded : (p : Pair) → length contents ≤ i → (i ≡ length contents → ⊥) → i < length contents + 2
        → p ≡ coded_byte mode (k / 256 % 2) (k % 256) → Codes p
    lower_coded p h n u g =
        let next : i ≡ length contents + 1 = omega arith in
        let upper = get_or_at (mark_byte mark ∷ contents) (edc / 256) (edc % 256 ∷ []) 0 i (omega arith) in
        by_bytes (k / 256 % 2) (k % 256) p (omega (arith, length_checked))
        (ap (λ (x : ℕ). x / 256 % 2) edc-said ∙ ap (λ (x : ℕ). x % 2) (sym upper))
        (ap (λ (x : ℕ). x % 256) edc-said ∙ rw next (sym (get_or-append-add contents (edc_bytes edc) 1 0))) g

  -- One of the two, by its place in the field.
  pub first_coded : (at : ℕ) (p : Pair) → i ≡ at / 2 → Codes p → at % 2 ≡ 0 → p.first ≡ get_or (field mode mark contents) at 0
  first_coded at p e h z = let f : 2 * i ≡ at = omega arith in rw f at h.0

  pub second_coded : (at : ℕ) (p : Pair) → i ≡ at / 2 → Codes p → (at % 2 ≡ 0 → ⊥) → p.second ≡ get_or (field mode mark contents) at 0
  second_coded at p e h n = let f : 2 * i + 1 ≡ at = omega arith in rw f at h.1

-- ---- a store

module _ (l : Layout) (image : List ℕ) (place : ℕ) (mark : Mark) (contents : List ℕ) (whole : length contents ≡ l.size)
    (end : ℕ) (end-said : end ≡ mark_end l place) (made : ℕ) where
  -- The store of an equal number.
  at_number : {k : ℕ} → made ≡ k → get_or (stores l image place mark contents) made no_store ≡ get_or (stores l image place mark contents) k no_store
  at_number e = rw e

  pub opened : (v : ℕ) → made ≡ 0 → v ≡ last_byte l.mode Open
      → record { byte = end; value = v } ≡ get_or (stores l image place mark contents) made no_store
  opened v z e = sym (at_number z ∙ store_open l image place mark contents whole ∙ rw (e, end-said))

  pub coded_in : (v : ℕ) → (made ≡ 0 → ⊥) → made < 2 * length contents + 5 → v ≡ get_or (field l.mode mark contents) (made - 1) 0
      → record { byte = end + made; value = v } ≡ get_or (stores l image place mark contents) made no_store
  coded_in v n h e =
      let s : made ≡ suc (made - 1) = omega arith in
      let p : end + made ≡ field_start l place + (made - 1) = omega (arith, mark_last_lem l.mode) in
      sym (at_number s ∙ store_coded l image place mark contents whole (made - 1) (omega arith) ∙ rw (e, p))

  module _ (late : 2 * length contents + 5 ≤ made) (within : made < store_count l place (length image))
      (count : ℕ) (counts : count ≡ store_count l place (length image)) where
    -- With a store to come behind it, it is the byte after the block.
    follows_late : (b : Bool) → follows l.mode (block_end l place) (length image) ≡ b → made + 1 < 2 * l.size + cond b 7 6
        → (follows l.mode (block_end l place) (length image) ≡ true) × (made ≡ 2 * l.size + 5)
    follows_late true e h = (e, omega arith)
    follows_late false e h = absurd (omega arith)

    after_known : made + 1 < count → (follows l.mode (block_end l place) (length image) ≡ true) × (made ≡ 2 * l.size + 5)
    unfolding store_count
    after_known h = follows_late (follows l.mode (block_end l place) (length image)) refl (rw counts at h)

    after_place : made ≡ 2 * l.size + 5 → end + made ≡ block_end l place
    after_place e = omega (arith, mark_last_lem l.mode)

    pub after_within : made + 1 < count → end + made < length image
    after_within h =
        let k = after_known h in
        rw (after_place k.1) (follows_true l.mode (block_end l place) (length image) k.0).1

    pub joined_in : (v : ℕ) → made + 1 < count → v ≡ joined (new_edc l.mode mark contents % 2) (get_or image (end + made) 0)
        → record { byte = end + made; value = v } ≡ get_or (stores l image place mark contents) made no_store
    joined_in v h e =
        let k = after_known h in
        sym (at_number k.1 ∙ store_joined l image place mark contents whole k.0 ∙ rw (e, after_place k.1))

    pub closed : (v : ℕ) → count ≤ made + 1 → v ≡ last_byte l.mode mark
        → record { byte = end; value = v } ≡ get_or (stores l image place mark contents) made no_store
    closed v h e = sym (store_closed l image place mark contents whole made (omega arith) ∙ rw (e, end-said))
