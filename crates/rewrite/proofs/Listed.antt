-- The list of stores, one by one: how long it is, what store number k is, and that every store lies within the block or is the byte after it.
use mathlib.Core.Path.{◌≡◌, refl, ◌∙◌}
use mathlib.Core.Bool.{Bool, true, false, cond}
use mathlib.Core.List.{List, [], ◌∷◌, ◌++◌}
use mathlib.Core.Logic.{⊎_elim}
use Prim.Native.Nat.{ℕ, zero, suc, ◌+◌, ◌*◌, ◌%◌, ◌<◌, ◌≤◌}
use native.Mathlib.Nat.{add-zero}
use native.Mathlib.Omega.{arith}
use borrow.Author.Tests.{ltb-true}
use lib.ListN.{length, get_or, length-append, get_or-append}
use lib.Seq.{get_or-append-add}
use Rattle.cells.specs.declared.Mode.{Mode}
use Rattle.cells.specs.declared.Mode.TheVariants.{Fm, Mfm}
use Rattle.edc.specs.Register.{edc_bytes}
use Rattle.layouts.specs.declared.Layout.{Layout}
use Rattle.marks.specs.Marks.{mark_byte, mark_bytes, mark_last, last_byte}
use Rattle.marks.specs.declared.Mark.{Mark}
use Rattle.marks.specs.declared.Mark.TheVariants.{Open}
use Rattle.search.proofs.Searching.{le_or_lt}
use Rattle.verdicts.proofs.Tests.{clash}
use Rattle.rewrite.specs.Stores.{no_store, mark_end, field_start, block_end, follows, joined, storing, new_edc, field, stores, store_count}
use Rattle.rewrite.specs.declared.Store.{Store}
use Rattle.rewrite.proofs.Coded.{length_coding, length_storing, storing_at}

-- The last byte of a mark stands right before what follows the mark.
pub mark_last_lem : (mode : Mode) → mark_last mode + 1 ≡ 2 * mark_bytes mode
mark_last_lem Fm = refl
mark_last_lem Mfm = refl

-- A byte is stored behind the block in MFM only, and it is one of the image.
pub follows_true : (mode : Mode) (end bytes : ℕ) → follows mode end bytes ≡ true → (mode ≡ Mfm) × (end < bytes)
follows_true Fm end bytes e = absurd (clash cc)
follows_true Mfm end bytes e = (refl, ltb-true end bytes e)

module _ (l : Layout) (image : List ℕ) (place : ℕ) (mark : Mark) (contents : List ℕ) where
  -- Whether the byte after the block is stored.
  abbrev pub followed : Bool
  followed = follows l.mode (block_end l place) (length image)

  -- The store of each kind.
  abbrev pub opening : Store
  opening = record { byte = mark_end l place; value = last_byte l.mode Open }

  abbrev pub closing : Store
  closing = record { byte = mark_end l place; value = last_byte l.mode mark }

  abbrev pub joining : Store
  joining =
      record {
        byte = block_end l place;
        value = joined (new_edc l.mode mark contents % 2) (get_or image (block_end l place) 0);
      }

  -- What stands behind the coded bytes, by whether the byte after the block is stored.
  abbrev ending : Bool → List Store
  ending b = cond b (joining ∷ []) [] ++ (closing ∷ [])

  abbrev pub coded : ℕ → Store
  coded j = record { byte = field_start l place + j; value = get_or (field l.mode mark contents) j 0 }

  module _ (whole : length contents ≡ l.size) where
    length_field : length (field l.mode mark contents) ≡ 2 * (l.size + 2)
    length_field =
        length_coding l.mode (mark_byte mark) (contents ++ edc_bytes (new_edc l.mode mark contents))
        ∙ rw (length-append contents (edc_bytes (new_edc l.mode mark contents)), whole)

    abbrev run : List Store
    run = storing (field_start l place) (field l.mode mark contents)

    length_run : length run ≡ 2 * (l.size + 2)
    length_run = length_storing (field_start l place) (field l.mode mark contents) ∙ length_field

    -- 2N + 7 stores, or 2N + 6 in FM and at the image's end (01, "Rewriting a sector").
    pub stores_count : length (stores l image place mark contents) ≡ store_count l place (length image)
    unfolding stores store_count
    stores_count = go followed (length-append run (ending followed))
      where
        go : (b : Bool) → length (run ++ ending b) ≡ length run + length (ending b) → suc (length (run ++ ending b)) ≡ 2 * l.size + cond b 7 6
        go true e = omega (arith, length_run)
        go false e = omega (arith, length_run)

    -- ---- store number k

    pub store_open : get_or (stores l image place mark contents) 0 no_store ≡ opening
    unfolding stores
    store_open = refl

    pub store_coded : (j : ℕ) → j < 2 * (l.size + 2) → get_or (stores l image place mark contents) (suc j) no_store ≡ coded j
    unfolding stores
    store_coded j h =
        get_or-append run _ no_store j (omega (arith, length_run))
        ∙ storing_at (field_start l place) (field l.mode mark contents) j (omega (arith, length_field))

    behind : (i : ℕ) → get_or (stores l image place mark contents) (2 * l.size + 5 + i) no_store ≡ get_or (ending followed) i no_store
    unfolding stores
    behind i =
        let e : 2 * l.size + 5 + i ≡ suc (length run + i) = omega (arith, length_run) in
        rw e (get_or-append-add run (ending followed) i no_store)

    pub store_joined : followed ≡ true → get_or (stores l image place mark contents) (2 * l.size + 5) no_store ≡ joining
    store_joined e = (rw add-zero at (behind 0)) ∙ rw e

    pub store_closed : (k : ℕ) → suc k ≡ store_count l place (length image) → get_or (stores l image place mark contents) k no_store ≡ closing
    unfolding store_count
    store_closed k h = go followed refl h
      where
        go : (b : Bool) → followed ≡ b → suc k ≡ 2 * l.size + cond b 7 6 → get_or (stores l image place mark contents) k no_store ≡ closing
        go true e f =
            let g : k ≡ 2 * l.size + 5 + 1 = omega arith in
            rw g (behind 1 ∙ rw e)
        go false e f =
            let g : k ≡ 2 * l.size + 5 + 0 = omega arith in
            rw g (behind 0 ∙ rw e)

  -- Store number k is of one of four kinds.
  pub data Kind (k : ℕ) : Store → Type 0 where
    opens : k ≡ 0 → Kind k opening
    codes : (j : ℕ) → k ≡ suc j → j < 2 * (l.size + 2) → Kind k (coded j)
    joins : k ≡ 2 * l.size + 5 → followed ≡ true → Kind k joining
    closes : suc k ≡ store_count l place (length image) → Kind k closing

  module _ (whole : length contents ≡ l.size) where
    -- behind the coded bytes
    late : (b : Bool) (k : ℕ) → followed ≡ b → 2 * l.size + 5 ≤ k → k < 2 * l.size + cond b 7 6
        → Kind k (get_or (stores l image place mark contents) k no_store)
    unfolding store_count
    late false k e h u = let s : suc k ≡ 2 * l.size + cond followed 7 6 = rw e (omega arith) in rw (store_closed whole k s) (closes s)
    late true k e h u = ⊎_elim after next (le_or_lt (2 * l.size + 6) k)
      where
        after : 2 * l.size + 6 ≤ k → Kind k (get_or (stores l image place mark contents) k no_store)
        after p = let s : suc k ≡ 2 * l.size + cond followed 7 6 = rw e (omega arith) in rw (store_closed whole k s) (closes s)

        next : k < 2 * l.size + 6 → Kind k (get_or (stores l image place mark contents) k no_store)
        next p = let s : k ≡ 2 * l.size + 5 = omega arith in rw s (rw (store_joined whole e) (joins refl e))

    pub kind : (k : ℕ) → k < store_count l place (length image) → Kind k (get_or (stores l image place mark contents) k no_store)
    unfolding store_count
    kind zero h = rw (store_open whole) (opens refl)
    kind (suc j) h =
        ⊎_elim (λ p. late followed (suc j) refl (omega arith) h) (λ i. rw (store_coded whole j i) (codes j refl i))
        (le_or_lt (2 * (l.size + 2)) j)

  -- A store lies within the block, from its mark's last byte on, or is the byte after it; in any case the image has the byte.
  pub record Inside (store : Store) : Type 0 where
    pub low : mark_end l place ≤ store.byte
    pub high : store.byte ≤ block_end l place
    pub within : store.byte < length image

  pub inside : block_end l place ≤ length image → (k : ℕ) (store : Store) → Kind k store → Inside store
  inside h k store (opens e) = omega (arith, mark_last_lem l.mode)
  inside h k store (codes j e i) = omega (arith, mark_last_lem l.mode)
  inside h k store (joins e f) = omega (arith, mark_last_lem l.mode, follows_true l.mode (block_end l place) (length image) f)
  inside h k store (closes e) = omega (arith, mark_last_lem l.mode)
