-- The image that a cut leaves, store by store: it has the first image's length, each further store is that of the one list, and on every cut
-- every rewrite of the block has the list that it has on the first image.
use mathlib.Core.Path.{◌≡◌, refl, ap, ◌∙◌}
use mathlib.Core.List.{List, [], ◌∷◌, ◌++◌}
use Prim.Native.Nat.{ℕ, zero, suc, ◌<◌, ◌≤◌}
use native.Mathlib.Omega.{arith}
use lib.ListN.{length, get_or, take, length-set}
use lib.Seq.{take-suc, take-length}
use Rattle.layouts.specs.declared.Layout.{Layout}
use Rattle.marks.specs.declared.Mark.{Mark}
use Rattle.rewrite.specs.Stores.{stored, no_store, stores, store_count}
use Rattle.promises.specs.Cuts.{stored_all, cut, finished}
use Rattle.rewrite.specs.declared.Store.{Store}
use Rattle.rewrite.proofs.Listed.{stores_count, Kind, kind}
use Rattle.rewrite.proofs.Fixed.{stores_fixed}

all_append : (image : List ℕ) (xs ys : List Store) → stored_all image (xs ++ ys) ≡ stored_all (stored_all image xs) ys
unfolding stored_all
all_append image [] ys = refl
all_append image (x ∷ xs) ys = all_append (stored image x) xs ys

length_all : (image : List ℕ) (xs : List Store) → length (stored_all image xs) ≡ length image
unfolding stored_all
length_all image [] = refl
length_all image (x ∷ xs) = length_all (stored image x) xs ∙ length-set image x.byte x.value

module _ (l : Layout) (image : List ℕ) (place : ℕ) (mark : Mark) (contents : List ℕ) where
  abbrev list : List Store
  list = stores l image place mark contents

  abbrev now : ℕ → List ℕ
  now j = cut l image place mark contents j

  -- The cuts, one after the other.
  pub length_cut : (j : ℕ) → length (now j) ≡ length image
  unfolding cut
  length_cut j = length_all image (take j list)

  pub cut_none : now 0 ≡ image
  unfolding cut stored_all
  cut_none = refl

  cut_next : (j : ℕ) → j < length list → now (suc j) ≡ stored (now j) (get_or list j no_store)
  unfolding cut stored_all
  cut_next j h = ap (stored_all image) (take-suc list j no_store h) ∙ all_append image (take j list) (get_or list j no_store ∷ [])

  pub cut_all : now (length list) ≡ finished l image place mark contents
  unfolding cut finished
  cut_all = ap (stored_all image) (take-length list)

  module _ (whole : length contents ≡ l.size) where
    pub cut_step : (j : ℕ) → j < store_count l place (length image) → now (suc j) ≡ stored (now j) (get_or list j no_store)
    cut_step j h = cut_next j (rw (stores_count l image place mark contents whole) h)

    -- Store j is of its kind in the image that j stores left, too: its list is the first image's.
    moved : (j : ℕ) → j < store_count l place (length image) → stores l (now j) place mark contents ≡ list
        → Kind l (now j) place mark contents j (get_or list j no_store)
    moved j h e = rw (← e) (kind l (now j) place mark contents whole j (rw (length_cut j) h))

    -- Every rewrite of the block has on a cut the list that it has on the first image.
    pub stores_cut : (j : ℕ) → j ≤ store_count l place (length image) → (other : Mark) (bytes : List ℕ)
        → stores l (now j) place other bytes ≡ stores l image place other bytes
    stores_cut zero h other bytes = ap (λ (x : List ℕ). stores l x place other bytes) cut_none
    stores_cut (suc j) h other bytes = go (stores_cut j (omega arith))
      where
        go : ((other : Mark) (bytes : List ℕ) → stores l (now j) place other bytes ≡ stores l image place other bytes)
            → stores l (now (suc j)) place other bytes ≡ stores l image place other bytes
        go ih =
            rw (cut_step j h)
            (stores_fixed l (now j) place mark contents other bytes j (get_or list j no_store) (moved j h (ih mark contents)) ∙ ih other bytes)
