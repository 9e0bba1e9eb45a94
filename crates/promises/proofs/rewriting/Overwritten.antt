-- A rewrite that starts again on what a cut left ends as it would have on the first image: it stores every byte that the cut one stored.
use mathlib.Core.Path.{◌≡◌, refl, sym, ap, ◌∙◌}
use mathlib.Core.Bool.{Bool, true, false}
use mathlib.Core.List.{List, [], ◌∷◌}
use mathlib.Core.Logic.{◌⊎◌, inl, inr}
use Prim.Native.Nat.{ℕ, zero, suc, ◌+◌, ◌*◌, ◌<◌, ◌≤◌}
use native.Mathlib.Omega.{arith}
use borrow.Author.Tests.{eqb-true, eqb-false}
use lib.Dec.{eqb}
use lib.ListN.{length, get_or, length-set}
use lib.Seq.{get_or-set_same, get_or-set_other, ext_get_or}
use Rattle.layouts.specs.declared.Layout.{Layout}
use Rattle.marks.specs.declared.Mark.{Mark}
use Rattle.rewrite.specs.Stores.{stored, no_store, stores, store_count}
use Rattle.promises.specs.Cuts.{stored_all, cut, finished}
use Rattle.rewrite.specs.declared.Store.{Store}
use Rattle.rewrite.proofs.Listed.{stores_count, store_open, store_coded, store_joined, Kind, opens, codes, joins, closes, kind}
use Rattle.rewrite.proofs.Counted.{count_least}
use Rattle.promises.proofs.rewriting.Cutting.{length_cut, cut_none, cut_step, stores_cut}

-- One of the stores is of byte i.
record Stored (i : ℕ) (list : List Store) : Type 0 where
  at : ℕ
  within : at < length list
  there : (get_or list at no_store).byte ≡ i

-- Byte i is one that they store, or it is alike in both images.
abbrev Alike : List Store → (x y : List ℕ) → ℕ → Type 0
Alike list x y i = Stored i list ⊎ (get_or x i 0 ≡ get_or y i 0)

-- After one of the stores, of the others.
alike_next : (s : Store) (list : List Store) (x y : List ℕ) → length x ≡ length y → (i : ℕ) → i < length x
    → Alike (s ∷ list) x y i → Alike list (stored x s) (stored y s) i
alike_next s list x y e i h a = go (eqb i s.byte) refl a
  where
    later : (i ≡ s.byte → ⊥) → (k : ℕ) → k < suc (length list) → (get_or (s ∷ list) k no_store).byte ≡ i → Stored i list
    later n zero u p = absurd (n (sym p))
    later n (suc k) u p = record { at = k; within = omega arith; there = p }

    go : (b : Bool) → eqb i s.byte ≡ b → Alike (s ∷ list) x y i → Alike list (stored x s) (stored y s) i
    go true q a =
        let z = eqb-true i s.byte q in
        inr (rw z (get_or-set_same x s.byte s.value 0 (omega arith) ∙ sym (get_or-set_same y s.byte s.value 0 (omega arith))))
    go false q (inl t) = inl (later (eqb-false i s.byte q) t.at t.within t.there)
    go false q (inr f) =
        inr (get_or-set_other x s.byte i s.value 0 (eqb-false i s.byte q) ∙ f
        ∙ sym (get_or-set_other y s.byte i s.value 0 (eqb-false i s.byte q)))

-- Two images that differ only in bytes that are stored become one.
overwritten : (list : List Store) (x y : List ℕ) → length x ≡ length y → ((i : ℕ) → i < length x → Alike list x y i)
    → stored_all x list ≡ stored_all y list
unfolding stored_all
overwritten [] x y e h = ext_get_or 0 x y e (λ i u. by i (h i u))
  where
    by : (i : ℕ) → Alike [] x y i → get_or x i 0 ≡ get_or y i 0
    by i (inl t) = absurd (omega (arith, t.within))
    by i (inr f) = f
overwritten (s ∷ list) x y e h =
    overwritten list (stored x s) (stored y s) (length-set x s.byte s.value ∙ e ∙ sym (length-set y s.byte s.value))
    (λ i u. let v : i < length x = rw (← length-set x s.byte s.value) u in alike_next s list x y e i v (h i v))

module _ (l : Layout) (image : List ℕ) (place : ℕ) (mark : Mark) (contents : List ℕ) (whole : length contents ≡ l.size)
    (other : Mark) (bytes : List ℕ) (full : length bytes ≡ l.size) where
  abbrev now : ℕ → List ℕ
  now j = cut l image place mark contents j

  abbrev others : List Store
  others = stores l image place other bytes

  number : length others ≡ store_count l place (length image)
  number = stores_count l image place other bytes full

  -- Every rewrite of the block stores the same bytes.
  same_place : (k : ℕ) (store : Store) → Kind l image place mark contents k store → Stored store.byte others
  same_place k store (opens e) =
      record {
        at = 0;
        within = omega (arith, number, count_least l place (length image));
        there = ap (λ (s : Store). s.byte) (store_open l image place other bytes full);
      }
  same_place k store (codes j e i) =
      record {
        at = suc j;
        within = omega (arith, number, count_least l place (length image));
        there = ap (λ (s : Store). s.byte) (store_coded l image place other bytes full j i);
      }
  same_place k store (joins e f) =
      record {
        at = 2 * l.size + 5;
        within = omega (arith, number, count_least l place (length image));
        there = ap (λ (s : Store). s.byte) (store_joined l image place other bytes full f);
      }
  same_place k store (closes e) =
      record {
        at = 0;
        within = omega (arith, number, count_least l place (length image));
        there = ap (λ (s : Store). s.byte) (store_open l image place other bytes full);
      }

  -- What a cut changed, the other rewrite stores.
  changed : (j : ℕ) → j ≤ store_count l place (length image) → (i : ℕ) → Alike others (now j) image i
  changed zero h i = inr (ap (λ (x : List ℕ). get_or x i 0) (cut_none l image place mark contents))
  changed (suc j) h i = rw (cut_step l image place mark contents whole j h) (go (changed j (omega arith) i) (eqb i store.byte) refl)
    where
      store : Store
      store = get_or (stores l image place mark contents) j no_store

      go : Alike others (now j) image i → (b : Bool) → eqb i store.byte ≡ b → Alike others (stored (now j) store) image i
      go a true q =
          let z = eqb-true i store.byte q in
          rw z (inl (same_place j store (kind l image place mark contents whole j h)))
      go (inl t) false q = inl t
      go (inr f) false q = inr (get_or-set_other (now j) store.byte i store.value 0 (eqb-false i store.byte q) ∙ f)

  -- It ends on every cut as on the first image.
  pub finished_again : (j : ℕ) → j ≤ store_count l place (length image)
      → finished l (now j) place other bytes ≡ finished l image place other bytes
  unfolding finished
  finished_again j h =
      ap (stored_all (now j)) (stores_cut l image place mark contents whole j h other bytes)
      ∙ overwritten others (now j) image (length_cut l image place mark contents j) (λ i u. changed j h i)
