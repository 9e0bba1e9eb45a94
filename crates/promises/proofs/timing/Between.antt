-- The 1 cells of an image and the runs between them: where they stand, how far apart, and that the runs are the cells.
use mathlib.Core.Path.{◌≡◌, refl, sym, ap, subst, ◌∙◌}
use mathlib.Core.Bool.{Bool, true, false, cond}
use mathlib.Core.List.{List, [], ◌∷◌, ◌++◌}
use mathlib.Core.Logic.{⊎_elim}
use Prim.Native.Nat.{ℕ, zero, suc, ◌+◌, ◌-◌, ◌<◌, ◌≤◌}
use native.Mathlib.Nat.{eq-or-lt_of_le}
use native.Mathlib.Omega.{arith}
use borrow.Author.Tests.{eqb-true, eqb-false, eq-eqb, ne_eqb, ltb-true, ltb-false, le-ltb}
use lib.Dec.{eqb, ltb}
use lib.ListN.{length, replicate, length-replicate, get_or-replicate, get_or-append}
use lib.Seq.{get_or-append-add}
use Rattle.verdicts.specs.Tests.{passed, refusal}
use Rattle.flux.specs.Images.{runs}
use Rattle.flux.specs.Refusals.{interval_tests}
use Rattle.flux.proofs.Left.{length_run}
use Rattle.flux.proofs.Ones.{listed}
use Rattle.promises.specs.Timings.{ones}
use Rattle.promises.proofs.timing.Nominal.{Steps, gaps}

-- ---- a run

-- Before its 1 a run has zeros; behind it the next begins.
run_zeros : (k i : ℕ) (xs : List ℕ) → i < k → listed (replicate k 0 ++ (1 ∷ xs)) i ≡ 0
run_zeros k i xs h =
    get_or-append (replicate k 0) (1 ∷ xs) 0 i (subst (λ (n : ℕ). i < n) (sym (length-replicate {A = ℕ} k 0)) h) ∙ get_or-replicate k i 0 0 h

run_one : (k : ℕ) (xs : List ℕ) → listed (replicate k 0 ++ (1 ∷ xs)) k ≡ 1
run_one zero xs = refl
run_one (suc k) xs = run_one k xs

run_rest : (k i : ℕ) (xs : List ℕ) → listed (replicate k 0 ++ (1 ∷ xs)) (k + 1 + i) ≡ listed xs i
run_rest zero i xs = let e : 0 + 1 + i ≡ suc i = omega arith in rw e
run_rest (suc k) i xs = let e : suc k + 1 + i ≡ suc (k + 1 + i) = omega arith in rw e (run_rest k i xs)

-- ---- the places of the 1 cells

module _ (c : ℕ → ℕ) (bit : (i : ℕ) → c i < 2) where
  pub ones_there : (p k : ℕ) → c p ≡ 1 → ones c p (suc k) ≡ p ∷ ones c (p + 1) k
  unfolding ones
  ones_there p k e = rw (eq-eqb (c p) 1 e)

  ones_else : (p k : ℕ) → (c p ≡ 1 → ⊥) → ones c p (suc k) ≡ ones c (p + 1) k
  unfolding ones
  ones_else p k n = rw (ne_eqb (c p) 1 n)

  -- All cells between l and p are 0.
  abbrev pub Empty : (l p : ℕ) → Type 0
  Empty l p = (i : ℕ) → l < i → i < p → c i ≡ 0

  empty_more : (l p : ℕ) → Empty l p → (c p ≡ 1 → ⊥) → Empty l (p + 1)
  empty_more l p z n i a b = ⊎_elim (λ e. let k = bit i in let m : c i ≡ 1 → ⊥ = (λ x. n (ap c (sym e) ∙ x)) in omega arith) (λ h. z i a h) (eq-or-lt_of_le (omega arith))

  pub empty_none : (p : ℕ) → Empty p (p + 1)
  empty_none p i a b = absurd (omega arith)

  -- They stand as far apart as the cells between them tell.
  pub steps : ((i d : ℕ) → c i ≡ 1 → c (i + d) ≡ 1 → 1 ≤ d → ((e : ℕ) → 1 ≤ e → e < d → c (i + e) ≡ 0) → (2 ≤ d) × (d ≤ 4))
      → (k l p : ℕ) → c l ≡ 1 → l < p → Empty l p → Steps l (ones c p k)
  unfolding ones
  steps apart zero l p one less z = tt
  steps apart (suc k) l p one less z = go (eqb (c p) 1) refl (steps apart k)
    where
      go : (b : Bool) → eqb (c p) 1 ≡ b → ((l p : ℕ) → c l ≡ 1 → l < p → Empty l p → Steps l (ones c p k)) → Steps l (cond b (p ∷ ones c (p + 1) k) (ones c (p + 1) k))
      go true e rest =
          let here : c p ≡ 1 = eqb-true (c p) 1 e in
          let q : l + (p - l) ≡ p = omega arith in
          let f : c (l + (p - l)) ≡ 1 = ap c q ∙ here in
          let d = apart l (p - l) one f (omega arith) (λ i a b. z (l + i) (omega arith) (omega arith)) in
          (omega arith, omega arith, rest p (p + 1) here (omega arith) (empty_none p))
      go false e rest = rest l (p + 1) one (omega arith) (empty_more l p z (eqb-false (c p) 1 e))

  -- The runs between them are the cells.
  pub cells_are : (k l p : ℕ) → l < p → Empty l p → ((i : ℕ) → p + k ≤ i → c i ≡ 0) → (i : ℕ) → l < i
      → listed (runs (gaps l (ones c p k))) (i - (l + 1)) ≡ c i
  unfolding ones runs
  cells_are zero l p less z end i a = go (ltb i p) refl
    where
      go : (b : Bool) → ltb i p ≡ b → 0 ≡ c i
      go true e = sym (z i a (ltb-true i p e))
      go false e = let h = ltb-false i p e in sym (end i (omega arith))
  cells_are (suc k) l p less z end i a = go (eqb (c p) 1) refl (cells_are k)
    where
      rest : List ℕ
      rest = ones c (p + 1) k

      there : c p ≡ 1 → ((l p : ℕ) → l < p → Empty l p → ((i : ℕ) → p + k ≤ i → c i ≡ 0) → (i : ℕ) → l < i → listed (runs (gaps l (ones c p k))) (i - (l + 1)) ≡ c i)
          → (b d : Bool) → ltb i p ≡ b → eqb i p ≡ d → listed (replicate (p - l - 1) 0 ++ (1 ∷ runs (gaps p (ones c (p + 1) k)))) (i - (l + 1)) ≡ c i
      there here more true d e f =
          let h = ltb-true i p e in
          run_zeros (p - l - 1) (i - (l + 1)) _ (omega arith) ∙ sym (z i a h)
      there here more false true e f =
          let same : i ≡ p = eqb-true i p f in
          let at : i - (l + 1) ≡ p - l - 1 = omega arith in
          ap (listed (replicate (p - l - 1) 0 ++ (1 ∷ runs (gaps p (ones c (p + 1) k))))) at ∙ run_one (p - l - 1) _ ∙ sym (ap c same ∙ here)
      there here more false false e f =
          let h = ltb-false i p e in
          let n = eqb-false i p f in
          let at : i - (l + 1) ≡ p - l - 1 + 1 + (i - (p + 1)) = omega arith in
          ap (listed (replicate (p - l - 1) 0 ++ (1 ∷ runs (gaps p (ones c (p + 1) k))))) at ∙ run_rest (p - l - 1) (i - (p + 1)) _
          ∙ more p (p + 1) (omega arith) (empty_none p) (λ j b. end j (omega arith)) i (omega arith)

      go : (b : Bool) → eqb (c p) 1 ≡ b
          → ((l p : ℕ) → l < p → Empty l p → ((i : ℕ) → p + k ≤ i → c i ≡ 0) → (i : ℕ) → l < i → listed (runs (gaps l (ones c p k))) (i - (l + 1)) ≡ c i)
          → listed (runs (gaps l (cond b (p ∷ ones c (p + 1) k) (ones c (p + 1) k)))) (i - (l + 1)) ≡ c i
      go true e more = there (eqb-true (c p) 1 e) more (ltb i p) (eqb i p) refl refl
      go false e more = more l (p + 1) (omega arith) (empty_more l p z (eqb-false (c p) 1 e)) (λ j b. end j (omega arith)) i a

-- ---- all the runs

-- The last of the cells is a 1.
pub last_one : (l : ℕ) (ps : List ℕ) → Steps l ps → listed (1 ∷ runs (gaps l ps)) (length (runs (gaps l ps))) ≡ 1
unfolding runs
last_one l [] s = refl
last_one l (p ∷ ps) s =
    let h : ℕ = p - l in
    let hs = gaps p ps in
    let e : length (runs (h ∷ hs)) ≡ suc (length (replicate {A = ℕ} (h - 1) 0) + length (runs hs)) =
    (let a = length_run h hs (omega (arith, s.0)) in
    let b = length-replicate {A = ℕ} (h - 1) 0 in
    omega (arith, s.0)) in
    ap (listed (1 ∷ (replicate (h - 1) 0 ++ (1 ∷ runs hs)))) e ∙ get_or-append-add (replicate (h - 1) 0) (1 ∷ runs hs) (length (runs hs)) 0 ∙ last_one p ps s.2

-- With room for all of them none is refused.
pub roomy : (room cells number l : ℕ) (ps : List ℕ) → Steps l ps → cells + length (runs (gaps l ps)) ≤ room
    → refusal (interval_tests room cells number (gaps l ps)) ≡ passed
unfolding interval_tests refusal
roomy room cells number l [] s h = refl
roomy room cells number l (p ∷ ps) s h =
    let long = length_run (p - l) (gaps p ps) (omega (arith, s.0)) in
    rw (ne_eqb (p - l) 0 (omega (arith, s.0)), le-ltb room (cells + (p - l)) (omega arith))
    (roomy room (cells + (p - l)) (suc number) p ps s.2 (omega arith))
