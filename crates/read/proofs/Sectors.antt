-- Lists by sector number: what each sector has, one behind the other, and what changes where one sector's part does.
use mathlib.Core.Path.{◌≡◌, refl, sym, ap, ap₂, ◌∙◌}
use mathlib.Core.List.{List, [], ◌∷◌, ◌++◌, map}
use mathlib.Core.Logic.{⊎_elim}
use Prim.Native.Nat.{ℕ, zero, suc, ◌+◌, ◌-◌, ◌*◌, ◌≤◌, ◌<◌}
use native.Mathlib.Nat.{suc-mul, add_comm, eq-or-lt_of_le}
use native.Mathlib.Omega.{arith}
use lib.ListN.{length, get_or, set, take, drop, replicate, length-append, replicate-append-replicate}
use lib.Seq.{sets, sets-eq, take_at, drop-drop}
use Rattle.layouts.specs.Layouts.{numbers}
use Rattle.read.specs.Records.{slots}

-- ---- one thing for each number

module _ {A : Type 0} where
  pub map_same : (f g : ℕ → A) (k a : ℕ) → ((x : ℕ) → a ≤ x → g x ≡ f x) → map g (numbers k a) ≡ map f (numbers k a)
  map_same f g zero a h = refl
  map_same f g (suc k) a h = ap₂ ◌∷◌ (h a (omega arith)) (map_same f g k (suc a) (λ x l. h x (omega arith)))

  -- where all have the same
  pub map_all : (f : ℕ → A) (v : A) → ((x : ℕ) → f x ≡ v) → (k a : ℕ) → map f (numbers k a) ≡ replicate k v
  map_all f v h zero a = refl
  map_all f v h (suc k) a = ap₂ ◌∷◌ (h a) (map_all f v h k (suc a))

  pub map_at : (f : ℕ → A) (d : A) (k a s : ℕ) → a ≤ s → s < a + k → get_or (map f (numbers k a)) (s - a) d ≡ f s
  map_at f d zero a s h j = absurd (omega arith)
  map_at f d (suc k) a s h j = ⊎_elim here (λ lt. there lt (map_at f d k (suc a) s lt (omega arith))) (eq-or-lt_of_le h)
    where
      here : a ≡ s → get_or (map f (numbers (suc k) a)) (s - a) d ≡ f s
      here e = let z : s - a ≡ 0 = omega arith in rw z (ap f e)

      there : a < s → get_or (map f (numbers k (suc a))) (s - suc a) d ≡ f s → get_or (map f (numbers (suc k) a)) (s - a) d ≡ f s
      there lt e = let z : s - a ≡ suc (s - suc a) = omega arith in rw z e

  -- where only s has another
  pub map_set : (f g : ℕ → A) (s : ℕ) → ((x : ℕ) → (s ≡ x → ⊥) → g x ≡ f x) → (k a : ℕ) → a ≤ s
      → map g (numbers k a) ≡ set (map f (numbers k a)) (s - a) (g s)
  map_set f g s same zero a h = refl
  map_set f g s same (suc k) a h = ⊎_elim here (λ lt. there lt (map_set f g s same k (suc a) lt)) (eq-or-lt_of_le h)
    where
      here : a ≡ s → map g (numbers (suc k) a) ≡ set (map f (numbers (suc k) a)) (s - a) (g s)
      here e =
          let z : s - a ≡ 0 = omega arith in
          rw z (ap₂ ◌∷◌ (ap g e) (map_same f g k (suc a) (λ x l. same x (λ q. omega arith))))

      there : a < s → map g (numbers k (suc a)) ≡ set (map f (numbers k (suc a))) (s - suc a) (g s)
          → map g (numbers (suc k) a) ≡ set (map f (numbers (suc k) a)) (s - a) (g s)
      there lt e =
          let z : s - a ≡ suc (s - suc a) = omega arith in
          rw z (ap₂ ◌∷◌ (same a (λ q. omega arith)) e)

-- ---- stores behind and at the front of a list

set_behind : (xs zs : List ℕ) (j v : ℕ) → set (xs ++ zs) (length xs + j) v ≡ xs ++ set zs j v
set_behind [] zs j v = let z : 0 + j ≡ j = omega arith in rw z
set_behind (x ∷ xs) zs j v = let z : suc (length xs) + j ≡ suc (length xs + j) = omega arith in rw z (ap (λ l. x ∷ l) (set_behind xs zs j v))

sets_behind : (xs zs vs : List ℕ) (j : ℕ) → sets (xs ++ zs) (length xs + j) vs ≡ xs ++ sets zs j vs
sets_behind xs zs [] j = refl
sets_behind xs zs (v ∷ vs) j =
    let z : suc (length xs + j) ≡ length xs + suc j = omega arith in
    rw (z, set_behind xs zs j v) (sets_behind xs (set zs j v) vs (suc j))

drop_front : (xs zs : List ℕ) → drop (length xs) (xs ++ zs) ≡ zs
drop_front [] zs = refl
drop_front (x ∷ xs) zs = drop_front xs zs

sets_front : (xs ys zs : List ℕ) → length ys ≡ length xs → sets (xs ++ zs) 0 ys ≡ ys ++ zs
sets_front xs ys zs e =
    let z : 0 + length ys ≡ length xs = omega arith in
    sets-eq ys (xs ++ zs) 0 (omega (arith, length-append xs zs)) ∙ rw (z, drop_front xs zs)

-- ---- slots

module _ (size : ℕ) where
  pub slots_same : (f g : ℕ → List ℕ) (k a : ℕ) → ((x : ℕ) → a ≤ x → g x ≡ f x) → slots g (numbers k a) ≡ slots f (numbers k a)
  unfolding slots
  slots_same f g zero a h = refl
  slots_same f g (suc k) a h = ap₂ ◌++◌ (h a (omega arith)) (slots_same f g k (suc a) (λ x l. h x (omega arith)))

  pub length_slots : (f : ℕ → List ℕ) → ((x : ℕ) → length (f x) ≡ size) → (k a : ℕ) → length (slots f (numbers k a)) ≡ k * size
  unfolding slots
  length_slots f long zero a = omega arith
  length_slots f long (suc k) a =
      length-append (f a) (slots f (numbers k (suc a)))
      ∙ ap₂ ◌+◌ (long a) (length_slots f long k (suc a))
      ∙ sym (suc-mul k size ∙ add_comm (k * size) size)

  -- where all are zeros
  pub slots_zero : (f : ℕ → List ℕ) → ((x : ℕ) → f x ≡ replicate size 0) → (k a : ℕ) → slots f (numbers k a) ≡ replicate (k * size) 0
  unfolding slots
  slots_zero f h zero a = let z : 0 * size ≡ 0 = omega arith in rw z
  slots_zero f h (suc k) a =
      let z : suc k * size ≡ size + k * size = suc-mul k size ∙ add_comm (k * size) size in
      ap₂ ◌++◌ (h a) (slots_zero f h k (suc a)) ∙ replicate-append-replicate size (k * size) 0 ∙ sym (rw z)

  -- where only s has another
  pub slots_set : (f g : ℕ → List ℕ) (s : ℕ) → ((x : ℕ) → length (f x) ≡ size) → ((x : ℕ) → length (g x) ≡ size)
      → ((x : ℕ) → (s ≡ x → ⊥) → g x ≡ f x)
      → (k a : ℕ) → a ≤ s → s < a + k → slots g (numbers k a) ≡ sets (slots f (numbers k a)) ((s - a) * size) (g s)
  unfolding slots
  slots_set f g s lf lg same zero a h j = absurd (omega arith)
  slots_set f g s lf lg same (suc k) a h j = ⊎_elim here (λ lt. there lt (slots_set f g s lf lg same k (suc a) lt (omega arith))) (eq-or-lt_of_le h)
    where
      here : a ≡ s → g a ++ slots g (numbers k (suc a)) ≡ sets (f a ++ slots f (numbers k (suc a))) ((s - a) * size) (g s)
      here e =
          let z : s - a ≡ 0 = omega arith in
          let y : 0 * size ≡ 0 = omega arith in
          rw (z, y) (
          ap₂ ◌++◌ (ap g e) (slots_same f g k (suc a) (λ x l. same x (λ q. omega arith)))
          ∙ sym (sets_front (f a) (g s) (slots f (numbers k (suc a))) (lg s ∙ sym (lf a)))
          )

      there : a < s → slots g (numbers k (suc a)) ≡ sets (slots f (numbers k (suc a))) ((s - suc a) * size) (g s)
          → g a ++ slots g (numbers k (suc a)) ≡ sets (f a ++ slots f (numbers k (suc a))) ((s - a) * size) (g s)
      there lt e =
          let z : s - a ≡ suc (s - suc a) = omega arith in
          let y : (s - a) * size ≡ length (f a) + (s - suc a) * size =
          ap (λ (i : ℕ). i * size) z ∙ suc-mul (s - suc a) size ∙ add_comm ((s - suc a) * size) size ∙ ap (λ (i : ℕ). i + (s - suc a) * size) (sym (lf a)) in
          rw y (ap₂ ◌++◌ (same a (λ q. omega arith)) e ∙ sym (sets_behind (f a) (slots f (numbers k (suc a))) (g s) ((s - suc a) * size)))

  -- A sector's slot in the area is its own.
  pub slots_at : (f : ℕ → List ℕ) → ((x : ℕ) → length (f x) ≡ size) → (k a s : ℕ) → a ≤ s → s < a + k
      → take size (drop ((s - a) * size) (slots f (numbers k a))) ≡ f s
  unfolding slots
  slots_at f long zero a s h j = absurd (omega arith)
  slots_at f long (suc k) a s h j = ⊎_elim here (λ lt. there lt (slots_at f long k (suc a) s lt (omega arith))) (eq-or-lt_of_le h)
    where
      more : List ℕ
      more = slots f (numbers k (suc a))

      here : a ≡ s → take size (drop ((s - a) * size) (f a ++ more)) ≡ f s
      here e =
          let z : s - a ≡ 0 = omega arith in
          let y : 0 * size ≡ 0 = omega arith in
          rw (z, y) (take_at (f a) more size (long a) ∙ ap f e)

      there : a < s → take size (drop ((s - suc a) * size) more) ≡ f s → take size (drop ((s - a) * size) (f a ++ more)) ≡ f s
      there lt e =
          let z : s - a ≡ suc (s - suc a) = omega arith in
          let y : (s - a) * size ≡ length (f a) + (s - suc a) * size =
          ap (λ (i : ℕ). i * size) z ∙ suc-mul (s - suc a) size ∙ add_comm ((s - suc a) * size) size ∙ ap (λ (i : ℕ). i + (s - suc a) * size) (sym (long a)) in
          rw (y, ← drop-drop ((s - suc a) * size) (length (f a)) (f a ++ more), drop_front (f a) more) e
