-- Laws of coded bytes and of values stored one behind the other: how many there are, and which stands at each place.
use mathlib.Core.Path.{◌≡◌, refl, sym, ap, ◌∙◌}
use mathlib.Core.List.{List, [], ◌∷◌}
use Prim.Native.Nat.{ℕ, zero, suc, ◌+◌, ◌-◌, ◌*◌, ◌%◌, ◌<◌}
use native.Mathlib.Nat.{add-zero}
use native.Mathlib.Omega.{arith}
use lib.ListN.{length, get_or}
use Rattle.coding.specs.Coding.{high, low}
use Rattle.cells.specs.declared.Mode.{Mode}
use Rattle.rewrite.specs.Stores.{no_store, coding, storing}

pub length_coding : (mode : Mode) (b : ℕ) (xs : List ℕ) → length (coding mode b xs) ≡ 2 * length xs
unfolding coding
length_coding mode b [] = refl
length_coding mode b (x ∷ xs) = let e = length_coding mode x xs in omega arith

-- The two image bytes of byte i, coded after the last bit of the byte before it.
pub coding_at : (mode : Mode) (b : ℕ) (xs : List ℕ) (i : ℕ) → i < length xs
    → (high mode (get_or (b ∷ xs) i 0 % 2) (get_or xs i 0) ≡ get_or (coding mode b xs) (2 * i) 0)
    × (low mode (get_or xs i 0) ≡ get_or (coding mode b xs) (2 * i + 1) 0)
unfolding coding
coding_at mode b [] i h = absurd (omega arith)
coding_at mode b (x ∷ xs) zero h = (refl, refl)
coding_at mode b (x ∷ xs) (suc i) h =
    let e : 2 * suc i ≡ suc (suc (2 * i)) = omega arith in
    let f : 2 * suc i + 1 ≡ suc (suc (2 * i + 1)) = omega arith in
    let rest = coding_at mode x xs i (omega arith) in
    let at : ℕ → ℕ = λ k. get_or (coding mode b (x ∷ xs)) k 0 in
    (rest.0 ∙ sym (ap at e), rest.1 ∙ sym (ap at f))

-- The byte before byte i of xs, where b stands before the first.
pub before_at : (b : ℕ) (xs : List ℕ) (i : ℕ) → (i ≡ 0 → ⊥) → get_or xs (i - 1) 0 ≡ get_or (b ∷ xs) i 0
before_at b xs zero h = absurd (h refl)
before_at b xs (suc i) h = let e : suc i - 1 ≡ i = omega arith in rw e

pub length_storing : (at : ℕ) (vs : List ℕ) → length (storing at vs) ≡ length vs
unfolding storing
length_storing at [] = refl
length_storing at (v ∷ vs) = let e = length_storing (suc at) vs in omega arith

pub storing_at : (at : ℕ) (vs : List ℕ) (k : ℕ) → k < length vs → get_or (storing at vs) k no_store ≡ record { byte = at + k; value = get_or vs k 0 }
unfolding storing
storing_at at [] k h = absurd (omega arith)
storing_at at (v ∷ vs) zero h = rw (add-zero at)
storing_at at (v ∷ vs) (suc k) h =
    let e : suc at + k ≡ at + suc k = omega arith in
    rw (← e) (storing_at (suc at) vs k (omega arith))
