-- The cells of MFM go at a pace: from a 1 to the next there are two, three or four cells. The state is how many zeros follow the last 1; each coded byte
-- and each mark keeps it, which one computed test tells.
use mathlib.Core.Path.{◌≡◌, refl, sym, ap, subst, ◌∙◌}
use mathlib.Core.Bool.{Bool, true, false, cond}
use mathlib.Core.List.{List, [], ◌∷◌, ◌++◌}
use Prim.Native.Nat.{ℕ, zero, suc, ◌+◌, ◌/◌, ◌%◌, ◌<◌, ◌≤◌}
use native.Mathlib.Nat.{zero-div, div-one}
use native.Mathlib.Omega.{arith}
use borrow.Author.Tests.{eq-eqb, ne_eqb, leb-true}
use lib.Dec.{T, eqb, leb, lit≤}
use lib.ListN.{drop}
use Rattle.cells.specs.Cells.{cell, clock}
use Rattle.cells.specs.declared.Mode.TheVariants.{Mfm}
use Rattle.cells.proofs.Table.{all_at}
use Rattle.coding.specs.Coding.{four, high, low}
use Rattle.marks.specs.Marks.{string, last_bit}
use Rattle.marks.specs.declared.Mark.{Mark}
use Rattle.marks.specs.declared.Mark.TheVariants.{Index, Identifier, Data, Control, Open}
use Rattle.format.specs.Order.{Symbol, plain, mark, image}
use Rattle.flux.proofs.Ones.{listed}

-- ---- the cells of bytes, as a list

abbrev pub cells_in : List ℕ → List ℕ
cells_in [] = []
cells_in (x ∷ xs) =
    x / 128 % 2 ∷ x / 64 % 2 ∷ x / 32 % 2 ∷ x / 16 % 2 ∷ x / 8 % 2 ∷ x / 4 % 2 ∷ x / 2 % 2 ∷ x % 2 ∷ cells_in xs

pub cells_in_lem : (xs : List ℕ) (i : ℕ) → listed (cells_in xs) i ≡ cell xs i
unfolding cell
cells_in_lem [] i = sym (rw zero-div)
cells_in_lem (x ∷ xs) zero = refl
cells_in_lem (x ∷ xs) (suc zero) = refl
cells_in_lem (x ∷ xs) (suc (suc zero)) = refl
cells_in_lem (x ∷ xs) (suc (suc (suc zero))) = refl
cells_in_lem (x ∷ xs) (suc (suc (suc (suc zero)))) = refl
cells_in_lem (x ∷ xs) (suc (suc (suc (suc (suc zero))))) = refl
cells_in_lem (x ∷ xs) (suc (suc (suc (suc (suc (suc zero)))))) = refl
cells_in_lem (x ∷ xs) (suc (suc (suc (suc (suc (suc (suc zero))))))) = ap (λ (y : ℕ). y % 2) (sym (div-one x))
cells_in_lem (x ∷ xs) (suc (suc (suc (suc (suc (suc (suc (suc i)))))))) =
    let n : ℕ = suc (suc (suc (suc (suc (suc (suc (suc i))))))) in
    let d : n / 8 ≡ suc (i / 8) = omega arith in
    let m : n % 8 ≡ i % 8 = omega arith in
    cells_in_lem xs i ∙ rw (d, m)

cells_append : (xs ys : List ℕ) → cells_in (xs ++ ys) ≡ cells_in xs ++ cells_in ys
cells_append [] ys = refl
cells_append (x ∷ xs) ys = rw (cells_append xs ys)

-- ---- the pace

-- One cell more, after z zeros; 9 where no pace is kept any more.
abbrev next : (z x : ℕ) → ℕ
next z x = cond (eqb x 1) (cond (leb 1 z) (cond (leb z 3) 0 9) 9) (cond (leb z 2) (suc z) 9)

abbrev pub pace : (z : ℕ) → List ℕ → ℕ
pace z [] = z
pace z (x ∷ xs) = pace (next z x) xs

pace_append : (z : ℕ) (xs ys : List ℕ) → pace z (xs ++ ys) ≡ pace (pace z xs) ys
pace_append z [] ys = refl
pace_append z (x ∷ xs) ys = pace_append (next z x) xs ys

-- Once lost, it stays so.
pace_lost : (xs : List ℕ) → pace 9 xs ≡ 9
pace_lost [] = refl
pace_lost (x ∷ xs) = go (eqb x 1) (pace_lost xs)
  where
    go : (b : Bool) → pace 9 xs ≡ 9 → pace (cond b 9 9) xs ≡ 9
    go true e = e
    go false e = e

not_lost : (z : ℕ) (xs : List ℕ) → pace z xs ≤ 3 → z ≡ 9 → ⊥
not_lost z xs h e = let k : pace z xs ≡ 9 = ap (λ (y : ℕ). pace y xs) e ∙ pace_lost xs in absurd (omega arith)

-- A 1 is kept pace with after one to three zeros, and a 0 after two at the most.
after_one : (z x : ℕ) → x ≡ 1 → (next z x ≡ 9 → ⊥) → (1 ≤ z) × (z ≤ 3) × (next z x ≡ 0)
after_one z x e n = go (leb 1 z) (leb z 3) refl refl
  where
    go : (a b : Bool) → leb 1 z ≡ a → leb z 3 ≡ b → (1 ≤ z) × (z ≤ 3) × (next z x ≡ 0)
    go true true p q = (leb-true 1 z p, leb-true z 3 q, rw (eq-eqb x 1 e, p, q))
    go true false p q = absurd (n (rw (eq-eqb x 1 e, p, q)))
    go false b p q = absurd (n (rw (eq-eqb x 1 e, p)))

after_zero : (z x : ℕ) → x ≡ 0 → (next z x ≡ 9 → ⊥) → (z ≤ 2) × (next z x ≡ suc z)
after_zero z x e n = go (leb z 2) refl
  where
    other : eqb x 1 ≡ false
    other = ne_eqb x 1 (λ f. absurd (omega arith))

    go : (b : Bool) → leb z 2 ≡ b → (z ≤ 2) × (next z x ≡ suc z)
    go true p = (leb-true z 2 p, rw (other, p))
    go false p = absurd (n (rw (other, p)))

-- ---- what a list of cells at the pace is like

-- The first 1 comes in time,
pub first_in_time : (z d : ℕ) (xs : List ℕ) → pace z xs ≤ 3 → listed xs d ≡ 1 → ((e : ℕ) → e < d → listed xs e ≡ 0) → (1 ≤ z + d) × (z + d ≤ 3)
first_in_time z d [] h one none = absurd (omega arith)
first_in_time z zero (x ∷ xs) h one none =
    let a = after_one z x one (not_lost (next z x) xs h) in
    (omega (arith, a.0), omega (arith, a.1))
first_in_time z (suc d) (x ∷ xs) h one none =
    let a = after_zero z x (none 0 (omega arith)) (not_lost (next z x) xs h) in
    let r = first_in_time (suc z) d xs (subst (λ (y : ℕ). pace y xs ≤ 3) a.1 h) one (λ e k. none (suc e) (omega arith)) in
    (omega (arith, r.0), omega (arith, r.1))

-- and behind a 1 the pace begins anew.
pub anew : (z i : ℕ) (xs : List ℕ) → pace z xs ≤ 3 → listed xs i ≡ 1 → pace 0 (drop (suc i) xs) ≤ 3
anew z i [] h one = absurd (omega arith)
anew z zero (x ∷ xs) h one =
    let a = after_one z x one (not_lost (next z x) xs h) in
    subst (λ (y : ℕ). pace y xs ≤ 3) a.2 h
anew z (suc i) (x ∷ xs) h one = anew (next z x) i xs h one

-- ---- what is coded keeps it

-- After the data bit a, so many zeros follow the last 1: none after a ONE, one or two after a ZERO.
pub data Fits : ℕ → ℕ → Type 0 where
  one : Fits 1 0
  near : Fits 0 1
  far : Fits 0 2

abbrev fits : (a z : ℕ) → Bool
fits a z = cond (eqb a 1) (eqb z 0) (cond (eqb z 1) true (eqb z 2))

fitting : (a z : ℕ) → a < 2 → T (fits a z) → Fits a z
fitting zero zero h t = absurd t
fitting zero (suc zero) h t = near
fitting zero (suc (suc zero)) h t = far
fitting zero (suc (suc (suc z))) h t =
    absurd (rw (ne_eqb (suc (suc (suc z))) 1 (λ e. absurd (omega arith)), ne_eqb (suc (suc (suc z))) 2 (λ e. absurd (omega arith))) at t)
fitting (suc zero) zero h t = one
fitting (suc zero) (suc z) h t = absurd (rw (ne_eqb (suc z) 0 (λ e. absurd (omega arith))) at t)
fitting (suc (suc a)) z h t = absurd (omega arith)

-- Two image bytes after z zeros, the last of whose data bits is b.
keeps : (z b first second : ℕ) → Bool
keeps z b first second = fits b (pace z (cells_in (first ∷ second ∷ [])))

-- A coded byte, from each state before it.
abbrev coded : (a z x : ℕ) → Bool
coded a z x = keeps z (x % 2) (high Mfm a x) (low Mfm x)

coded_bytes : (a z x : ℕ) → Fits a z → x < 256 → T (coded a z x)
unfolding keeps high low four clock
coded_bytes a z x one h = all_at (coded 1 0) 256 tt x h
coded_bytes a z x near h = all_at (coded 0 1) 256 tt x h
coded_bytes a z x far h = all_at (coded 0 2) 256 tt x h

-- A byte is coded by its eight bits alone.
same_high : (a x : ℕ) → high Mfm a (x % 256) ≡ high Mfm a x
unfolding high
same_high a x =
    let b8 : x % 256 / 128 % 2 ≡ x / 128 % 2 = omega arith in
    let b7 : x % 256 / 64 % 2 ≡ x / 64 % 2 = omega arith in
    let b6 : x % 256 / 32 % 2 ≡ x / 32 % 2 = omega arith in
    let b5 : x % 256 / 16 % 2 ≡ x / 16 % 2 = omega arith in
    rw (b8, b7, b6, b5)

same_low : (x : ℕ) → low Mfm (x % 256) ≡ low Mfm x
unfolding low
same_low x =
    let b5 : x % 256 / 16 % 2 ≡ x / 16 % 2 = omega arith in
    let b4 : x % 256 / 8 % 2 ≡ x / 8 % 2 = omega arith in
    let b3 : x % 256 / 4 % 2 ≡ x / 4 % 2 = omega arith in
    let b2 : x % 256 / 2 % 2 ≡ x / 2 % 2 = omega arith in
    let b1 : x % 256 % 2 ≡ x % 2 = omega arith in
    rw (b5, b4, b3, b2, b1)

coded_any : (a z x : ℕ) → Fits a z → T (coded a z x)
coded_any a z x f =
    let same : x % 256 % 2 ≡ x % 2 = omega arith in
    let e : coded a z (x % 256) ≡ coded a z x =
    ap (λ (b : ℕ). keeps z b (high Mfm a (x % 256)) (low Mfm (x % 256))) same
    ∙ ap (λ (y : ℕ). keeps z (x % 2) y (low Mfm (x % 256))) (same_high a x)
    ∙ ap (λ (y : ℕ). keeps z (x % 2) (high Mfm a x) y) (same_low x) in
    subst T e (coded_bytes a z (x % 256) f (omega arith))

coded_fits : (a z x : ℕ) → Fits a z → Fits (x % 2) (pace z (cells_in (high Mfm a x ∷ low Mfm x ∷ [])))
unfolding keeps
coded_fits a z x f = fitting (x % 2) (pace z (cells_in (high Mfm a x ∷ low Mfm x ∷ []))) (omega arith) (coded_any a z x f)

-- A mark, from each state before it.
marked : (m : Mark) (a z : ℕ) → Fits a z → Fits (last_bit m) (pace z (cells_in (string Mfm m)))
marked Index a z one = near
marked Index a z near = near
marked Index a z far = near
marked Identifier a z one = far
marked Identifier a z near = far
marked Identifier a z far = far
marked Data a z one = one
marked Data a z near = one
marked Data a z far = one
marked Control a z one = near
marked Control a z near = near
marked Control a z far = near
marked Open a z one = one
marked Open a z near = one
marked Open a z far = one

small : (a z : ℕ) → Fits a z → z ≤ 3
small a z one = lit≤ tt
small a z near = lit≤ tt
small a z far = lit≤ tt

-- All that is coded in MFM goes at the pace.
pub symbols_paced : (ss : List Symbol) (a z : ℕ) → Fits a z → pace z (cells_in (image Mfm a ss)) ≤ 3
unfolding image
symbols_paced [] a z f = small a z f
symbols_paced (plain x ∷ ss) a z f = symbols_paced ss (x % 2) _ (coded_fits a z x f)
symbols_paced (mark m ∷ ss) a z f =
    rw (cells_append (string Mfm m) (image Mfm (last_bit m) ss), pace_append z (cells_in (string Mfm m)) (cells_in (image Mfm (last_bit m) ss)))
    (symbols_paced ss (last_bit m) _ (marked m a z f))
