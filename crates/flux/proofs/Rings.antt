-- The last eight numbers go round in a list: each comes in where the oldest stands. Turned so that the oldest is first, they are the last eight in their
-- order; and what they add up to does not depend on where they stand.
use Rattle.std.proofs.Common.{◌≡◌, ℕ, suc, ◌+◌, ◌%◌, ◌<◌, ◌⊎◌, List, [], ◌∷◌, ◌++◌, length, take, drop, set, sym, ap, ◌∙◌, ⊎_elim, append_assoc, append-nil, eq-or-lt_of_le, arith, drop_of_length-le, drop-cons, take-suc-set, drop-set-lt}
use lib.Seq.{set_split}
use Rattle.std.specs.List.{sum}
use Rattle.std.proofs.lemmas.List.Sums.{sum_by-append, sum_by-take-drop}
use Rattle.flux.specs.Intervals.{renewed}

-- The list from place k on, and then what stands before it.
abbrev pub turned : (k : ℕ) → List ℕ → List ℕ
turned k xs = drop k xs ++ take k xs

pub sum_turned : (k : ℕ) (xs : List ℕ) → sum (turned k xs) ≡ sum xs
sum_turned k xs =
    let e = sum_by-append (λ x. x) (drop k xs) (take k xs) in
    let f = sum_by-take-drop (λ x. x) xs k in
    omega arith

-- ---- one more comes in

-- Behind place k: the oldest of the turned list stands there.
came : (k x : ℕ) (xs : List ℕ) → k < length xs → renewed (turned k xs) x ≡ drop (suc k) xs ++ (take k xs ++ (x ∷ []))
came k x xs h =
    ap (λ (ys : List ℕ). renewed (ys ++ take k xs) x) (drop-cons xs k 0 h) ∙ append_assoc (drop (suc k) xs) (take k xs) (x ∷ [])

pub renew_turned : (n x : ℕ) (xs : List ℕ) → length xs ≡ 8 → renewed (turned (n % 8) xs) x ≡ turned ((n + 1) % 8) (set xs (n % 8) x)
renew_turned n x xs e = go (eq-or-lt_of_le (omega arith))
  where
    k : ℕ
    k = n % 8

    h : k < length xs
    h = omega (arith, e)

    last : k ≡ 7 → turned ((n + 1) % 8) (set xs k x) ≡ take k xs ++ (x ∷ [])
    last f =
        let z : (n + 1) % 8 ≡ 0 = omega arith in
        let d : drop (suc k) xs ≡ [] = drop_of_length-le xs {i = suc k} (omega (arith, e)) in
        rw z (append-nil (set xs k x) ∙ set_split xs k x h ∙ rw d)

    next : k < 7 → turned ((n + 1) % 8) (set xs k x) ≡ drop (suc k) xs ++ (take k xs ++ (x ∷ []))
    next l =
        let z : (n + 1) % 8 ≡ suc k = omega arith in
        rw (z, drop-set-lt (suc k) xs k x (omega arith), take-suc-set xs k x h)

    go : (k ≡ 7) ⊎ (k < 7) → renewed (turned k xs) x ≡ turned ((n + 1) % 8) (set xs k x)
    go s =
        ⊎_elim
        (λ f.
        let d : drop (suc k) xs ≡ [] = drop_of_length-le xs {i = suc k} (omega (arith, e)) in
        came k x xs h ∙ rw d (sym (last f)))
        (λ l. came k x xs h ∙ sym (next l))
        s
