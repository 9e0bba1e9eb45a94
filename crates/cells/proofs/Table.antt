-- A table's rule, proved once for every table: a table that computes to f at 0, 1, 2 and so on holds f k at k.
-- And what holds at every number below n, from one test that the checker computes.
use Rattle.std.proofs.Common.{◌≡◌, ℕ, zero, suc, ◌+◌, ◌<◌, Bool, true, false, T, List, [], ◌∷◌, get_or, sym, ap, ◌∙◌, subst, ⊎_elim, le_of_suc-le-suc, not-suc-le-zero, add-zero, add-suc, suc-add, eq-or-lt_of_le, zero-add}

-- The n values of f from i on.
abbrev values : (ℕ → ℕ) → ℕ → ℕ → List ℕ
values f zero i = []
values f (suc n) i = f i ∷ values f n (suc i)

-- The table of f with n places.
abbrev pub table : (ℕ → ℕ) → ℕ → List ℕ
table f n = values f n 0

values_at : (f : ℕ → ℕ) (n i k : ℕ) → k < n → get_or (values f n i) k 0 ≡ f (i + k)
values_at f zero i k h = absurd (not-suc-le-zero h)
values_at f (suc n) i zero h = ap f (sym (add-zero i))
values_at f (suc n) i (suc k) h = values_at f n (suc i) k (le_of_suc-le-suc h) ∙ ap f (suc-add i k ∙ sym (add-suc i k))

pub table_at : (f : ℕ → ℕ) (n k : ℕ) → k < n → get_or (table f n) k 0 ≡ f k
table_at f n k h = values_at f n 0 k h ∙ ap f (zero-add k)

-- ---- what holds below n

abbrev pub both : Bool → Bool → Bool
both true b = b
both false b = false

both_left : (a b : Bool) → T (both a b) → T a
both_left true b t = tt
both_left false b t = t

both_right : (a b : Bool) → T (both a b) → T b
both_right true b t = t
both_right false b t = absurd t

-- The test holds at each number below n.
abbrev pub all : (ℕ → Bool) → ℕ → Bool
all f zero = true
all f (suc n) = both (f n) (all f n)

pub all_at : (f : ℕ → Bool) (n : ℕ) → T (all f n) → (k : ℕ) → k < n → T (f k)
all_at f zero t k h = absurd (not-suc-le-zero h)
all_at f (suc n) t k h =
    ⊎_elim (λ e. subst (λ (j : ℕ). T (f j)) (sym e) (both_left (f n) (all f n) t))
    (λ l. all_at f n (both_right (f n) (all f n) t) k l)
    (eq-or-lt_of_le (le_of_suc-le-suc h))
