-- A capture that comes as a stream: a refusal that was met stands whatever follows, and more stamps than the image takes are always refused.
use mathlib.Core.Path.{◌≡◌, refl, ap, ◌∙◌}
use mathlib.Core.Bool.{Bool, true, false, cond}
use mathlib.Core.List.{List, [], ◌∷◌, ◌++◌}
use Prim.Native.Nat.{ℕ, suc, ◌+◌, ◌*◌, ◌<◌, ◌≤◌}
use native.Mathlib.Omega.{arith}
use borrow.Author.Tests.{eqb-false, ne_eqb, ltb-false}
use lib.Dec.{eqb, ltb}
use lib.ListN.{length}
use Rattle.verdicts.specs.Tests.{Verdict, passed, refused, refusal}
use Rattle.verdicts.proofs.Tests.{clash, first_passed}
use Rattle.std.specs.List.{sum}
use Rattle.flux.specs.Intervals.{Recent, between, since, intervals, within, band, half_cells, at_start, accepted, halves_from}
use Rattle.flux.specs.Images.{runs}
use Rattle.flux.specs.Refusals.{ticks_test, stamps_test, band_test, room_test, interval_tests, lay_tests}
use Rattle.flux.specs.declared.Refusal.{Refusal}
use Rattle.flux.specs.declared.Refusal.TheVariants.{TicksNumber, NoStamps, PastImage}
use Rattle.flux.proofs.Left.{length_run, runs_fit}
use Rattle.promises.specs.Timings.{CaptureStands}

-- ---- what was met stands

since_append : (s : ℕ) (ss more : List ℕ) → (rest : List ℕ) × (since s (ss ++ more) ≡ since s ss ++ rest)
unfolding since
since_append s [] more = (since s more, refl)
since_append s (n ∷ ss) more = let r = since_append n ss more in (r.0, ap (λ (xs : List ℕ). between s n ∷ xs) r.1)

-- Behind an interval that is in a band, what follows decides, or its cells do.
behind : (room cells number h : ℕ) (xs ys : List ℕ) (f : Refusal) → eqb h 0 ≡ false
    → (refusal (interval_tests room (cells + h) (suc number) xs) ≡ refused f → refusal (interval_tests room (cells + h) (suc number) ys) ≡ refused f)
    → refusal (interval_tests room cells number (h ∷ xs)) ≡ refused f
    → refusal (interval_tests room cells number (h ∷ ys)) ≡ refused f
unfolding interval_tests refusal
behind room cells number h xs ys f q rest e = rw q (go (ltb room (cells + h)) (rw q at e))
  where
    go : (b : Bool) → cond b (refused PastImage) (refusal (interval_tests room (cells + h) (suc number) xs)) ≡ refused f
        → cond b (refused PastImage) (refusal (interval_tests room (cells + h) (suc number) ys)) ≡ refused f
    go true e = e
    go false e = rest e

stands : (room cells number : ℕ) (r : Recent) (is more : List ℕ) (f : Refusal) → refusal (interval_tests room cells number (halves_from r is)) ≡ refused f
    → refusal (interval_tests room cells number (halves_from r (is ++ more))) ≡ refused f
unfolding halves_from interval_tests refusal
stands room cells number r [] more f e = absurd (clash cc)
stands room cells number r (i ∷ is) more f e =
    go (half_cells r i) (eqb (half_cells r i) 0) refl (stands room (cells + half_cells r i) (suc number) (accepted r i (half_cells r i)) is more f) e
  where
    go : (h : ℕ) (b : Bool) → eqb h 0 ≡ b
        → (refusal (interval_tests room (cells + h) (suc number) (halves_from (accepted r i h) is)) ≡ refused f
        → refusal (interval_tests room (cells + h) (suc number) (halves_from (accepted r i h) (is ++ more))) ≡ refused f)
        → refusal (interval_tests room cells number (cond b (0 ∷ []) (h ∷ halves_from (accepted r i h) is))) ≡ refused f
        → refusal (interval_tests room cells number (cond b (0 ∷ []) (h ∷ halves_from (accepted r i h) (is ++ more)))) ≡ refused f
    go h true q rest e = e
    go h false q rest e = behind room cells number h (halves_from (accepted r i h) is) (halves_from (accepted r i h) (is ++ more)) f q rest e

-- The tests before the intervals do not look at what follows the first stamp.
same : (ticks : ℕ) (stamps more : List ℕ) (bytes : ℕ) (f : Refusal) → (f ≡ NoStamps → ⊥) → refusal (lay_tests ticks stamps bytes) ≡ refused f
    → refusal (lay_tests ticks (stamps ++ more) bytes) ≡ refused f
unfolding lay_tests refusal intervals
same ticks [] more bytes f n e = go (ticks_test ticks).applies _ e
  where
    go : (b : Bool) (v : Verdict Refusal) → cond b (refused TicksNumber) (refused NoStamps) ≡ refused f → cond b (refused TicksNumber) v ≡ refused f
    go true v e = e
    go false v e = absurd (n cc)
same ticks (s ∷ ss) more bytes f n e =
    let r = since_append s ss more in
    let later = stands (8 * bytes) 1 1 (at_start ticks) (since s ss) r.0 f in
    let here : eqb (suc (length ss)) 0 ≡ false = ne_eqb (suc (length ss)) 0 (λ z. absurd (omega arith)) in
    let there : eqb (suc (length (ss ++ more))) 0 ≡ false = ne_eqb (suc (length (ss ++ more))) 0 (λ z. absurd (omega arith)) in
    rw there
    (go (ticks_test ticks).applies (ltb (8 * bytes) 1)
    (λ q. ap (λ (xs : List ℕ). refusal (interval_tests (8 * bytes) 1 1 (halves_from (at_start ticks) xs))) r.1 ∙ later q)
    (rw here at e))
  where
    go : (b d : Bool) → (refusal (interval_tests (8 * bytes) 1 1 (halves_from (at_start ticks) (since s ss))) ≡ refused f
        → refusal (interval_tests (8 * bytes) 1 1 (halves_from (at_start ticks) (since s (ss ++ more)))) ≡ refused f)
        → cond b (refused TicksNumber) (cond d (refused PastImage) (refusal (interval_tests (8 * bytes) 1 1 (halves_from (at_start ticks) (since s ss))))) ≡ refused f
        → cond b (refused TicksNumber) (cond d (refused PastImage) (refusal (interval_tests (8 * bytes) 1 1 (halves_from (at_start ticks) (since s (ss ++ more)))))) ≡ refused f
    go true d later e = e
    go false true later e = e
    go false false later e = later e

-- ---- how many are enough

refuses : (room cells number : ℕ) → refusal (interval_tests room cells number (0 ∷ [])) ≡ passed → ⊥
unfolding interval_tests refusal
refuses room cells number e = clash cc

tail_passes : (room cells number h : ℕ) (hs : List ℕ) → refusal (interval_tests room cells number (h ∷ hs)) ≡ passed
    → refusal (interval_tests room (cells + h) (suc number) hs) ≡ passed
unfolding interval_tests
tail_passes room cells number h hs e = (first_passed (room_test room (cells + h)) _ (first_passed (band_test number h) _ e).1).1

band_least : (T H I : ℕ) → (band T H I ≡ 0 → ⊥) → 2 ≤ band T H I
unfolding band
band_least T H I n = go (within 160 240 T (100 * I * H)) (within 260 330 T (100 * I * H)) (within 370 450 T (100 * I * H)) n
  where
    go : (a b c : Bool) → (cond {A = ℕ} a 2 (cond b 3 (cond c 4 0)) ≡ 0 → ⊥) → 2 ≤ cond {A = ℕ} a 2 (cond b 3 (cond c 4 0))
    go true b c n = omega arith
    go false true c n = omega arith
    go false false true n = omega arith
    go false false false n = absurd (n refl)

many : (room cells number : ℕ) (r : Recent) (is : List ℕ) → refusal (interval_tests room cells number (halves_from r is)) ≡ passed
    → 2 * length is ≤ length (runs (halves_from r is))
unfolding halves_from
many room cells number r [] e = omega arith
many room cells number r (i ∷ is) e =
    go (half_cells r i) (eqb (half_cells r i) 0) refl (band_least (sum r.ticks) (sum r.halves) i)
    (many room (cells + half_cells r i) (suc number) (accepted r i (half_cells r i)) is) e
  where
    go : (h : ℕ) (b : Bool) → eqb h 0 ≡ b → ((h ≡ 0 → ⊥) → 2 ≤ h)
        → (refusal (interval_tests room (cells + h) (suc number) (halves_from (accepted r i h) is)) ≡ passed
        → 2 * length is ≤ length (runs (halves_from (accepted r i h) is)))
        → refusal (interval_tests room cells number (cond b (0 ∷ []) (h ∷ halves_from (accepted r i h) is))) ≡ passed
        → 2 * suc (length is) ≤ length (runs (cond b (0 ∷ []) (h ∷ halves_from (accepted r i h) is)))
    go h true q least rest e = absurd (refuses room cells number e)
    go h false q least rest e =
        let some = least (eqb-false h 0 q) in
        let long = length_run h (halves_from (accepted r i h) is) (omega arith) in
        let more = rest (tail_passes room cells number h (halves_from (accepted r i h) is) e) in
        omega arith

length_since : (s : ℕ) (ss : List ℕ) → length (since s ss) ≡ length ss
unfolding since
length_since s [] = refl
length_since s (n ∷ ss) = ap suc (length_since n ss)

enough : (ticks : ℕ) (stamps : List ℕ) (bytes : ℕ) → 4 * bytes < length stamps → refusal (lay_tests ticks stamps bytes) ≡ passed → ⊥
unfolding lay_tests intervals
enough ticks [] bytes h pass = absurd (omega arith)
enough ticks (s ∷ ss) bytes h pass =
    let one = first_passed (ticks_test ticks) _ pass in
    let two = first_passed (stamps_test (suc (length ss))) _ one.1 in
    let three = first_passed (room_test (8 * bytes) 1) _ two.1 in
    let halves = halves_from (at_start ticks) (since s ss) in
    let fit = runs_fit (8 * bytes) 1 1 halves (ltb-false (8 * bytes) 1 three.0) three.1 in
    let all = many (8 * bytes) 1 1 (at_start ticks) (since s ss) three.1 in
    let long = length_since s ss in
    absurd (omega arith)

pub capture_stands : CaptureStands
capture_stands = record { same = same; enough = enough }
