-- The loop over the intervals: what is left of them from the present state tells what all of them told from the start.
use Rattle.std.proofs.Common.{◌≡◌, ℕ, suc, ◌+◌, ◌-◌, ◌*◌, ◌%◌, ◌<◌, ◌≤◌, List, [], ◌∷◌, ◌++◌, length, get_or, drop, set, replicate, sym, refl, ap, ◌∙◌, subst, ap₂, append_assoc, append-nil, zero-add, add-one, arith, length-append, drop_of_length-le, drop-cons, ltb-false, le-ltb, lt-ltb, eq-eqb, ne_eqb}
use borrow.Author.Tests.{eqb-false}
use lib.ListN.{length-replicate}
use Rattle.std.specs.List.{sum}
use Rattle.verdicts.specs.Tests.{passed, refused, refusal}
use Rattle.verdicts.proofs.Tests.{first_passed}
use Rattle.flux.specs.declared.Refusal.TheVariants.{NoBand, PastImage}
use Rattle.flux.specs.Intervals.{Recent, between, since, band, accepted, halves_from}
use Rattle.flux.specs.Images.{runs, octets}
use Rattle.flux.specs.Refusals.{band_test, room_test, interval_tests}
use Rattle.flux.specs.Aids.{with_one, with_ones}
use Rattle.flux.proofs.Rings.{turned, sum_turned, renew_turned}
use Rattle.flux.proofs.Ones.{listed, run, run_bits, run_more}

-- ---- what is left of the intervals

-- With the last eight going round, the oldest where this number comes in.
abbrev ringed : (number : ℕ) → (ticks halves : List ℕ) → Recent
ringed number ticks halves = record { ticks = turned (number % 8) ticks; halves = turned (number % 8) halves }

-- The half cells of the intervals from this number on.
unfoldable pub left : (stamps : List ℕ) → (number : ℕ) → (ticks halves : List ℕ) → List ℕ
left stamps number ticks halves = halves_from (ringed number ticks halves) (since (get_or stamps (number - 1) 0) (drop number stamps))

from_zero : (r : Recent) (i : ℕ) (is : List ℕ) → band (sum r.ticks) (sum r.halves) i ≡ 0 → halves_from r (i ∷ is) ≡ 0 ∷ []
unfolding halves_from
from_zero r i is e = rw (eq-eqb _ 0 e)

pub from_more : (r : Recent) (i : ℕ) (is : List ℕ) (h : ℕ) → band (sum r.ticks) (sum r.halves) i ≡ h → (h ≡ 0 → ⊥)
    → halves_from r (i ∷ is) ≡ h ∷ halves_from (accepted r i h) is
unfolding halves_from
from_more r i is h e n = rw (e, ne_eqb h 0 n)

module _ (stamps : List ℕ) (number : ℕ) (ticks halves : List ℕ) (h i : ℕ) where
  -- The interval of this number is the next.
  next_since : number < length stamps → since (get_or stamps (number - 1) 0) (drop number stamps)
      ≡ between (get_or stamps (number - 1) 0) (get_or stamps number 0) ∷ since (get_or stamps number 0) (drop (suc number) stamps)
  unfolding since
  next_since l = ap (since (get_or stamps (number - 1) 0)) (drop-cons stamps number 0 l)

  -- By the sums of the last eight, whichever way they stand.
  by_sums : h ≡ band (sum ticks) (sum halves) i → band (sum (turned (number % 8) ticks)) (sum (turned (number % 8) halves)) i ≡ h
  by_sums e = ap₂ (λ (x y : ℕ). band x y i) (sum_turned (number % 8) ticks) (sum_turned (number % 8) halves) ∙ sym e

  module _ (l : number < length stamps) (interval : i ≡ between (get_or stamps (number - 1) 0) (get_or stamps number 0))
      (judged : h ≡ band (sum ticks) (sum halves) i) where
    told : List ℕ
    told = since (get_or stamps number 0) (drop (suc number) stamps)

    is_next : since (get_or stamps (number - 1) 0) (drop number stamps) ≡ i ∷ told
    unfolding told
    is_next = next_since l ∙ ap (λ (x : ℕ). x ∷ since (get_or stamps number 0) (drop (suc number) stamps)) (sym interval)

    pub left_zero : h ≡ 0 → left stamps number ticks halves ≡ 0 ∷ []
    unfolding left
    left_zero z = ap (halves_from (ringed number ticks halves)) is_next ∙ from_zero (ringed number ticks halves) i told (by_sums judged ∙ z)

    pub left_more : (h ≡ 0 → ⊥) → length ticks ≡ 8 → length halves ≡ 8
        → left stamps number ticks halves ≡ h ∷ left stamps (number + 1) (set ticks (number % 8) i) (set halves (number % 8) h)
    unfolding left told
    left_more n t u =
        let e : number + 1 - 1 ≡ number = omega arith in
        ap (halves_from (ringed number ticks halves)) is_next ∙ from_more (ringed number ticks halves) i told h (by_sums judged) n
        ∙ rw (e, ← renew_turned number i ticks t, ← renew_turned number h halves u, add-one number)

pub left_none : (stamps : List ℕ) (number : ℕ) (ticks halves : List ℕ) → length stamps ≤ number → left stamps number ticks halves ≡ []
unfolding left since halves_from
left_none stamps number ticks halves h = rw (drop_of_length-le stamps {i = number} h)

-- ---- what they lead to

-- From an image in which the cell of a place was put last, half cells that are left, from this number on, lead where all of them led from the start.
pub record Leads (room : ℕ) (before all image : List ℕ) (place number : ℕ) (rest : List ℕ) : Type 0 where
  pub verdict : refusal (interval_tests room 1 1 all) ≡ refusal (interval_tests room (place + 1) number rest)
  pub counted : length (runs all) ≡ place + length (runs rest)
  pub laid : with_ones before 0 all ≡ with_ones image place rest

pub length_run : (h : ℕ) (hs : List ℕ) → 1 ≤ h → length (runs (h ∷ hs)) ≡ h + length (runs hs)
unfolding runs
length_run h hs l =
    let e = length-append {A = ℕ} (replicate (h - 1) 0) (1 ∷ runs hs) in
    let f = length-replicate {A = ℕ} (h - 1) 0 in
    omega arith

module _ {room : ℕ} {before all : List ℕ} where
  pub leads_start : Leads room before all before 0 1 all
  leads_start = record { verdict = refl; counted = sym (zero-add (length (runs all))); laid = refl }

  module _ {image : List ℕ} {place number : ℕ} where
    pub leads_more : (h : ℕ) (hs : List ℕ) → (h ≡ 0 → ⊥) → place + h < room → Leads room before all image place number (h ∷ hs)
        → Leads room before all (with_one image (place + h)) (place + h) (number + 1) hs
    unfolding interval_tests refusal with_ones
    leads_more h hs n l a =
        let e : place + 1 + h ≡ place + h + 1 = omega arith in
        let long = length_run h hs (omega arith) in
        record {
          verdict = a.verdict ∙ rw (ne_eqb h 0 n, le-ltb room (place + 1 + h) (omega arith), e, add-one number);
          counted = a.counted ∙ omega arith;
          laid = a.laid;
        }

    pub leads_zero : Leads room before all image place number (0 ∷ []) → refusal (interval_tests room 1 1 all) ≡ refused (NoBand number)
    unfolding interval_tests refusal
    leads_zero a = a.verdict

    pub leads_past : (h : ℕ) (hs : List ℕ) → (h ≡ 0 → ⊥) → room ≤ place + h → Leads room before all image place number (h ∷ hs)
        → refusal (interval_tests room 1 1 all) ≡ refused PastImage
    unfolding interval_tests refusal
    leads_past h hs n l a = a.verdict ∙ rw (ne_eqb h 0 n, lt-ltb room (place + 1 + h) (omega arith))

    pub leads_end : Leads room before all image place number [] → refusal (interval_tests room 1 1 all) ≡ passed
    unfolding interval_tests refusal
    leads_end a = a.verdict

-- ---- all of them, laid behind cells

-- Half cells that pass the tests have room behind the cells before them.
pub runs_fit : (room cells number : ℕ) (hs : List ℕ) → cells ≤ room → refusal (interval_tests room cells number hs) ≡ passed → cells + length (runs hs) ≤ room
unfolding interval_tests runs
runs_fit room cells number [] h pass = omega arith
runs_fit room cells number (x ∷ hs) h pass =
    let one = first_passed (band_test number x) _ pass in
    let two = first_passed (room_test room (cells + x)) _ one.1 in
    let some : x ≡ 0 → ⊥ = eqb-false x 0 one.0 in
    let long = length_run x hs (omega arith) in
    let rest = runs_fit room (cells + x) (suc number) hs (ltb-false room (cells + x) two.0) two.1 in
    omega arith

-- Half cells that pass the tests, laid one 1 after the other behind cells, are the image of the cells and their runs.
pub laid_behind : (bytes number : ℕ) (cells hs : List ℕ) (place : ℕ) → ((i : ℕ) → listed cells i < 2) → place + 1 ≡ length cells
    → refusal (interval_tests (8 * bytes) (length cells) number hs) ≡ passed
    → with_ones (octets (listed cells) 0 bytes) place hs ≡ octets (listed (cells ++ runs hs)) 0 bytes
unfolding interval_tests with_ones runs
laid_behind bytes number cells [] place bits e pass = rw (append-nil cells)
laid_behind bytes number cells (h ∷ hs) place bits e pass =
    let one = first_passed (band_test number h) _ pass in
    let two = first_passed (room_test (8 * bytes) (length cells + h)) _ one.1 in
    let some : h ≡ 0 → ⊥ = eqb-false h 0 one.0 in
    let fits = ltb-false (8 * bytes) (length cells + h) two.0 in
    let k : place + h ≡ length cells + (h - 1) = omega arith in
    let long : length (cells ++ run (h - 1)) ≡ length cells + h =
    (let a = length-append cells (run (h - 1)) in
    let b = length-append {A = ℕ} (replicate (h - 1) 0) (1 ∷ []) in
    let c = length-replicate {A = ℕ} (h - 1) 0 in
    omega arith) in
    let step = run_more cells (h - 1) bytes bits (omega arith) in
    let rest = laid_behind bytes (suc number) (cells ++ run (h - 1)) hs (place + h) (run_bits cells (h - 1) bits) (omega arith)
    (subst (λ (n : ℕ). refusal (interval_tests (8 * bytes) n (suc number) hs) ≡ passed) (sym long) two.1) in
    ap (λ (xs : List ℕ). with_ones xs (place + h) hs) (ap (with_one (octets (listed cells) 0 bytes)) k ∙ step) ∙ rest
    ∙ ap (λ (xs : List ℕ). octets (listed xs) 0 bytes)
    (append_assoc cells (run (h - 1)) (runs hs) ∙ ap (λ (xs : List ℕ). cells ++ xs) (append_assoc (replicate (h - 1) 0) (1 ∷ []) (runs hs)))
