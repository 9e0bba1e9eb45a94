-- The turns of the loop over the intervals: what holds at each, what ends the loop, and what it answers then.
use Rattle.std.proofs.Common.{◌≡◌, ℕ, ◌+◌, ◌-◌, ◌*◌, ◌%◌, ◌<◌, ◌≤◌, List, [], ◌∷◌, length, get_or, set, replicate, sym, refl, ap, ◌∙◌, subst, ap₂, arith, Option, None, Some, MatchOption, ok_or, Result, Ok, Err, IsErrAnd}
use Rattle.std.specs.List.{sum}
use Rattle.verdicts.specs.Tests.{by}
use Rattle.verdicts.proofs.Tests.{clash}
use Rattle.flux.specs.declared.Refusal.{Refusal}
use Rattle.flux.specs.declared.Refusal.TheVariants.{NoBand, PastImage}
use Rattle.flux.specs.Intervals.{between, intervals, band, halves_of}
use Rattle.flux.specs.Images.{runs, cells_of}
use Rattle.flux.specs.Aids.{with_one, with_ones, LaysIntervals}
use Rattle.flux.proofs.Left.{left, left_zero, left_more, left_none, Leads, leads_start, leads_zero, leads_more, leads_past, leads_end}

-- What holds before the interval of this number.
pub record Turn (ticks : ℕ) (stamps before image lastTicks lastHalves : List ℕ) (place number : ℕ) : Type 0 where
  pub inside : place < 8 * length before
  pub near : place + 4 ≤ 4 * number
  pub leads : Leads (8 * length before) before (halves_of ticks stamps) image place number (left stamps number lastTicks lastHalves)

-- At the start the eight are alike, so that it is all one where the oldest stands.
start_left : (ticks : ℕ) (stamps : List ℕ) → 1 ≤ length stamps → halves_of ticks stamps ≡ left stamps 1 (replicate 8 ticks) (replicate 8 2)
unfolding left intervals
start_left ticks [] h = absurd (omega arith)
start_left ticks (s ∷ ss) h = refl

pub turn_start : (ticks : ℕ) (stamps before : List ℕ) → 1 ≤ length stamps → 1 ≤ length before
    → Turn ticks stamps before before (replicate 8 ticks) (replicate 8 2) 0 1
turn_start ticks stamps before some room =
    record {
      inside = omega arith;
      near = omega arith;
      leads = subst (Leads _ before (halves_of ticks stamps) before 0 1) (start_left ticks stamps some) leads_start;
    }

-- What `half_cells` answers of sums, under the `?`: its number goes on, and none is refused.
module _ {T H : ℕ} (ticks halves : List ℕ) (sum-ticks : T ≡ sum ticks) (sum-halves : H ≡ sum halves) (I : ℕ) (f : Refusal)
    (o : Option ℕ) {r : Result ℕ Refusal} (told : MatchOption o (band T H I ≡ 0) (λ h. (h ≡ band T H I) × (1 ≤ h) × (h ≤ 4))) (asked : r ≡ ok_or o f) where
  by_sums : band T H I ≡ band (sum ticks) (sum halves) I
  by_sums = ap₂ (λ (x y : ℕ). band x y I) sum-ticks sum-halves

  pub some_halves : (h : ℕ) → r ≡ Ok h → (h ≡ band (sum ticks) (sum halves) I) × (1 ≤ h) × (h ≤ 4)
  some_halves h e = go o told asked
    where
      go : (o : Option ℕ) → MatchOption o (band T H I ≡ 0) (λ h. (h ≡ band T H I) × (1 ≤ h) × (h ≤ 4)) → r ≡ ok_or o f
          → (h ≡ band (sum ticks) (sum halves) I) × (1 ≤ h) × (h ≤ 4)
      go None m a = absurd (clash cc)
      go (Some x) m a = let same : h ≡ x = cc in (same ∙ m.0 ∙ by_sums, omega arith, omega arith)

  pub no_halves : (g : Refusal) {s : Result ℕ Refusal} → r ≡ Err g → IsErrAnd s (λ e. e ≡ g)
      → (0 ≡ band (sum ticks) (sum halves) I) × (s ≡ Err f)
  no_halves g {s} e k = go o s told asked k
    where
      go : (o : Option ℕ) (s : Result ℕ Refusal) → MatchOption o (band T H I ≡ 0) (λ h. (h ≡ band T H I) × (1 ≤ h) × (h ≤ 4))
          → r ≡ ok_or o f → IsErrAnd s (λ e. e ≡ g) → (0 ≡ band (sum ticks) (sum halves) I) × (s ≡ Err f)
      go None (Err x) m a k = let same : x ≡ f = cc in (sym m ∙ by_sums, ap Err same)
      go None (Ok x) m a k = absurd k
      go (Some x) s m a k = absurd (clash cc)

module _ {ticks : ℕ} {stamps before image lastTicks lastHalves : List ℕ} {place number : ℕ}
    (t : Turn ticks stamps before image lastTicks lastHalves place number) where
  module _ (i h : ℕ) (l : number < length stamps) (interval : i ≡ between (get_or stamps (number - 1) 0) (get_or stamps number 0))
      (judged : h ≡ band (sum lastTicks) (sum lastHalves) i) where
    pub turn_zero : h ≡ 0 → LaysIntervals ticks stamps before (Err (NoBand number)) image
    unfolding by
    turn_zero z =
        let refuses = leads_zero (subst (Leads _ before _ image place number) (left_zero stamps number lastTicks lastHalves h i l interval judged z) t.leads) in
        record { answers = rw refuses; leaves = λ p. absurd (clash cc) }

    module _ (n : h ≡ 0 → ⊥) (eight : length lastTicks ≡ 8) (eight-halves : length lastHalves ≡ 8) where
      next_leads : Leads (8 * length before) before (halves_of ticks stamps) image place number
          (h ∷ left stamps (number + 1) (set lastTicks (number % 8) i) (set lastHalves (number % 8) h))
      next_leads =
          subst (Leads _ before _ image place number) (left_more stamps number lastTicks lastHalves h i l interval judged n eight eight-halves) t.leads

      pub turn_past : 8 * length before ≤ place + h → LaysIntervals ticks stamps before (Err PastImage) image
      unfolding by
      turn_past past = let refuses = leads_past h _ n past next_leads in record { answers = rw refuses; leaves = λ p. absurd (clash cc) }

      pub turn_more : {nextImage nextTicks nextHalves : List ℕ} → h ≤ 4 → place + h < 8 * length before → nextImage ≡ with_one image (place + h)
          → nextTicks ≡ set lastTicks (number % 8) i → nextHalves ≡ set lastHalves (number % 8) h
          → Turn ticks stamps before nextImage nextTicks nextHalves (place + h) (number + 1)
      turn_more few room image-is ticks-are halves-are =
          record {
            inside = room;
            near = omega (arith, t.near);
            leads = rw (image-is, ticks-are, halves-are) (leads_more h _ n room next_leads);
          }

  pub turn_end : length stamps ≤ number → LaysIntervals ticks stamps before (Ok (place + 1)) image
  unfolding by with_ones runs
  turn_end h =
      let a = subst (Leads _ before _ image place number) (left_none stamps number lastTicks lastHalves h) t.leads in
      let passes = leads_end a in
      let long : place + 1 ≡ length (cells_of (halves_of ticks stamps)) = omega (arith, a.counted) in
      record { answers = rw passes (ap Ok long); leaves = λ p. sym a.laid }
