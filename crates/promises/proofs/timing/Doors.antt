-- Flux timings, of the exported function: it answers by its tests, and a refusal leaves zeros.
use mathlib.Core.Path.{◌≡◌, refl, sym, ap, ap₂, ◌∙◌}
use mathlib.Core.List.{List, [], ◌∷◌}
use Prim.Native.Nat.{ℕ, ◌-◌, ◌≤◌}
use native.Mathlib.Omega.{arith}
use lib.ListN.{length, get_or, replicate}
use Rattle.std.proofs.Common.{Result, Ok, Err}
use Rattle.verdicts.specs.Tests.{Verdict, passed, refused, refusal, by}
use Rattle.verdicts.proofs.Tests.{exactly, by_map}
use Rattle.flux.specs.Intervals.{halves_of}
use Rattle.flux.specs.Images.{cells_of, image_of}
use Rattle.flux.specs.Outcomes.{lay_answer, lay_image}
use Rattle.flux.specs.Refusals.{refusal_number, interval_number, lay_tests}
use Rattle.flux.specs.declared.Refusal.{Refusal}
use Rattle.flux.specs.declared.Refusal.TheVariants.{TicksNumber, NoStamps, NoBand, PastImage}
use Rattle.station.specs.Numbers.{number_of}
use Rattle.station.specs.Timings.{laid_numbers}
use Rattle.promises.specs.Timings.{FluxNumbersApart, FluxDoorRefuses, RefusedFluxGivesZeros}

-- ---- the numbers

refusal_of : (number interval : ℕ) → Refusal
refusal_of number interval = get_or (TicksNumber ∷ NoStamps ∷ NoBand interval ∷ PastImage ∷ []) (number - 41) TicksNumber

back : (f : Refusal) → refusal_of (refusal_number f) (interval_number f) ≡ f
unfolding refusal_of
back TicksNumber = refl
back NoStamps = refl
back (NoBand interval) = refl
back PastImage = refl

pub flux_numbers_apart : FluxNumbersApart
flux_numbers_apart a b e f = sym (back a) ∙ ap₂ refusal_of e f ∙ back b

-- ---- the refusals

-- The two numbers that tell a refusal.
abbrev told : Result ℕ Refusal → ℕ × ℕ
told a = (number_of refusal_number a, get_or (laid_numbers a) 1 0)

abbrev tells : Refusal → ℕ × ℕ
tells f = (refusal_number f, interval_number f)

both : {a b c d : ℕ} → a ≡ c → b ≡ d → ◌≡◌ {A = ℕ × ℕ} (a, b) (c, d)
both p q = rw (p, q)

first : {a b c d : ℕ} → ◌≡◌ {A = ℕ × ℕ} (a, b) (c, d) → a ≡ c
first e = ap (λ (o : ℕ × ℕ). o.0) e

second : {a b c d : ℕ} → ◌≡◌ {A = ℕ × ℕ} (a, b) (c, d) → b ≡ d
second e = ap (λ (o : ℕ × ℕ). o.1) e

some_number : (f : Refusal) → 41 ≤ refusal_number f
some_number TicksNumber = omega arith
some_number NoStamps = omega arith
some_number (NoBand interval) = omega arith
some_number PastImage = omega arith

none : (f : Refusal) → ◌≡◌ {A = ℕ × ℕ} (0, 0) (tells f) → ⊥
none f e = let k = some_number f in let z = first e in absurd (omega arith)

pub flux_door_refuses : FluxDoorRefuses
unfolding lay_answer
flux_door_refuses ticks stamps bytes number image result p f =
    let v = refusal (lay_tests ticks stamps bytes) in
    let cells : Result ℕ Refusal = Ok (length (cells_of (halves_of ticks stamps))) in
    let e : ◌≡◌ {A = ℕ × ℕ} (number, get_or result 1 0) (by v (0, 0) tells) =
    both p.numbered (ap (λ (xs : List ℕ). get_or xs 1 0) p.counted) ∙ by_map told v cells Err in
    let exact = exactly {A = ℕ × ℕ} (0, 0) tells none (λ g f e. flux_numbers_apart g f (first e) (second e)) (lay_tests ticks stamps bytes) (number, get_or result 1 0) e f in (
      λ q. exact.0 (both q.0 q.1),
      λ r. (first (exact.1 r), second (exact.1 r)),
    )

pub refused_flux_gives_zeros : RefusedFluxGivesZeros
unfolding lay_answer lay_image by
refused_flux_gives_zeros ticks stamps bytes number image result p h =
    go (refusal (lay_tests ticks stamps bytes)) p.numbered p.leaves p.counted
  where
    go : (v : Verdict Refusal) → number ≡ number_of refusal_number (by v (Ok (length (cells_of (halves_of ticks stamps)))) Err)
        → image ≡ by v (image_of bytes (cells_of (halves_of ticks stamps))) (λ f. replicate bytes 0)
        → result ≡ laid_numbers (by v (Ok (length (cells_of (halves_of ticks stamps)))) Err)
        → (image ≡ replicate bytes 0) × (get_or result 0 0 ≡ 0)
    go passed n i r = absurd (h n)
    go (refused f) n i r = (i, ap (λ (xs : List ℕ). get_or xs 0 0) r)
