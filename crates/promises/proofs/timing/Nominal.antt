-- Stamps of places at their nominal times: where the places stand two, three or four apart, each interval is judged as the half cells between them, since
-- the last eight always have the nominal speed.
use mathlib.Core.Path.{◌≡◌, refl, sym, ap, ◌∙◌}
use mathlib.Core.List.{List, [], ◌∷◌, ◌++◌, map}
use mathlib.Core.Logic.{◌⊎◌, inl, inr}
use Prim.Native.Nat.{ℕ, zero, suc, ◌+◌, ◌-◌, ◌*◌, ◌%◌, ◌<◌, ◌≤◌}
use native.Mathlib.Nat.{mul_assoc, mul_comm, mul-add, mul-le-mul, mul-zero}
use native.Mathlib.Omega.{arith}
use lib.ListN.{drop}
use Rattle.std.specs.List.{sum}
use Rattle.std.proofs.lemmas.List.Sums.{sum_by-append, sum_by-cons}
use Rattle.flux.specs.Intervals.{counter_run, Recent, between, since, band, at_start, accepted, renewed, halves_from}
use Rattle.flux.proofs.Ends.{two, three, four}
use Rattle.flux.proofs.Left.{from_more}

-- ---- places

-- Places that follow the place l, each two, three or four behind the one before.
abbrev pub Steps : (l : ℕ) → List ℕ → Type 0
Steps l [] = Unit {0}
Steps l (p ∷ ps) = (l + 2 ≤ p) × (p ≤ l + 4) × Steps p ps

-- How far each stands behind the one before.
abbrev pub gaps : (l : ℕ) → List ℕ → List ℕ
gaps l [] = []
gaps l (p ∷ ps) = (p - l) ∷ gaps p ps

-- Two, three or four.
Few : ℕ → Type 0
Few h = (h ≡ 2) ⊎ ((h ≡ 3) ⊎ (h ≡ 4))

few : (h : ℕ) → 2 ≤ h → h ≤ 4 → Few h
unfolding Few
few zero a b = absurd (omega arith)
few (suc zero) a b = absurd (omega arith)
few (suc (suc zero)) a b = inl refl
few (suc (suc (suc zero))) a b = inr (inl refl)
few (suc (suc (suc (suc zero)))) a b = inr (inr refl)
few (suc (suc (suc (suc (suc h))))) a b = absurd (omega arith)

-- The stamp of a place, where a cell takes half the ticks of a nominal cell.
abbrev pub stamp : (half start p : ℕ) → ℕ
stamp half start p = (start + half * p) % counter_run

-- ---- the nominal speed

module _ (half : ℕ) (some : 1 ≤ half) where
  -- Each of the last eight took the nominal time, and there is one.
  pub record AtSpeed (r : Recent) : Type 0 where
    pub each : r.ticks ≡ map (λ h. half * h) r.halves
    pub filled : 1 ≤ sum r.halves

  sum_each : (hs : List ℕ) → sum (map (λ h. half * h) hs) ≡ half * sum hs
  sum_each [] = sym (mul-zero half)
  sum_each (h ∷ hs) =
      sum_by-cons (λ x. x) (half * h) (map (λ h. half * h) hs) ∙ ap (λ (x : ℕ). half * h + x) (sum_each hs) ∙ sym (mul-add half h (sum hs))
      ∙ ap (λ (x : ℕ). half * x) (sym (sum_by-cons (λ x. x) h hs))

  -- So an interval of h half cells is in the band of h.
  scaled : (h H : ℕ) → 100 * (half * h) * H ≡ 100 * h * (half * H)
  scaled h H =
      ap (λ (x : ℕ). x * H) (ap (λ (x : ℕ). 100 * x) (mul_comm half h) ∙ sym (mul_assoc 100 h half)) ∙ mul_assoc (100 * h) half H

  in_band : (H h : ℕ) → 1 ≤ H → Few h → band (half * H) H (half * h) ≡ h
  unfolding Few
  in_band H h n f = go f
    where
      positive : 1 ≤ half * H
      positive = mul-le-mul some n

      go : (h ≡ 2) ⊎ ((h ≡ 3) ⊎ (h ≡ 4)) → band (half * H) H (half * h) ≡ h
      go (inl e) =
          let q : 100 * (half * 2) * H ≡ 200 * (half * H) = scaled 2 H in
          rw e (two (half * H) H (half * 2) (omega (arith, q)) (omega (arith, q)))
      go (inr (inl e)) =
          let q : 100 * (half * 3) * H ≡ 300 * (half * H) = scaled 3 H in
          rw e (three (half * H) H (half * 3) (omega (arith, q)) (omega (arith, q)) (omega (arith, q, positive)))
      go (inr (inr e)) =
          let q : 100 * (half * 4) * H ≡ 400 * (half * H) = scaled 4 H in
          rw e (four (half * H) H (half * 4) (omega (arith, q)) (omega (arith, q)) (omega (arith, q, positive)))

  -- And the last eight stay at that speed.
  each_append : (xs : List ℕ) (h : ℕ) → map (λ h. half * h) xs ++ (half * h ∷ []) ≡ map (λ h. half * h) (xs ++ (h ∷ []))
  each_append [] h = refl
  each_append (x ∷ xs) h = ap (λ (ys : List ℕ). half * x ∷ ys) (each_append xs h)

  each_renewed : (hs : List ℕ) (h : ℕ) → renewed (map (λ h. half * h) hs) (half * h) ≡ map (λ h. half * h) (renewed hs h)
  each_renewed [] h = refl
  each_renewed (x ∷ xs) h = each_append xs h

  stays : (r : Recent) (h : ℕ) → 1 ≤ h → AtSpeed r → AtSpeed (accepted r (half * h) h)
  stays r h n a =
      let t = sum_by-append (λ x. x) (drop 1 r.halves) (h ∷ []) in
      record {
        each = ap (λ (xs : List ℕ). renewed xs (half * h)) a.each ∙ each_renewed r.halves h;
        filled = omega (arith, t);
      }

  pub start_speed : AtSpeed (at_start (half * 2))
  start_speed = record { each = refl; filled = omega arith }

  -- ---- stamps

  module _ (few-ticks : half ≤ 512) (start : ℕ) where
    over : (s X D : ℕ) → D < 4294967296 → ((s + (X + D)) % 4294967296 + 4294967296 - (s + X) % 4294967296) % 4294967296 ≡ D
    over s X D h = omega arith

    interval : (l h : ℕ) → h ≤ 4 → between (stamp half start l) (stamp half start (l + h)) ≡ half * h
    interval l h k =
        let small : half * h ≤ 2048 = mul-le-mul few-ticks k in
        ap (λ (x : ℕ). ((start + x) % counter_run + counter_run - (start + half * l) % counter_run) % counter_run) (mul-add half l h)
        ∙ over start (half * l) (half * h) (omega arith)

    pub judged : (r : Recent) (l : ℕ) (ps : List ℕ) → AtSpeed r → Steps l ps → halves_from r (since (stamp half start l) (map (stamp half start) ps)) ≡ gaps l ps
    unfolding since halves_from
    judged r l [] a s = refl
    judged r l (p ∷ ps) a s =
        let h : ℕ = p - l in
        let e : l + h ≡ p = omega (arith, s.0) in
        let is : between (stamp half start l) (stamp half start p) ≡ half * h = ap (λ (x : ℕ). between (stamp half start l) (stamp half start x)) (sym e) ∙ interval l h (omega (arith, s.1)) in
        let f : Few h = few h (omega (arith, s.0)) (omega (arith, s.1)) in
        let T : sum r.ticks ≡ half * sum r.halves = ap sum a.each ∙ sum_each r.halves in
        let b : band (sum r.ticks) (sum r.halves) (half * h) ≡ h =
        ap (λ (x : ℕ). band x (sum r.halves) (half * h)) T ∙ in_band (sum r.halves) h a.filled f in
        ap (λ (x : ℕ). halves_from r (x ∷ since (stamp half start p) (map (stamp half start) ps))) is
        ∙ from_more r (half * h) (since (stamp half start p) (map (stamp half start) ps)) h b (omega (arith, s.0))
        ∙ ap (λ (hs : List ℕ). h ∷ hs) (judged (accepted r (half * h) h) p ps (stays r h (omega (arith, s.0)) a) s.2)
