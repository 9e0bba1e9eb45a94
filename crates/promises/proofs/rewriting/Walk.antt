-- A rewrite, cut at any point, keeps the walk: over the rewritten cells it meets what it met before.
use mathlib.Core.Path.{◌≡◌, refl, ap, ◌∙◌}
use mathlib.Core.List.{List, ◌∷◌}
use mathlib.Core.Logic.{inl, inr, ⊎_elim}
use Prim.Native.Nat.{ℕ, zero, suc, ◌+◌, ◌≤◌}
use native.Mathlib.Omega.{arith}
use Rattle.layouts.specs.declared.Track.{Track}
use Rattle.search.specs.Search.{is_standing}
use Rattle.marks.specs.declared.Mark.{Mark}
use Rattle.search.proofs.Firsts.{first_known}
use Rattle.search.proofs.Searching.{le_or_lt}
use Rattle.search.specs.Search.{either_marks}
use Rattle.walk.specs.Walk.{reach, round, follow, walk, events, Round}
use Rattle.layouts.specs.Layouts.{block_cells}
use Rattle.walk.specs.declared.Event.{Event}
use Rattle.walk.proofs.Ways.{rest, either, Way, none, short, wrong, other, lost, again, block, cut, view, Onward, onward}
use Rattle.promises.proofs.rewriting.Searches.{not_both, first_nothing}
use Rattle.promises.proofs.rewriting.Rounds.{seen, same_way}
use Rattle.promises.proofs.rewriting.Claims.{Claims, Placed, Led, led, claimed_placed}
use Rattle.promises.proofs.rewriting.Rewritten.{Rewritten, agrees_after, agrees_before}
use Rattle.std.specs.Prelude.{Some, None}

-- ---- a round that a claim of the block at m follows looks no further than m

module _ (t : Track) (c : ℕ → ℕ) (n m : ℕ) where
  -- A search for a mark comes no further than the identifier that leads to the block.
  lost_low : (a : ℕ) → either t c n a ≡ None → Led t.layout c n m a → a + reach t.layout.mode ≤ m
  lost_low a e f =
      ⊎_elim
      (λ (h : f.lead ≤ a + reach t.layout.mode). not_both (is_standing t.layout.mode c n either_marks f.lead) f.holds
      (first_nothing t.layout.mode c n either_marks a (a + reach t.layout.mode + 1) e f.lead f.low (omega arith)))
      (λ h. omega arith)
      (le_or_lt f.lead (a + reach t.layout.mode))

  again_low : (a b : ℕ) (k : Mark) → either t c n a ≡ Some (b, k) → Led t.layout c n m a → b ≤ m
  again_low a b k e f =
      ⊎_elim
      (λ (h : b ≤ f.lead). omega arith)
      (λ h. not_both (is_standing t.layout.mode c n either_marks f.lead) f.holds
      ((first_known t.layout.mode c n either_marks a (a + reach t.layout.mode + 1) b k e).none f.lead f.low h))
      (le_or_lt b f.lead)

  seen_low : (s : ℕ) (next : ℕ → List Event) → ((q : ℕ) → Claims s m (next q) → Led t.layout c n m q)
      → (p : ℕ) (o : Round) (r : Way t c n p o) → Claims s m (follow t c n next o) → seen t c n r ≤ m
  unfolding follow
  seen_low s next ih p o (none e) h = absurd h
  seen_low s next ih p o (short i k e u) h = absurd h
  seen_low s next ih p o (wrong i r) h = omega (arith, ih _ h)
  seen_low s next ih p o (other i r x) h = omega (arith, ih _ h)
  seen_low s next ih p o (lost i took e) h = lost_low (rest t.layout i) e (ih _ h)
  seen_low s next ih p o (again i b k took e x) h = again_low (rest t.layout i) b k e (ih _ h)
  seen_low s next ih p o (block i b k took e x u) (inl z) = omega arith
  seen_low s next ih p o (block i b k took e x u) (inr h) = omega (arith, ih _ h)
  seen_low s next ih p o (cut i b k took e x u) h = let f = ih _ h in absurd (omega (arith, f, f.placed))

-- ---- the walk

tail : {e : Event} {xs ys : List Event} → xs ≡ ys → e ∷ xs ≡ e ∷ ys
tail {e} h = ap (λ x. e ∷ x) h

module _ (t : Track) (c d : ℕ → ℕ) (n m : ℕ) (R : Rewritten t.layout c d n m) where
  -- From the block's end on.
  walk_after : (k p : ℕ) → m + block_cells t.layout ≤ p → walk t d n k p ≡ walk t c n k p
  unfolding walk follow
  walk_after zero p u = refl
  walk_after (suc k) p u =
      let r = view t c n p in
      ap (follow t d n (walk t d n k)) (same_way t c d n p _ r (agrees_after t.layout c d n m R p _ u))
      ∙ go (walk_after k) (round t c n p) (onward t c n p _ r)
    where
      go : ((q : ℕ) → m + block_cells t.layout ≤ q → walk t d n k q ≡ walk t c n k q)
          → (o : Round) → Onward t c n p o
          → follow t d n (walk t d n k) o ≡ follow t c n (walk t c n k) o
      go ih None h = refl
      go ih (Some (e, q)) h = tail (ih q (omega arith))

  follow_before : (s : ℕ) (next after : ℕ → List Event) → ((q : ℕ) → Claims s m (next q) → after q ≡ next q)
      → after (m + block_cells t.layout) ≡ next (m + block_cells t.layout) → (p : ℕ) (o : Round) → Way t c n p o
      → Claims s m (follow t c n next o) → follow t d n after o ≡ follow t c n next o
  unfolding follow
  follow_before s next after ih e p o (none x) h = refl
  follow_before s next after ih e p o (short i k x u) h = refl
  follow_before s next after ih e p o (wrong i r) h = tail (ih _ h)
  follow_before s next after ih e p o (other i r x) h = tail (ih _ h)
  follow_before s next after ih e p o (lost i took x) h = tail (ih _ h)
  follow_before s next after ih e p o (again i b k took x y) h = tail (ih _ h)
  follow_before s next after ih e p o (block i b k took x y u) (inl z) = rw z.1 (tail e)
  follow_before s next after ih e p o (block i b k took x y u) (inr h) = tail (ih _ h)
  follow_before s next after ih e p o (cut i b k took x y u) h = tail (ih _ h)

  walk_before : Placed t.layout c n m → (s k p : ℕ) → Claims s m (walk t c n k p)
      → walk t d n k p ≡ walk t c n k p
  unfolding walk
  walk_before P s zero p h = refl
  walk_before P s (suc k) p h =
      let r = view t c n p in
      ap (follow t d n (walk t d n k)) (same_way t c d n p _ r
      (agrees_before t.layout c d n m R P p _ (seen_low t c n m s (walk t c n k) (led t c n s m k) p _ r h)))
      ∙ follow_before s _ _ (walk_before P s k) (walk_after k (m + block_cells t.layout) (omega arith)) p _ r h

  -- The walk over the rewritten cells meets the same.
  pub walk_kept : (s : ℕ) → Claims s m (events t c n) → events t d n ≡ events t c n
  unfolding events
  walk_kept s h = walk_before (claimed_placed t c n s m h) s n 0 h
