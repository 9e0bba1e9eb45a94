-- The walk, round by round: its number of rounds does not matter where it is at least the cells that are left, and each round either ends
-- the walk or goes on behind what it met.
use mathlib.Core.Path.{◌≡◌, refl, sym, ap, subst, ◌∙◌}
use mathlib.Core.Bool.{Bool, true, false, cond}
use mathlib.Core.List.{List, [], ◌∷◌, ◌++◌, append_assoc}
use Prim.Native.Nat.{ℕ, zero, suc, ◌-◌, ◌+◌, ◌≤◌, ◌<◌}
use native.Mathlib.Omega.{arith}
use lib.Dec.{eqb}
use lib.ListN.{length, length-append}
use Rattle.layouts.specs.declared.Track.{Track}
use Rattle.search.specs.Search.{identifier_marks}
use Rattle.search.proofs.Searching.{first_end}
use Rattle.walk.specs.Events.{blocks}
use Rattle.walk.specs.Walk.{marked, round, follow, walk, events, Round}
use Rattle.walk.specs.declared.Block.{Block}
use Rattle.walk.specs.declared.Block.TheVariants.{Missing, Beyond, Within}
use Rattle.walk.specs.declared.Event.{Event}
use Rattle.walk.specs.declared.Event.TheVariants.{Bad, Foreign, Accepted}
use Rattle.walk.specs.Turns.{Placed}
use Rattle.walk.proofs.Ways.{view, Whole, Sound, Onward, onward}
use Rattle.std.specs.Prelude.{Some, None}

module _ (t : Track) (c : ℕ → ℕ) (n : ℕ) where
  -- From the image's end on no mark is found.
  round_past : (p : ℕ) → n ≤ p → round t c n p ≡ None
  unfolding round marked
  round_past p h = ap (marked t c n) (first_end t.layout.mode c n identifier_marks p n h)

  pub walk_past : (k p : ℕ) → n ≤ p → walk t c n k p ≡ []
  unfolding walk follow
  walk_past zero p h = refl
  walk_past (suc k) p h = ap (follow t c n (walk t c n k)) (round_past p h)

  pub fuel : (k j p : ℕ) → n ≤ p + k → n ≤ p + j → walk t c n j p ≡ walk t c n k p
  unfolding walk follow
  fuel zero j p a b = walk_past j p (omega arith)
  fuel (suc k) zero p a b = sym (walk_past (suc k) p (omega arith))
  fuel (suc k) (suc j) p a b =
      go (λ q h. fuel k j q (omega arith) (omega arith)) (round t c n p) (onward t c n p _ (view t c n p))
    where
      go : ((q : ℕ) → p < q → walk t c n j q ≡ walk t c n k q)
          → (o : Round) → Onward t c n p o
          → follow t c n (walk t c n j) o ≡ follow t c n (walk t c n k) o
      go ih None h = refl
      go ih (Some (e, q)) h = ap (λ x. e ∷ x) (ih q h.0)

  -- What is known of a round that meets something.
  pub met_onward : (p q : ℕ) (e : Event) → round t c n p ≡ Some (e, q) → Onward t c n p (Some (e, q))
  met_onward p q e f = subst (λ (o : Round). Onward t c n p o) f (onward t c n p _ (view t c n p))

  -- The walk from p on, by what the round says; p is within the image.
  walk_one : (p : ℕ) → p < n → walk t c n (n - p) p ≡ follow t c n (walk t c n (n - p - 1)) (round t c n p)
  unfolding walk
  walk_one p h =
      let e : n - p ≡ suc (n - p - 1) = omega arith in
      ap (λ (k : ℕ). walk t c n k p) e

  pub walk_ends : (k p : ℕ) (r : Round) → r ≡ round t c n p → r ≡ None → walk t c n k p ≡ []
  unfolding walk follow
  walk_ends zero p r told e = refl
  walk_ends (suc k) p r told e = ap (follow t c n (walk t c n k)) (sym told ∙ e)

  pub walk_meets : (p q : ℕ) (e : Event) (r : Round) → r ≡ round t c n p → r ≡ Some (e, q) → walk t c n (n - p) p ≡ e ∷ walk t c n (n - q) q
  unfolding follow
  walk_meets p q e r told meets =
      let f = sym told ∙ meets in
      let o = met_onward p q e f in
      walk_one p (omega (arith, o.0, o.1))
      ∙ ap (follow t c n (walk t c n (n - p - 1))) f
      ∙ ap (λ x. e ∷ x) (fuel (n - q) (n - p - 1) q (omega arith) (omega (arith, o.0)))

  pub walk_all : events t c n ≡ walk t c n (n - 0) 0
  unfolding events
  walk_all = let e : n - 0 ≡ n = omega arith in rw e

-- An accepted sector is one of the layout's, and its block is so placed.
sound : (t : Track) (c : ℕ → ℕ) (n s : ℕ) (b : Block) → Sound t c n (Accepted s b) → n ≤ 2147483648
    → (1 ≤ s) × (s ≤ t.layout.sectors) × Placed t.layout.mode c n b
sound t c n s Missing h few = (h.0.0, h.0.1, tt)
sound t c n s (Beyond m) h few = (h.0.0, h.0.1, omega (arith, h.1.0))
sound t c n s (Within m) h few = (h.0.0, h.0.1, (omega (arith, h.1.0), h.1.1))

-- One event more of the walk was met, and the rest is still to come.
pub met_next : {all now rest : List Event} {x : Event} (done : List Event) → all ≡ done ++ now → now ≡ x ∷ rest → all ≡ (done ++ x ∷ []) ++ rest
met_next {rest = rest} {x = x} done split next = split ∙ ap (λ es. done ++ es) next ∙ sym (append_assoc done (x ∷ []) rest)

-- A round of the code that meets an accepted identifier: so it is of it too.
pub turn_accepted : (t : Track) (c : ℕ → ℕ) (n p q : ℕ) (r : Round) (x : Event) (s : ℕ) (b : Block) → r ≡ round t c n p → r ≡ Some (x, q)
    → x ≡ Accepted s b → n ≤ 2147483648 → (1 ≤ s) × (s ≤ t.layout.sectors) × Placed t.layout.mode c n b
turn_accepted t c n p q r x s b told meets is few =
    sound t c n s b (met_onward t c n p q (Accepted s b) (sym told ∙ meets ∙ ap (λ (y : Event). Some (y, q)) is)).2 few

-- ---- the blocks of a sector

module _ (t : Track) (c : ℕ → ℕ) (n : ℕ) where
  -- Every event of a walk is sound,
  abbrev Sounds : List Event → Type 0
  Sounds [] = Unit {0}
  Sounds (e ∷ es) = Sound t c n e × Sounds es

  walk_sound : (k p : ℕ) → Sounds (walk t c n k p)
  unfolding walk follow
  walk_sound zero p = tt
  walk_sound (suc k) p = go (walk_sound k) (round t c n p) (onward t c n p _ (view t c n p))
    where
      go : ((q : ℕ) → Sounds (walk t c n k q)) → (o : Round) → Onward t c n p o → Sounds (follow t c n (walk t c n k) o)
      go rest None h = tt
      go rest (Some (e, q)) h = (h.2, rest q)

  sounds_at : (xs ys : List Event) (e : Event) → Sounds (xs ++ e ∷ ys) → Sound t c n e
  sounds_at [] ys e h = h.0
  sounds_at (x ∷ xs) ys e h = sounds_at xs ys e h.1

  walk_length : (k p : ℕ) → length (walk t c n k p) ≤ k
  unfolding walk follow
  walk_length zero p = omega arith
  walk_length (suc k) p = go (walk_length k) (round t c n p)
    where
      go : ((q : ℕ) → length (walk t c n k q) ≤ k) → (o : Round) → length (follow t c n (walk t c n k) o) ≤ suc k
      go rest None = omega arith
      go rest (Some (e, q)) = omega (arith, rest q)

  -- What is known of an event, in the list of what the walk meets: how many were met before it, and of an accepted one that its sector is of the
  -- layout and where its block lies.
  module _ (done rest : List Event) (e : Event) (split : events t c n ≡ done ++ e ∷ rest) where
    pub met_few : length done < n
    unfolding events
    met_few = omega (arith, walk_length n 0, ap length split, length-append done (e ∷ rest))

    pub met_accepted : (s : ℕ) (b : Block) → e ≡ Accepted s b → n ≤ 2147483648 → (1 ≤ s) × (s ≤ t.layout.sectors) × Placed t.layout.mode c n b
    unfolding events
    met_accepted s b is few = sound t c n s b (rw is at (sounds_at done rest e (rw split at (walk_sound n 0)))) few

  -- And so is every block that its identifiers give.
  abbrev pub AllWhole : List Block → Type 0
  AllWhole [] = Unit {0}
  AllWhole (b ∷ bs) = Whole t c n b × AllWhole bs

  blocks_sound : (s : ℕ) (es : List Event) → Sounds es → AllWhole (blocks s es)
  unfolding blocks
  blocks_sound s [] h = tt
  blocks_sound s (Bad ∷ es) h = blocks_sound s es h.1
  blocks_sound s (Foreign ∷ es) h = blocks_sound s es h.1
  blocks_sound s (Accepted x b ∷ es) h = go (eqb x s) (blocks_sound s es h.1)
    where
      go : (y : Bool) → AllWhole (blocks s es) → AllWhole (cond y (b ∷ blocks s es) (blocks s es))
      go true rest = (h.0.1, rest)
      go false rest = rest

  pub blocks_whole : (s : ℕ) → AllWhole (blocks s (events t c n))
  unfolding events
  blocks_whole s = blocks_sound s (walk t c n n 0) (walk_sound n 0)
