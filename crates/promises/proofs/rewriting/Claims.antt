-- The blocks that the walk claims: before each stands an identifier, at its place a mark of a block, and any two of them are one or lie apart.
use mathlib.Core.Path.{◌≡◌, refl}
use mathlib.Core.Bool.{Bool, true, false, cond}
use mathlib.Core.List.{List, [], ◌∷◌}
use mathlib.Core.Logic.{◌⊎◌, inl, inr}
use Prim.Native.Nat.{ℕ, zero, suc, ◌+◌, ◌≤◌}
use native.Mathlib.Omega.{arith}
use borrow.Author.Tests.{eqb-true, leb-true}
use lib.Dec.{eqb, leb}
use Rattle.layouts.specs.declared.Layout.{Layout}
use Rattle.layouts.specs.declared.Track.{Track}
use Rattle.marks.specs.Marks.{stands}
use Rattle.search.specs.Search.{among, is_standing}
use Rattle.marks.specs.declared.Mark.{Mark}
use Rattle.marks.specs.declared.Mark.TheVariants.{Index, Identifier, Data, Control, Open}
use Rattle.search.proofs.Firsts.{first_known}
use Rattle.search.specs.Search.{identifier_marks, either_marks, block_marks}
use Rattle.layouts.specs.Layouts.{block_cells}
use Rattle.walk.specs.Walk.{round, follow, walk, events, Round}
use Rattle.walk.specs.Events.{blocks}
use Rattle.walk.specs.declared.Block.{Block}
use Rattle.walk.specs.declared.Block.TheVariants.{Missing, Beyond, Within}
use Rattle.walk.specs.declared.Event.{Event}
use Rattle.walk.specs.declared.Event.TheVariants.{Bad, Foreign, Accepted}
use Rattle.walk.proofs.Ways.{rest, identifier, either, Read, Took, Way, none, short, wrong, other, lost, again, block, cut, view}
use Rattle.promises.proofs.rewriting.Searches.{some_there}
use Rattle.promises.proofs.rewriting.Rounds.{identifier_low, either_low}
use Rattle.std.specs.Prelude.{Some}

-- Among these events the block at m is claimed for sector s.
abbrev pub Claims : ℕ → ℕ → List Event → Type 0
Claims s m [] = ⊥
Claims s m (Bad ∷ es) = Claims s m es
Claims s m (Foreign ∷ es) = Claims s m es
Claims s m (Accepted x Missing ∷ es) = Claims s m es
Claims s m (Accepted x (Beyond p) ∷ es) = Claims s m es
Claims s m (Accepted x (Within p) ∷ es) = ((x ≡ s) × (p ≡ m)) ⊎ Claims s m es

pub claims_later : (s m : ℕ) (e : Event) (es : List Event) → Claims s m es → Claims s m (e ∷ es)
claims_later s m Bad es h = h
claims_later s m Foreign es h = h
claims_later s m (Accepted x Missing) es h = h
claims_later s m (Accepted x (Beyond p)) es h = h
claims_later s m (Accepted x (Within p)) es h = inr h

-- So it is where the sector has this block alone.
pub blocks_claims : (s m : ℕ) (es : List Event) → blocks s es ≡ Within m ∷ [] → Claims s m es
unfolding blocks
blocks_claims s m [] e = let z : ◌≡◌ {A = ℕ} 0 1 = cc in absurd (omega arith)
blocks_claims s m (Bad ∷ es) e = blocks_claims s m es e
blocks_claims s m (Foreign ∷ es) e = blocks_claims s m es e
blocks_claims s m (Accepted x b ∷ es) e = go b (eqb x s) refl e (blocks_claims s m es)
  where
    go : (b : Block) (y : Bool) → eqb x s ≡ y → cond y (b ∷ blocks s es) (blocks s es) ≡ Within m ∷ []
        → (blocks s es ≡ Within m ∷ [] → Claims s m es) → Claims s m (Accepted x b ∷ es)
    go b false y e ih = claims_later s m (Accepted x b) es (ih e)
    go (Within p) true y e ih = inl (eqb-true x s y, cc)
    go Missing true y e ih = let z : ◌≡◌ {A = ℕ} 0 1 = cc in absurd (omega arith)
    go (Beyond p) true y e ih = let z : ◌≡◌ {A = ℕ} 0 1 = cc in absurd (omega arith)

-- What stands at the place of a block.
pub record Placed (l : Layout) (c : ℕ → ℕ) (n m : ℕ) : Type 0 where
  pub kind : Mark
  pub of_block_lem : among block_marks kind ≡ true
  pub there : stands l.mode c n kind m ≡ true
  pub room : m + block_cells l ≤ n

-- Before the block at m stands an identifier, at q or past it.
pub record Led (l : Layout) (c : ℕ → ℕ) (n m q : ℕ) : Type 0 where
  pub lead : ℕ
  pub low : q ≤ lead
  pub high : rest l lead ≤ m
  pub holds : is_standing l.mode c n either_marks lead ≡ true
  pub placed : Placed l c n m

module _ (t : Track) (c : ℕ → ℕ) (n : ℕ) where
  -- What step 1 finds, step 3 would find too.
  identifier_some : (p i : ℕ) (k : Mark) → identifier t c n p ≡ Some (i, k) → is_standing t.layout.mode c n either_marks i ≡ true
  identifier_some p i k e =
      let found = (first_known t.layout.mode c n identifier_marks p n i k e).there in
      some_there t.layout.mode c n either_marks k i found.standing_there (by k found.looked)
    where
      by : (k : Mark) → among identifier_marks k ≡ true → among either_marks k ≡ true
      by Index e = e
      by Identifier e = refl
      by Data e = refl
      by Control e = refl
      by Open e = refl

  module _ (s m : ℕ) where
    led_at : (p i : ℕ) (k : Mark) → identifier t c n p ≡ Some (i, k) → rest t.layout i ≤ m → Placed t.layout c n m → Led t.layout c n m p
    led_at p i k e u P =
        record { lead = i; low = identifier_low t c n p i k e; high = u; holds = identifier_some p i k e; placed = P }

    led_later : {p i : ℕ} {b : Bool} → Read t c n p i b → (q : ℕ) → i ≤ q → Led t.layout c n m q → Led t.layout c n m p
    led_later {p} {i} r q u f = led_at p i r.kind r.place (omega arith) f.placed

    led_here : {p i : ℕ} → Took t c n p i → (b : ℕ) (k : Mark) → either t c n (rest t.layout i) ≡ Some (b, k)
        → among block_marks k ≡ true → leb (b + block_cells t.layout) n ≡ true → b ≡ m → Led t.layout c n m p
    led_here {p} {i} took b k e s h z =
        led_at p i took.read.kind took.read.place (omega (arith, either_low t c n (rest t.layout i) b k e))
        (record {
          kind = k;
          of_block_lem = s;
          there = rw z at (first_known t.layout.mode c n either_marks (rest t.layout i) _ b k e).there.standing_there;
          room = omega (arith, leb-true (b + block_cells t.layout) n h);
        })

    led_step : (next : ℕ → List Event) → ((q : ℕ) → Claims s m (next q) → Led t.layout c n m q)
        → (p : ℕ) (o : Round) → Way t c n p o → Claims s m (follow t c n next o) → Led t.layout c n m p
    unfolding follow
    led_step next ih p o (none e) h = absurd h
    led_step next ih p o (short i k e u) h = absurd h
    led_step next ih p o (wrong i r) h = led_later r _ (omega arith) (ih _ h)
    led_step next ih p o (other i r x) h = led_later r _ (omega arith) (ih _ h)
    led_step next ih p o (lost i took e) h = led_later took.read _ (omega arith) (ih _ h)
    led_step next ih p o (again i b k took e s) h = led_later took.read _ (omega arith) (ih _ h)
    led_step next ih p o (block i b k took e s u) (inl z) = led_here took b k e s u z.1
    led_step next ih p o (block i b k took e s u) (inr h) =
        led_later took.read _ (omega (arith, either_low t c n (rest t.layout i) b k e)) (ih _ h)
    led_step next ih p o (cut i b k took e s u) h = led_later took.read _ (omega (arith, leb-true (rest t.layout i) n took.read.room)) (ih _ h)

    pub led : (k p : ℕ) → Claims s m (walk t c n k p) → Led t.layout c n m p
    unfolding walk
    led zero p h = absurd h
    led (suc k) p h = led_step (walk t c n k) (led k) p (round t c n p) (view t c n p) h

    -- At the place of a block that the whole walk claims stands a mark of a block, and the block is within the image.
    pub claimed_placed : Claims s m (events t c n) → Placed t.layout c n m
    unfolding events
    claimed_placed h = (led n 0 h).placed

  -- ---- two blocks

  -- They are one block of one sector, or lie apart.
  abbrev pub Apart : ℕ → ℕ → ℕ → ℕ → Type 0
  Apart s m x p = ((s ≡ x) × (m ≡ p)) ⊎ ((m + block_cells t.layout ≤ p) ⊎ (p + block_cells t.layout ≤ m))

  apart_step : (s m x p : ℕ) (next : ℕ → List Event) → ((r : ℕ) → Claims s m (next r) → Claims x p (next r) → Apart s m x p)
      → ((z y r : ℕ) → Claims z y (next r) → r ≤ y)
      → (q : ℕ) (o : Round) → Way t c n q o
      → Claims s m (follow t c n next o) → Claims x p (follow t c n next o) → Apart s m x p
  unfolding follow
  apart_step s m x p next ih low q o (none e) h g = absurd h
  apart_step s m x p next ih low q o (short i k e u) h g = absurd h
  apart_step s m x p next ih low q o (wrong i r) h g = ih _ h g
  apart_step s m x p next ih low q o (other i r u) h g = ih _ h g
  apart_step s m x p next ih low q o (lost i took e) h g = ih _ h g
  apart_step s m x p next ih low q o (again i b k took e d) h g = ih _ h g
  apart_step s m x p next ih low q o (block i b k took e d u) (inl a) (inl v) = inl (cc, cc)
  apart_step s m x p next ih low q o (block i b k took e d u) (inl a) (inr g) = inr (inl (rw a.1 at (low x p _ g)))
  apart_step s m x p next ih low q o (block i b k took e d u) (inr h) (inl v) = inr (inr (rw v.1 at (low s m _ h)))
  apart_step s m x p next ih low q o (block i b k took e d u) (inr h) (inr g) = ih _ h g
  apart_step s m x p next ih low q o (cut i b k took e d u) h g = ih _ h g

  pub apart : (s m x p k q : ℕ) → Claims s m (walk t c n k q) → Claims x p (walk t c n k q) → Apart s m x p
  unfolding walk
  apart s m x p zero q h g = absurd h
  apart s m x p (suc k) q h g =
      apart_step s m x p (walk t c n k) (apart s m x p k) (λ z y r f. omega (arith, led z y k r f)) q (round t c n q)
      (view t c n q) h g
