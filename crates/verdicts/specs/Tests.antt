-- Refused calls (01, "Refused calls"). A call's tests are a list in the papers' order, and the first that applies gives the refusal. All is said of
-- any type F of refusals: each crate that refuses calls brings its own, with the papers' numbers.
use Rattle.std.specs.Prelude.{Bool, true, cond, List, [], ◌∷◌, ◌++◌, ◌≡◌}

-- A test of a call: whether it applies, and the refusal that it gives.
pub record Test (F : Type 0) : Type 0 where
  pub applies : Bool
  pub gives : F

-- What the tests of a call say: it passes, or it is refused.
pub data Verdict (F : Type 0) : Type 0 where
  passed : Verdict F
  refused : F → Verdict F

-- The first test that applies gives the refusal (01, "Refused calls": order).
unfoldable pub refusal : {F : Type 0} → List (Test F) → Verdict F
refusal [] = passed
refusal (t ∷ ts) = cond t.applies (refused t.gives) (refusal ts)

-- By the verdict, this or that: the one of a call that passes, or what goes with its refusal.
unfoldable pub by : {F A : Type 0} → Verdict F → A → (F → A) → A
by passed this that = this
by (refused f) this that = that f

-- The first test of a list that applies gives the refusal f.
pub record FirstOf {F : Type 0} (tests : List (Test F)) (f : F) : Type 0 where
  pub before : List (Test F)
  pub test : Test F
  pub after : List (Test F)
  pub parts : tests ≡ before ++ test ∷ after
  pub none : refusal before ≡ passed
  pub applies : test.applies ≡ true
  pub gives : test.gives ≡ f

-- A call is refused with f exactly if some test of the list gives f, applies, and none before it does.
abbrev pub ExactlyBy : {F : Type 0} → List (Test F) → (Refused : F → Type 0) → Type 0
ExactlyBy {F} tests Refused = (f : F) → (Refused f → FirstOf tests f) × (FirstOf tests f → Refused f)
