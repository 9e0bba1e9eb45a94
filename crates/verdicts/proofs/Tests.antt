-- Laws of tests that follow tests, by induction over the list; and that an answer which says what its tests say is refused exactly by them.
use mathlib.Core.Path.{◌≡◌, refl, sym, ap, ◌∙◌}
use mathlib.Core.Bool.{Bool, true, false, cond}
use mathlib.Core.List.{List, [], ◌∷◌, ◌++◌}
use Prim.Native.Nat.{ℕ}
use native.Mathlib.Omega.{arith}
use Rattle.verdicts.specs.Tests.{Test, Verdict, passed, refused, refusal, by, FirstOf, ExactlyBy}

-- Two constructors are not the same.
pub clash : ◌≡◌ {A = ℕ} 0 1 → ⊥
clash e = absurd (omega arith)

module _ {F : Type 0} where
  -- What was said first, or else what is said next.
  abbrev or_else : Verdict F → Verdict F → Verdict F
  or_else passed y = y
  or_else (refused f) y = refused f

  append : (xs ys : List (Test F)) → refusal (xs ++ ys) ≡ or_else (refusal xs) (refusal ys)
  unfolding refusal
  append [] ys = refl
  append (t ∷ xs) ys = go t.applies (append xs ys)
    where
      go : (b : Bool) →
          refusal (xs ++ ys) ≡ or_else (refusal xs) (refusal ys) →
          cond b (refused t.gives) (refusal (xs ++ ys)) ≡ or_else (cond b (refused t.gives) (refusal xs)) (refusal ys)
      go true e = refl
      go false e = e

  -- Where the first tests pass, those that follow decide.
  pub append_passed : (xs ys : List (Test F)) → refusal xs ≡ passed → refusal (xs ++ ys) ≡ refusal ys
  append_passed xs ys h = append xs ys ∙ ap (λ (x : Verdict F). or_else x (refusal ys)) h

  -- Where the first tests refuse, none that follows is asked.
  pub append_refused : (xs ys : List (Test F)) (f : F) → refusal xs ≡ refused f → refusal (xs ++ ys) ≡ refused f
  append_refused xs ys f h = append xs ys ∙ ap (λ (x : Verdict F). or_else x (refusal ys)) h

  -- Tests that are passed together are passed one list after the other.
  pub passed_both : (xs ys : List (Test F)) → refusal (xs ++ ys) ≡ passed → (refusal xs ≡ passed) × (refusal ys ≡ passed)
  passed_both xs ys e = go (refusal xs) refl
    where
      go : (r : Verdict F) → refusal xs ≡ r → (refusal xs ≡ passed) × (refusal ys ≡ passed)
      go passed p = (p, sym (append_passed xs ys p) ∙ e)
      go (refused f) p = let q = append_refused xs ys f p in absurd (clash cc)

  -- Where tests pass, the first did not apply, and the rest pass.
  pub first_passed : (t : Test F) (ts : List (Test F)) → refusal (t ∷ ts) ≡ passed → (t.applies ≡ false) × (refusal ts ≡ passed)
  unfolding refusal
  first_passed t ts h = go t.applies h
    where
      go : (b : Bool) → cond b (refused t.gives) (refusal ts) ≡ passed → (b ≡ false) × (refusal ts ≡ passed)
      go true e = absurd (clash cc)
      go false e = (refl, e)

  -- ---- one test of a list

  -- What one test before others says.
  refused_first : (t : Test F) (ts : List (Test F)) (f : F) → (refusal ts ≡ refused f → FirstOf ts f) → refusal (t ∷ ts) ≡ refused f
      → FirstOf (t ∷ ts) f
  unfolding refusal
  refused_first t ts f rest e = go t.applies refl e
    where
      go : (b : Bool) → t.applies ≡ b → cond b (refused t.gives) (refusal ts) ≡ refused f → FirstOf (t ∷ ts) f
      go true h e = record { before = []; test = t; after = ts; parts = refl; none = refl; applies = h; gives = cc }
      go false h e =
          let r = rest e in
          record {
            before = t ∷ r.before;
            test = r.test;
            after = r.after;
            parts = ap (λ x. t ∷ x) r.parts;
            none = rw h r.none;
            applies = r.applies;
            gives = r.gives;
          }

  first_of : (tests : List (Test F)) (f : F) → refusal tests ≡ refused f → FirstOf tests f
  unfolding refusal
  first_of [] f e = absurd (clash cc)
  first_of (t ∷ ts) f e = refused_first t ts f (first_of ts f) e

  first_refused : (tests : List (Test F)) (f : F) → FirstOf tests f → refusal tests ≡ refused f
  unfolding refusal
  first_refused tests f r = ap refusal r.parts ∙ append_passed r.before (r.test ∷ r.after) r.none ∙ rw (r.applies, r.gives)

  -- ---- an answer by the verdict

  -- An answer that says what its tests say is refused exactly by them, whatever else it can say.
  module _ {A : Type 0} (this : A) (that : F → A) (other : (f : F) → this ≡ that f → ⊥) (apart : (g f : F) → that g ≡ that f → g ≡ f) where
    told : (x : Verdict F) (f : F) → by x this that ≡ that f → x ≡ refused f
    unfolding by
    told passed f e = absurd (other f e)
    told (refused g) f e = ap refused (apart g f e)

    pub exactly : (tests : List (Test F)) (answer : A) → answer ≡ by (refusal tests) this that → ExactlyBy tests (λ f. answer ≡ that f)
    unfolding by
    exactly tests answer e f = (
      λ r. first_of tests f (told (refusal tests) f (sym e ∙ r)),
      λ r. e ∙ ap (λ (x : Verdict F). by x this that) (first_refused tests f r),
    )

    -- Where such an answer is the refusal f, the tests gave it; where it is no refusal, they pass.
    pub by_refused : (x : Verdict F) (answer : A) (f : F) → answer ≡ by x this that → answer ≡ that f → x ≡ refused f
    by_refused x answer f e h = told x f (sym e ∙ h)

    pub by_passed : (x : Verdict F) (answer : A) → answer ≡ by x this that → answer ≡ this → x ≡ passed
    unfolding by
    by_passed passed answer e h = refl
    by_passed (refused f) answer e h = absurd (other f (sym h ∙ e))

  -- What is made of an answer by the verdict is by the verdict too.
  pub by_map : {A B : Type 0} (g : A → B) (v : Verdict F) (this : A) (that : F → A) → g (by v this that) ≡ by v (g this) (λ f. g (that f))
  unfolding by
  by_map g passed this that = refl
  by_map g (refused f) this that = refl
