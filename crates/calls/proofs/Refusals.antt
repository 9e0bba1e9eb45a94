-- Laws of the refusals: their numbers tell them apart, by a way back from the number; what is told of tests when more tests follow; and
-- what is known of a sector once its test has passed.
use mathlib.Core.Path.{◌≡◌, refl, sym, ap, ◌∙◌}
use mathlib.Core.Bool.{Bool, true, false, ◌||◌}
use mathlib.Core.List.{List, [], ◌∷◌, ◌++◌}
use native.Mathlib.Omega.{arith}
use Prim.Native.Nat.{ℕ, zero, suc, ◌≤◌}
use borrow.Author.Tests.{ltb-false}
use lib.Dec.{eqb, ltb}
use lib.ListN.{get_or}
use Rattle.verdicts.specs.Tests.{Test, Verdict, passed, refused, refusal, by}
use Rattle.verdicts.proofs.Tests.{clash, append_passed, append_refused, by_map}
use Rattle.calls.specs.declared.Refusal.{Refusal}
use Rattle.calls.specs.declared.Refusal.TheVariants.{ImageLength, CylinderNumber, SideNumber, LayoutNumber, AreaLength, MarkBytes, ControlRecord}
use Rattle.calls.specs.declared.Refusal.TheVariants.{Overfull, SectorNumber, Unreadable, OffBoundary, Finished, NoBlock}
use Rattle.std.specs.Prelude.{⊤, Result, Ok, Err, IsErrAnd, is_ok, is_err}
use Rattle.calls.specs.Refusals.{refusal_number, checked_number, told, sector_test}

-- The refusal of a number.
refusal_of : ℕ → Refusal
refusal_of n =
    get_or
    (NoBlock ∷ ImageLength ∷ CylinderNumber ∷ SideNumber ∷ LayoutNumber ∷ AreaLength ∷ MarkBytes ∷ []
    ++ (ControlRecord ∷ Overfull ∷ SectorNumber ∷ Unreadable ∷ OffBoundary ∷ Finished ∷ []))
    n
    NoBlock

back : (f : Refusal) → refusal_of (refusal_number f) ≡ f
unfolding refusal_of
back ImageLength = refl
back CylinderNumber = refl
back SideNumber = refl
back LayoutNumber = refl
back AreaLength = refl
back MarkBytes = refl
back ControlRecord = refl
back Overfull = refl
back SectorNumber = refl
back Unreadable = refl
back OffBoundary = refl
back Finished = refl
back NoBlock = refl

-- Two refusals of one number are the same.
pub numbers_apart : (a b : Refusal) → refusal_number a ≡ refusal_number b → a ≡ b
numbers_apart a b e = sym (back a) ∙ ap refusal_of e ∙ back b

-- The numbers are those of the papers' table, from 1 to 13.
pub number_known : (f : Refusal) → (1 ≤ refusal_number f) × (refusal_number f ≤ 13)
number_known ImageLength = (omega arith, omega arith)
number_known CylinderNumber = (omega arith, omega arith)
number_known SideNumber = (omega arith, omega arith)
number_known LayoutNumber = (omega arith, omega arith)
number_known AreaLength = (omega arith, omega arith)
number_known MarkBytes = (omega arith, omega arith)
number_known ControlRecord = (omega arith, omega arith)
number_known Overfull = (omega arith, omega arith)
number_known SectorNumber = (omega arith, omega arith)
number_known Unreadable = (omega arith, omega arith)
number_known OffBoundary = (omega arith, omega arith)
number_known Finished = (omega arith, omega arith)
number_known NoBlock = (omega arith, omega arith)

-- A test's answer tells the verdict.
pub told_passed : (v : Verdict Refusal) → Ok _ ≡ told v → v ≡ passed
unfolding told by
told_passed passed e = refl
told_passed (refused f) e = absurd (clash cc)

pub told_refused : (v : Verdict Refusal) (f : Refusal) → Err f ≡ told v → v ≡ refused f
unfolding told by
told_refused passed f e = absurd (clash cc)
told_refused (refused g) f e = cc

-- Where the tests ys follow the tests xs: these refuse and none that follows is asked, or those that follow decide.
module _ (xs ys : List (Test Refusal)) where
  pub then_refused : (f : Refusal) → Err f ≡ told (refusal xs) → Err f ≡ told (refusal (xs ++ ys))
  unfolding told by
  then_refused f e = sym (ap told (append_refused xs ys f (told_refused (refusal xs) f e)))

  -- of what `?` hands on
  pub handed_on : (f : Refusal) (r : Result ⊤ Refusal) → Err f ≡ told (refusal xs) → IsErrAnd r (λ e. e ≡ f) → r ≡ told (refusal (xs ++ ys))
  handed_on f (Ok _) e h = absurd h
  handed_on f (Err g) e h = ap Err h ∙ then_refused f e

  pub then_passed : Ok _ ≡ told (refusal xs) → told (refusal ys) ≡ told (refusal (xs ++ ys))
  then_passed e = sym (ap told (append_passed xs ys (told_passed (refusal xs) e)))

-- ---- two conditions, neither of which holds

pub or_left : (a b : Bool) → (a || b) ≡ false → a ≡ false
or_left true b e = e
or_left false b e = refl

pub or_right : (a b : Bool) → (a || b) ≡ false → b ≡ false
or_right true b e = absurd (clash cc)
or_right false b e = e

-- ---- what a call answers by the verdict v of its tests

module _ {A : Type 0} (this : A) (that : Refusal → A) (v : Verdict Refusal) where
  pub answer_refused : (f : Refusal) → Err f ≡ told v → that f ≡ by v this that
  unfolding by
  answer_refused f e = sym (ap (λ (y : Verdict Refusal). by y this that) (told_refused v f e))

  pub answer_passed : Ok _ ≡ told v → this ≡ by v this that
  unfolding by
  answer_passed e = sym (ap (λ (y : Verdict Refusal). by y this that) (told_passed v e))

-- The same by whether an answer r is an error.
module _ {A : Type 0} (this other : A) (v : Verdict Refusal) (r : Result ⊤ Refusal) (e : r ≡ told v) where
  pub answer_err : true ≡ is_err r → other ≡ by v this (λ f. other)
  unfolding told by
  answer_err h = go v (h ∙ ap is_err e)
    where
      go : (w : Verdict Refusal) → true ≡ is_err (told w) → other ≡ by w this (λ f. other)
      go passed h = absurd (clash cc)
      go (refused f) h = refl

  pub answer_ok : false ≡ is_err r → this ≡ by v this (λ f. other)
  unfolding told by
  answer_ok h = go v (h ∙ ap is_err e)
    where
      go : (w : Verdict Refusal) → false ≡ is_err (told w) → this ≡ by w this (λ f. other)
      go passed h = refl
      go (refused f) h = absurd (clash cc)

-- Whether an answer r is none.
pub is_ok_told : (v : Verdict Refusal) (r : Result ⊤ Refusal) → r ≡ told v → is_ok r ≡ by v true (λ f. false)
unfolding told by
is_ok_told passed r e = ap is_ok e
is_ok_told (refused f) r e = ap is_ok e

-- The way back, of an answer that holds a value.
pub passed_with : {T : Type 0} (v : Verdict Refusal) (x y : T) → Ok x ≡ by v (Ok y) Err → (v ≡ passed) × (x ≡ y)
unfolding by
passed_with passed x y e = (refl, cc)
passed_with (refused f) x y e = absurd (clash cc)

-- The same of a refusal that `?` hands on.
pub answer_handed : {T : Type 0} (this : Result T Refusal) (v : Verdict Refusal) (f : Refusal) (r : Result T Refusal)
    → Err f ≡ told v → IsErrAnd r (λ e. e ≡ f) → r ≡ by v this Err
answer_handed this v f (Ok x) e h = absurd h
answer_handed this v f (Err g) e h = ap Err h ∙ answer_refused this Err v f e

-- A sector number that passes is one of the sectors'.
pub sector_known : (sectors sector : ℕ) → (sector_test sectors sector).applies ≡ false → (1 ≤ sector) × (sector ≤ sectors)
sector_known sectors sector h = (
  low sector (or_left (eqb sector 0) (ltb sectors sector) h),
  ltb-false _ _ (or_right (eqb sector 0) (ltb sectors sector) h),
)
  where
    low : (s : ℕ) → eqb s 0 ≡ false → 1 ≤ s
    low zero e = absurd (clash cc)
    low (suc s) e = omega arith

-- The number of what is told of a verdict.
pub number_told : (v : Verdict Refusal) → checked_number (told v) ≡ by v 0 refusal_number
unfolding told
number_told v = by_map checked_number v (Ok _) Err

-- What is told of one that passes.
pub told_passing : (v : Verdict Refusal) → v ≡ passed → Ok _ ≡ told v
unfolding told by
told_passing v e = rw e
