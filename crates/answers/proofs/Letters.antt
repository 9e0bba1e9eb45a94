-- What a whole block answers, by its first character and its EDC: case by case.
use mathlib.Core.Path.{◌≡◌, refl}
use mathlib.Core.Bool.{Bool, true, false, cond, not, ◌&&◌, and-eq-true_iff}
use Prim.Native.Nat.{ℕ}
use lib.Dec.{eqb}
use Rattle.calls.specs.Refusals.{letter_d, control_test}
use Rattle.marks.specs.Marks.{mark_byte}
use Rattle.marks.specs.declared.Mark.{Mark}
use Rattle.marks.specs.declared.Mark.TheVariants as marks
use Rattle.answers.specs.Letters.{letter_f, is_defective, answer_after}
use Rattle.answers.specs.declared.Fault.TheVariants.{WrongEdc, ForbiddenLetter}
use Rattle.answers.specs.declared.Answer.{Answer}
use Rattle.answers.specs.declared.Answer.TheVariants.{Data, Control, Defective, Refused}

-- 3 and 27 are answers after the control mark only.
module _ (cylinder mark first : ℕ) where
  pub defective_control : is_defective cylinder mark first ≡ true → eqb mark (mark_byte marks.Control) ≡ true
  defective_control e =
      let control = eqb mark (mark_byte marks.Control) in
      let elsewhere = not (eqb cylinder 0) in
      ((and-eq-true_iff control elsewhere).0 ((and-eq-true_iff (control && elsewhere) (eqb first letter_f)).0 e).0).0

  pub forbidden_control : (control_test cylinder mark first).applies ≡ true → eqb mark (mark_byte marks.Control) ≡ true
  forbidden_control e =
      let control = eqb mark (mark_byte marks.Control) in
      let zeroth = eqb cylinder 0 in
      ((and-eq-true_iff zeroth control).0 ((and-eq-true_iff (zeroth && control) (not (eqb first letter_d))).0 e).0).1

module _ (P : Answer → Type 0) (cylinder : ℕ) (mark : Mark) (first : ℕ) (right : Bool) where
  abbrev defective : Bool
  defective = is_defective cylinder (mark_byte mark) first

  abbrev forbidden : Bool
  forbidden = (control_test cylinder (mark_byte mark) first).applies

  abbrev control : Bool
  control = eqb (mark_byte mark) (mark_byte marks.Control)

  -- What holds of 3, where there is a defective area, of 26, of 27, where refusal 7 would be given, of 2, where neither is so, and of 1, holds of the
  -- block's answer.
  pub answer_cases : (defective ≡ true → P Defective) → P (Refused WrongEdc) → (forbidden ≡ true → P (Refused ForbiddenLetter))
      → (defective ≡ false → forbidden ≡ false → control ≡ true → P Control) → (control ≡ false → P Data) → P (answer_after cylinder mark first right)
  unfolding answer_after
  answer_cases three wrong seven two one = go defective right forbidden control refl refl refl
    where
      go : (d r f k : Bool) → defective ≡ d → forbidden ≡ f → control ≡ k
          → P (cond d Defective (cond (not r) (Refused WrongEdc) (cond f (Refused ForbiddenLetter) (cond k Control Data))))
      go true r f k d e g = three d
      go false false f k d e g = wrong
      go false true true k d e g = seven e
      go false true false true d e g = two d e g
      go false true false false d e g = one g
