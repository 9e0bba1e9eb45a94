-- The papers' numbers of the answers: the way back from a number, so that no two answers share one.
use mathlib.Core.Path.{◌≡◌, refl, sym, ap, ◌∙◌}
use Rattle.answers.specs.Answers.{answer_number, answer_of}
use Rattle.answers.specs.declared.Answer.{Answer}
use Rattle.answers.specs.declared.Answer.TheVariants.{Data, Control, Defective, Refused}
use Rattle.answers.specs.declared.Fault.TheVariants.{NoIdentifier, Doubled, NoBlock, PastEnd, OpenMark, WrongEdc, ForbiddenLetter}

pub answer_back : (answer : Answer) → answer_of (answer_number answer) ≡ answer
unfolding answer_of
answer_back (Refused NoIdentifier) = refl
answer_back (Refused Doubled) = refl
answer_back (Refused NoBlock) = refl
answer_back (Refused PastEnd) = refl
answer_back (Refused OpenMark) = refl
answer_back (Refused WrongEdc) = refl
answer_back (Refused ForbiddenLetter) = refl
answer_back Data = refl
answer_back Control = refl
answer_back Defective = refl

-- Two answers of one number are the same.
pub answers_apart : (a b : Answer) → answer_number a ≡ answer_number b → a ≡ b
answers_apart a b e = sym (answer_back a) ∙ ap answer_of e ∙ answer_back b
