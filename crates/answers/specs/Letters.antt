-- What a whole block answers after its mark: the first character of its data field decides, and then its EDC (01, "How a track is read"; 02, Req 04).
use Rattle.std.specs.Prelude.{Bool, cond, not, ◌&&◌, ℕ, eqb}
use Rattle.calls.specs.Refusals.{control_test}
use Rattle.marks.specs.Marks.{mark_byte}
use Rattle.marks.specs.declared.Mark.{Mark}
use Rattle.marks.specs.declared.Mark.TheVariants as marks
use Rattle.answers.specs.declared.Fault.TheVariants.{WrongEdc, ForbiddenLetter}
use Rattle.answers.specs.declared.Answer.{Answer}
use Rattle.answers.specs.declared.Answer.TheVariants.{Data, Control, Defective, Refused}

-- CAPITAL LETTER F: where it is the first character after the mark F8 the sector contains a defective area (004, 7.4.2.4.3).
abbrev pub letter_f : ℕ
letter_f = 0x46

-- That is so: the mark is F8, the cylinder is not 0, and so one of 1 to 74, and the first data byte is F (02, Req 04).
abbrev pub is_defective : (cylinder mark first : ℕ) → Bool
is_defective cylinder mark first = eqb mark (mark_byte marks.Control) && not (eqb cylinder 0) && eqb first letter_f

-- What a whole block answers after this mark, data or control, by its first data byte and whether its EDC is right. In this order: 3, with either EDC; 26;
-- 27, where refusal 7 would not let it be written (02, Req 04); then 2 or 1.
unfoldable pub answer_after : (cylinder : ℕ) → Mark → (first : ℕ) → (right : Bool) → Answer
answer_after cylinder mark first right =
    cond (is_defective cylinder (mark_byte mark) first) Defective
    (cond (not right) (Refused WrongEdc)
    (cond (control_test cylinder (mark_byte mark) first).applies (Refused ForbiddenLetter)
    (cond (eqb (mark_byte mark) (mark_byte marks.Control)) Control Data)))
