-- What each public function of this crate promises.
use Rattle.std.specs.Prelude.{Bool, List, ◌≡◌, ℕ}
use Rattle.answers.specs.Answers.{fault_number, answer_number, answer_of, is_answer, carries, unread_records}
use Rattle.answers.specs.Letters.{answer_after}
use Rattle.marks.specs.declared.Mark.{Mark}
use Rattle.answers.specs.declared.Fault.{Fault}
use Rattle.answers.specs.declared.Answer.{Answer}
use Rattle.answers.specs.declared.Record.{Record}

-- `unread_records` answers the records of which nothing is known.
abbrev pub AreUnread : List Record → Type 0
AreUnread answer = answer ≡ unread_records

-- `u8::from` gives a fault and an answer the papers' numbers, and `answer_of` answers the answer of a number.
abbrev pub IsFaultNumber : Fault → ℕ → Type 0
IsFaultNumber fault number = number ≡ fault_number fault

abbrev pub IsAnswerNumber : Answer → ℕ → Type 0
IsAnswerNumber answer number = number ≡ answer_number answer

abbrev pub IsAnswerOf : ℕ → Answer → Type 0
IsAnswerOf number answer = answer ≡ answer_of number

-- `is_answer` answers whether the number is an answer's.
abbrev pub TellsAnswer : ℕ → Bool → Type 0
TellsAnswer number told = told ≡ is_answer number

-- `answer_after` answers what a whole block does after its mark.
abbrev pub IsAnswerAfter : (cylinder : ℕ) → Mark → (first : ℕ) → (right : Bool) → Answer → Type 0
IsAnswerAfter cylinder mark first right answer = answer ≡ answer_after cylinder mark first right

-- `carries_bytes` answers whether the answer carries the sector's bytes.
abbrev pub TellsCarrying : Answer → Bool → Type 0
TellsCarrying answer told = told ≡ carries answer
