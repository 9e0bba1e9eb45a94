-- What a sector's record holds: what it answers, with the papers' numbers (01, "How a track is read"; 02, Req 04), its place (02, Req 01), and how many
-- clock cells of its block's bytes are doubtful (02, Req 06).
use Rattle.std.specs.Prelude.{Bool, true, false, cond, List, [], ◌∷◌, ℕ, ◌-◌, eqb, get_or, replicate}
use Rattle.layouts.specs.Layouts.{most_sectors}
use Rattle.answers.specs.declared.Fault.{Fault}
use Rattle.answers.specs.declared.Fault.TheVariants.{NoIdentifier, Doubled, NoBlock, PastEnd, OpenMark, WrongEdc, ForbiddenLetter}
use Rattle.answers.specs.declared.Answer.{Answer}
use Rattle.answers.specs.declared.Answer.TheVariants.{Data, Control, Defective, Refused}
use Rattle.answers.specs.declared.Record.{Record}

-- The number of a fault (01, "How a track is read"; 27: 02, Req 04).
abbrev pub fault_number : Fault → ℕ
fault_number NoIdentifier = 21
fault_number Doubled = 22
fault_number NoBlock = 23
fault_number PastEnd = 24
fault_number OpenMark = 25
fault_number WrongEdc = 26
fault_number ForbiddenLetter = 27

-- The number of an answer (3: 02, Req 04).
abbrev pub answer_number : Answer → ℕ
answer_number (Refused fault) = fault_number fault
answer_number Data = 1
answer_number Control = 2
answer_number Defective = 3

-- The answers that have numbers of their own; any other number counts as 21.
abbrev pub answers : List Answer
answers =
    Data
    ∷ Control
    ∷ Defective
    ∷ Refused Doubled
    ∷ Refused NoBlock
    ∷ Refused PastEnd
    ∷ Refused OpenMark
    ∷ Refused WrongEdc
    ∷ Refused ForbiddenLetter
    ∷ []

-- The answer among these that has the number; where none has it, 21: no accepted identifier.
abbrev pub answer_among : List Answer → ℕ → Answer
answer_among [] number = Refused NoIdentifier
answer_among (answer ∷ more) number = cond (eqb number (answer_number answer)) answer (answer_among more number)

-- The answer that has the number (the law `answer_back`).
unfoldable pub answer_of : ℕ → Answer
answer_of = answer_among answers

-- The number is an answer's (01, "How a track is read"; 02, Req 04): there is an answer that has it.
abbrev pub is_answer : ℕ → Bool
is_answer number = eqb (answer_number (answer_of number)) number

-- An answer carries the sector's bytes. (3 joins 1 and 2 in the file and the pick: 02, Req 04.)
abbrev pub carries : Answer → Bool
carries (Refused fault) = false
carries Data = true
carries Control = true
carries Defective = true

-- The place of a sector that has none (02, Req 01).
abbrev pub no_place : ℕ
no_place = 4294967295

-- What the logic reads past the end of the records, where no index reaches.
abbrev pub no_record : Record
no_record = record { answer = Refused NoIdentifier; place = 0; clocks = 0 }

-- The record of a sector of which nothing is known.
abbrev pub unread : Record
unread = record { answer = Refused NoIdentifier; place = no_place; clocks = 0 }

-- The records of a track of which nothing is known.
abbrev pub unread_records : List Record
unread_records = replicate most_sectors unread

-- The record of a sector. There is one for every sector number that passes.
abbrev pub record_at : List Record → ℕ → Record
record_at records sector = get_or records (sector - 1) no_record
