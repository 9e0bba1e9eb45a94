-- The refusals of 01, with the numbers that its table "Refused calls" gives them, and the tests that several calls share.
use Rattle.std.specs.Prelude.{not, ◌&&◌, ◌||◌, ℕ, ltb, eqb, ⊤, Result, Ok, Err}
use Rattle.marks.specs.Marks.{mark_byte}
use Rattle.marks.specs.declared.Mark.TheVariants.{Data, Control}
use Rattle.verdicts.specs.Tests.{Test, Verdict, by}
use Rattle.calls.specs.declared.Refusal.{Refusal}
use Rattle.calls.specs.declared.Refusal.TheVariants.{ImageLength, CylinderNumber, SideNumber, LayoutNumber, AreaLength, MarkBytes, ControlRecord}
use Rattle.calls.specs.declared.Refusal.TheVariants.{Overfull, SectorNumber, Unreadable, OffBoundary, Finished, NoBlock}

-- The number of a refusal (01, "Refused calls").
abbrev pub refusal_number : Refusal → ℕ
refusal_number ImageLength = 1
refusal_number CylinderNumber = 2
refusal_number SideNumber = 3
refusal_number LayoutNumber = 4
refusal_number AreaLength = 5
refusal_number MarkBytes = 6
refusal_number ControlRecord = 7
refusal_number Overfull = 8
refusal_number SectorNumber = 9
refusal_number Unreadable = 10
refusal_number OffBoundary = 11
refusal_number Finished = 12
refusal_number NoBlock = 13

-- What a function that tests a call answers: the verdict of its tests.
unfoldable pub told : Verdict Refusal → Result ⊤ Refusal
told v = by v (Ok _) Err

-- The number of a call's answer: 0 where it passes, else the refusal's.
abbrev pub checked_number : {T : Type 0} → Result T Refusal → ℕ
checked_number (Ok _) = 0
checked_number (Err f) = refusal_number f

-- The most bytes of an image that is read or rewritten (01, "Refused calls", 1).
abbrev pub longest_image : ℕ
longest_image = 24576

-- CAPITAL LETTER D, the one first byte that a control record has on cylinder 0 (004, 7.4.2.4.3).
abbrev pub letter_d : ℕ
letter_d = 0x44

-- 1, in reading and rewriting: the image is empty or longer than the longest.
abbrev pub image_test : ℕ → Test Refusal
image_test length = record { applies = eqb length 0 || ltb longest_image length; gives = ImageLength }

-- 5: the data area has another length than is wanted.
abbrev pub area_test : (wanted given : ℕ) → Test Refusal
area_test wanted given = record { applies = not (eqb given wanted); gives = AreaLength }

-- 6, of one mark: it is neither FB nor F8.
abbrev pub mark_test : ℕ → Test Refusal
mark_test mark = record { applies = not (eqb mark (mark_byte Data)) && not (eqb mark (mark_byte Control)); gives = MarkBytes }

-- 7: cylinder 0, mark F8, and the first data byte is not D.
abbrev pub control_test : (cylinder mark first : ℕ) → Test Refusal
control_test cylinder mark first =
    record { applies = eqb cylinder 0 && eqb mark (mark_byte Control) && not (eqb first letter_d); gives = ControlRecord }

-- 9: the sector number is 0 or above the count.
abbrev pub sector_test : (sectors sector : ℕ) → Test Refusal
sector_test sectors sector = record { applies = eqb sector 0 || ltb sectors sector; gives = SectorNumber }
