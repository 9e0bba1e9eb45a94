-- The bytes of a section that is there, and what a whole file answers.
use mathlib.Core.Path.{◌≡◌}
use Prim.Native.Nat.{ℕ, ◌*◌, ◌≤◌}
use native.Mathlib.Omega.{arith}
use lib.ListN.{length, length-take, length-drop, drop}
use lib.Seq.{length-take-le}
use mathlib.Core.List.{List}
use Rattle.verdicts.specs.Tests.{by}
use Rattle.verdicts.proofs.Tests.{append_passed, append_refused}
use Rattle.file.specs.declared.Refusal.{Refusal}
use Rattle.file.specs.declared.Section.{Section}
use Rattle.file.specs.Sections.{end, held}
use Rattle.file.specs.Outcomes.{head_answer, whole_answer, file_answer}

-- A section's bytes are no more than its count says.
pub held_few : (width : ℕ) (s : Section) (file : List ℕ) → length (held width s file) ≤ width * s.count
held_few width s file = omega (arith, length-take (width * s.count) (drop s.place file))

-- Where it is there, they are so many.
pub held_whole : (width : ℕ) (s : Section) (file : List ℕ) → end width s ≤ length file → length (held width s file) ≡ width * s.count
held_whole width s file h = length-take-le (width * s.count) (drop s.place file) (omega (arith, length-drop s.place file))

-- Of a whole file its head is judged, and then its end.
pub read_whole : (file : List ℕ) → whole_answer (head_answer file) (length file) ≡ file_answer file
unfolding head_answer file_answer by
read_whole file = grind (arith, append_passed {F = Refusal}, append_refused {F = Refusal})
