-- `spelled` meets its contract: what is left to compare from byte i on says the same as the whole.
use Rattle.std.proofs.Common.{◌≡◌, ◌+◌, ◌*◌, drop}
use Rattle.cells.specs.Cells.{cell}
use Rattle.marks.specs.Marks.{spells}
use Rattle.marks.proofs.spelled.Given as goal

abbrev pub invariant-loop-i : goal.invariant-loop-i
invariant-loop-i l = spells (cell l.image) l.place l.bytes ≡ spells (cell l.image) (l.place + 8 * l.i) (drop l.i l.bytes)
