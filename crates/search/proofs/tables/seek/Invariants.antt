-- `seek` meets its contract: the table has none of the bytes that were passed.
use Prim.Native.Nat.{ℕ, ◌-◌, ◌*◌, ◌<◌, ◌≤◌, max}
use mathlib.Core.Path.{◌≡◌}
use lib.ListN.{get_or}
use Rattle.cells.specs.Cells.{cell, octet}
use Rattle.search.proofs.tables.seek.Given as goal

abbrev pub invariant-loop-next : goal.invariant-loop-next
invariant-loop-next l = (l.from ≤ l.next) × (l.next ≤ max l.from l.end) × ((at : ℕ) → l.from ≤ at → at < l.next → get_or l.begins (octet (cell l.image) (8 * at)) 0 ≡ 0)

abbrev pub decreases-loop-next : goal.decreases-loop-next
decreases-loop-next l = l.end - l.next
