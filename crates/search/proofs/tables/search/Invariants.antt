-- `search` meets its contract: the search from the places before the next byte on finds what the whole search finds.
use Prim.Native.Nat.{◌-◌, ◌*◌, ◌<◌, ◌≤◌, max}
use mathlib.Core.Path.{◌≡◌}
use lib.ListN.{length}
use Rattle.cells.specs.Cells.{cell}
use Rattle.search.specs.Search.{first_mark}
use Rattle.search.proofs.tables.search.Given as goal

abbrev pub invariant-loop-at : goal.invariant-loop-at
invariant-loop-at l =
    (0 < l.next)
    × (l.next ≤ 2305843009213693952)
    × (first_mark l.mode (cell l.image.bytes.now) (8 * length l.image.bytes.now) l.kinds l.from l.to ≡ first_mark l.mode (cell l.image.bytes.now) (8 * length l.image.bytes.now) l.kinds (max l.from (8 * l.next - 8)) l.to)

abbrev pub decreases-loop-at : goal.decreases-loop-at
decreases-loop-at l = l.end - l.next
