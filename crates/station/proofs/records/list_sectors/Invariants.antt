-- `list_sectors` meets its contract: what is left to list from index i on ends where the whole does.
use mathlib.Core.Path.{◌≡◌}
use Prim.Native.Nat.{◌-◌, ◌*◌, ◌≤◌}
use lib.ListN.{length}
use lib.Seq.{sets}
use Rattle.layouts.specs.Layouts.{most_sectors}
use Rattle.station.specs.Records.{record_width, record_list}
use Rattle.station.proofs.Listing.{left}
use Rattle.station.proofs.records.list_sectors.Given as goal

abbrev pub invariant-loop-i : goal.invariant-loop-i
invariant-loop-i l =
    (l.i ≤ l.count) × (length l.list ≡ most_sectors * record_width)
    × (record_list l.count l.records ≡ sets l.list (l.i * record_width) (left l.count l.records l.i))

abbrev pub decreases-loop-i : goal.decreases-loop-i
decreases-loop-i l = l.count - l.i
