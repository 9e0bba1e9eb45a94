-- `read_track` meets its contract: what it holds is what the events met so far give, and the rest is still to come.
use mathlib.Core.Path.{◌≡◌}
use mathlib.Core.List.{◌++◌}
use Prim.Native.Nat.{◌*◌}
use lib.ListN.{length}
use Rattle.cells.specs.Cells.{cell}
use Rattle.walk.specs.Outcomes.{met, left}
use Rattle.read.proofs.States.{State}
use Rattle.read.proofs.tracks.read_track.Given as goal

abbrev pub invariant-loop-event : goal.invariant-loop-event
invariant-loop-event l =
    (met l.fn.track l.fn.image.bytes.now ≡ l.yielded ++ left l.event-iterator)
    × (length l.area ≡ l.fn.track.layout.sectors * l.fn.track.layout.size)
    × State l.fn.track (cell l.fn.image.bytes.now) (8 * length l.fn.image.bytes.now) l.yielded l.records l.area l.bad l.foreign
