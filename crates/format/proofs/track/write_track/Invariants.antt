-- `write_track` meets its contract: what is left to write from the i-th number of the order on ends where the whole track does.
use Prim.Native.Nat.{◌+◌, ◌-◌, ◌*◌}
use mathlib.Core.Path.{◌≡◌}
use lib.ListN.{length, drop}
use lib.Seq.{sets}
use Rattle.format.proofs.Parts.{stretches}
use Rattle.format.proofs.track.write_track.Given as goal

abbrev pub invariant-loop-number : goal.invariant-loop-number
invariant-loop-number l =
    (length l.image ≡ length l.initial.image)
    × (l.start + ((length l.order - l.number-index) * l.stretch + 2 * l.track.layout.track_gap) ≡ length l.initial.image)
    × (sets l.initial.image l.initial.start (stretches l.track l.contents l.marks l.order) ≡ sets l.image l.start (stretches l.track l.contents l.marks (drop l.number-index l.order)))
