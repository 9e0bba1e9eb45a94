-- `write_run` meets its contract: its first byte, and the others, which are all coded alike.
use Prim.Native.Nat.{◌+◌, ◌-◌, ◌*◌, ◌≤◌}
use mathlib.Core.Path.{◌≡◌}
use lib.ListN.{length}
use lib.Seq.{sets}
use Rattle.format.proofs.Writing.{pairs}
use Rattle.format.proofs.write.write_run.Given as goal

abbrev pub invariant-loop-i : goal.invariant-loop-i
invariant-loop-i l =
    (1 ≤ l.i) × (l.i ≤ l.count) × (length l.area ≡ length l.initial.area) × (sets l.initial.area (l.at + 2 * 1) (pairs (l.count - 1) l.pair) ≡ sets l.area (l.at + 2 * l.i) (pairs (l.count - l.i) l.pair))

abbrev pub decreases-loop-i : goal.decreases-loop-i
decreases-loop-i l = l.count - l.i
