-- `read_rest` ends: each read that moves something comes nearer to the end of the data. That end is a sum of two numbers of 32 bits.
use Prim.Native.Nat.{suc, ◌-◌, ◌≤◌}
use mathlib.Core.Path.{◌≡◌}
use lib.ListN.{length}
use Rattle.cartridge_file.proofs.read_rest.Given as goal

abbrev pub invariant-loop-end : goal.invariant-loop-end
invariant-loop-end g l = (l.wanted ≤ 8589934590) × (length l.buffer ≡ 65536)

abbrev pub decreases-loop-end : goal.decreases-loop-end
decreases-loop-end g l = suc l.wanted - l.end
