-- `write_checked` meets its contract: what is left to code ends where the whole does.
use Prim.Native.Nat.{◌+◌, ◌*◌, ◌%◌}
use mathlib.Core.List.{[], ◌++◌}
use mathlib.Core.Path.{◌≡◌}
use lib.ListN.{length, drop}
use lib.Seq.{sets}
use Rattle.edc.specs.Register.{edc_bytes}
use Rattle.format.specs.Order.{image, bytes}
use Rattle.format.proofs.write.write_checked.Given as goal

abbrev pub invariant-loop-byte : goal.invariant-loop-byte
invariant-loop-byte l =
    (l.next ≡ l.at + 2 * l.byte-index) × (length l.area ≡ length l.initial.area)
    × (sets l.initial.area l.at (image l.mode (l.initial.last % 2) (bytes (l.contents ++ edc_bytes l.register) []))
    ≡ sets l.area (l.at + 2 * l.byte-index) (image l.mode (l.last % 2) (bytes (drop l.byte-index l.contents ++ edc_bytes l.register) [])))
