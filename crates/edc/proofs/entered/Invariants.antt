-- `edc::entered` meets its contract. The invariant of both loops: from the register that the present word stands for the bytes that are left lead
-- where all of them lead from the first.
use Rattle.std.proofs.Common.{◌≡◌, ◌*◌}
use lib.ListN.{drop}
use Rattle.edc.specs.Register.{bytes_entered}
use Rattle.edc.specs.Words.{stands_for}
use Rattle.edc.proofs.entered.Given as goal

abbrev pub invariant-loop-eight : goal.invariant-loop-eight
invariant-loop-eight l = bytes_entered (stands_for l.from) l.bytes ≡ bytes_entered (stands_for l.word) (drop (l.eight-index * 8) l.bytes)

abbrev pub invariant-loop-byte : goal.invariant-loop-byte
invariant-loop-byte l = bytes_entered (stands_for l.from) l.bytes ≡ bytes_entered (stands_for l.word) (drop l.byte-index l.rest)
