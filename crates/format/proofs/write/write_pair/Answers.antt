-- `write_pair` meets its contract: two stores, one behind the other.
use lib.ListN.{length-set}
use native.Mathlib.Numerals.{add-one}
use native.Mathlib.Omega.{arith}
use Rattle.format.proofs.write.write_pair.Goals as goal

pub bounds-area-at-2 : goal.bounds-area-at-2
bounds-area-at-2 c = simp length-set (omega arith)

pub returns : goal.returns
returns c = rw add-one
