-- `carrying_asked` meets its contract: the answers that are left tell, with those before, what all tell.
use mathlib.Core.Path.{◌≡◌}
use Prim.Native.Nat.{◌≤◌}
use lib.ListN.{drop}
use Rattle.file.specs.Turns.{carrying_ask}
use Rattle.file.proofs.Carrying.{carrying_from}
use Rattle.file.proofs.lists.carrying_asked.Given as goal

abbrev pub invariant-loop-number : goal.invariant-loop-number
invariant-loop-number l =
    (l.carrying ≤ l.number-index) × (carrying_ask l.answers ≡ carrying_from l.right l.carrying (drop l.number-index l.answers))
