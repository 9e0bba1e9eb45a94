-- `met` meets its contract: the walk begins at the first cell.
use mathlib.Core.Path.{sym}
use Rattle.walk.proofs.Walking.{walk_all}
use Rattle.walk.proofs.met.Goals as goal

pub returns-clause-all : goal.returns-clause-all
returns-clause-all c = sym (walk_all _ _ _)
