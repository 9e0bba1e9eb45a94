-- `write_string` meets its contract: the part that was lent holds the string.
use Rattle.std.proofs.Common.{refl}
use Rattle.cells.proofs.Stores.{part_put}
use Rattle.format.proofs.write.write_string.Goals as goal

pub returns-clause-written : goal.returns-clause-written
returns-clause-written c = part_put _ _ _ c.args.at _ c.copy_from_slice.ensures.after refl c.requires
