-- `fields_of` meets its contract: a sector's fields are no more than all.
use native.Mathlib.Omega.{arith}
use Rattle.format.proofs.Turns.{fields_room}
use Rattle.format.proofs.lengths.fields_of.Goals as goal

pub sector_fields-requires : goal.sector_fields-requires
sector_fields-requires c =
    omega (arith, fields_room c.args.layout c.requires.1, c.requires)
