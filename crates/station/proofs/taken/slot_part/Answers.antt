-- `slot_part` meets its contract: a slot's numbers are small.
use native.Mathlib.Omega.{arith}
use Rattle.station.proofs.Picking.{slot_small}
use Rattle.station.proofs.taken.slot_part.Goals as goal

pub overflow_cast-size : goal.overflow_cast-size
overflow_cast-size c =
    let l = c.layout_of-taken.ensures in
    rw l (omega (arith, (slot_small c.args.layout c.args.sector c.requires).0))

pub overflow_mul-result : goal.overflow_mul-result
overflow_mul-result c =
    let l = c.layout_of-taken.ensures in
    rw l (omega (arith, (slot_small c.args.layout c.args.sector c.requires).1))
