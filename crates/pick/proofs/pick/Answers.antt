-- `pick` meets its contract: the part goes with what is picked.
use Rattle.calls.proofs.Refusals.{passed_with}
use Rattle.pick.specs.Picks.{chosen_of}
use Rattle.pick.proofs.Picking.{pickable}
use Rattle.pick.proofs.pick.Goals as goal

pub stretch-requires : goal.stretch-requires
unfolding chosen_of
stretch-requires c =
    let k = pickable _ _ _ _ (passed_with _ _ _ c.in-Ok.ensures).0 in
    let l = c.layout_of.ensures in
    (k.low, rw l k.high, rw l k.one, rw l k.two)
