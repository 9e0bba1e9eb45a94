-- `picked` meets its contract: the tests decide, and then the records.
use Rattle.calls.proofs.Refusals.{told_passed}
use Rattle.pick.proofs.Picking.{pickable}
use Rattle.pick.proofs.picked.Goals as goal

pub record-requires : goal.record-requires
record-requires c =
    let k = pickable _ _ _ _ (told_passed _ c.in_ok-pick_tested.ensures) in
    (k.low, k.few)

pub record-requires-2 : goal.record-requires-2
record-requires-2 c =
    let k = pickable _ _ _ _ (told_passed _ c.in_ok-pick_tested.ensures) in
    (k.low, k.few)
