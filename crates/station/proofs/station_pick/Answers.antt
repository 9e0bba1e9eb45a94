-- `station_pick` meets its contract: what `choose` answers over the two records, in numbers.
use Rattle.station.proofs.Picking.{chosen_known}
use Rattle.station.proofs.station_pick.Goals as goal

pub part_of-requires : goal.part_of-requires
part_of-requires c = chosen_known _ _ _ _ _ _ _ c.choose-picked.ensures
