-- `locate_block` meets its contract: what it holds is what the events met so far give, and the rest is still to come.
use mathlib.Core.Path.{◌≡◌}
use mathlib.Core.List.{◌++◌}
use Rattle.walk.specs.Events.{blocks}
use Rattle.walk.specs.Outcomes.{met, left}
use Rattle.locate.specs.Outcomes.{located}
use Rattle.locate.proofs.locating.locate_block.Given as goal

abbrev pub invariant-loop-event : goal.invariant-loop-event
invariant-loop-event l =
    (met l.fn.track l.fn.image.bytes.now ≡ l.yielded ++ left l.event-iterator) × (l.found ≡ located (blocks l.sector l.yielded))
