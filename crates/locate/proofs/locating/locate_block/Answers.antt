-- `locate_block` meets its contract: what it holds is what the events met so far give, and the rest is still to come.
use mathlib.Core.Path.{refl, sym, ◌∙◌}
use Rattle.locate.specs.Outcomes.{located}
use Rattle.walk.specs.Events.{blocks}
use Rattle.walk.proofs.Walking.{met_next}
use Rattle.locate.proofs.Seeking.{located_after_lem}
use Rattle.locate.proofs.locating.locate_block.Goals as goal

pub loop-event-init : goal.loop-event-init
unfolding located blocks
loop-event-init c = (rw c.into_iter-event-iterator.ensures.into_iter_gives (sym c.met-event-items.ensures.all), refl)

pub loop-event-preserved : goal.loop-event-preserved
loop-event-preserved c =
    let l = c.loop-event in (
      met_next l.yielded l.invariant.0 (rw c.in-Some.is at c.next.ensures.steps.first),
      c.located_after-found.ensures ∙ rw l.invariant.1 (sym (located_after_lem _ l.yielded _)),
    )
