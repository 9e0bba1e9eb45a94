-- `tested` meets its contract: the layout of a number has what the tests of the contents ask.
use mathlib.Core.Path.{sym, subst}
use Rattle.format.proofs.Accepted.{Usable, usable}
use Rattle.format.proofs.refusals.tested.Goals as goal

pub content_tests-requires : goal.content_tests-requires
content_tests-requires c =
    let u = subst Usable (sym c.layout_of.ensures) (usable _) in
    (u.room, u.area, u.size, u.sectors)
