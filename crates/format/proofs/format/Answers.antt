-- `format` meets its contract: the tests decide, and what passes them is written in natural order.
use mathlib.Core.Path.{sym, ap, ◌∙◌, subst}
use native.Mathlib.Omega.{arith}
use lib.ListN.{length}
use Rattle.verdicts.specs.Tests.{by}
use Rattle.layouts.specs.Layouts.{layout_of, Every}
use Rattle.layouts.specs.declared.Track.{Track}
use Rattle.calls.proofs.Refusals.{told_passed}
use Rattle.format.specs.Order.{Numbered}
use Rattle.format.proofs.Parts.{length_numbers, numbered, natural}
use Rattle.format.proofs.Accepted.{usable, accepted, in_natural_order}
use Rattle.format.proofs.format.Goals as goal

pub slice_bounds-write_track-end : goal.slice_bounds-write_track-end
slice_bounds-write_track-end c =
    omega (arith, (usable c.args.numbers.layout).most, ap (λ (t : Track). t.layout.sectors) c.track-track.ensures)

pub write_track-requires : goal.write_track-requires
write_track-requires c =
    let l = layout_of c.args.numbers.layout in
    let a = accepted _ _ _ _ _ _ (told_passed _ c.in_ok-tested.ensures) in
    let u = usable c.args.numbers.layout in
    let n = natural l.sectors u.most in
    let low = a.cylinders in
    let few = a.sides in
    rw c.track-track.ensures (
    record {
      writable =
          (record { cylinder = omega arith; side = omega arith; sectors = u.sectors; size = u.size; gaps = u.gaps }, record { slots = a.area; marked = a.marked }, a.whole);
      order_len = (ap length n ∙ length_numbers l.sectors 1, subst (Every (Numbered l)) (sym n) (numbered l));
    }
    )

pub returns : goal.returns
unfolding by
returns c =
    let a = c.args in
    let passes = told_passed _ c.in_ok-tested.ensures in
    record {
      answers = c.in_ok-tested.ensures;
      leaves = rw passes (in_natural_order a.numbers.layout a.numbers.cylinder a.numbers.side _ _ _ _ c.track-track.ensures c.write_track.ensures);
    }
