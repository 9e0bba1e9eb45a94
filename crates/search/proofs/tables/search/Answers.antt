-- `search` meets its contract: the search from the places before the next byte on finds what the whole search finds.
use native.Mathlib.Omega.{arith}
use Rattle.search.proofs.Passing.{turn_found, turn_none, turn_end}
use Rattle.search.proofs.tables.search.Goals as goal

pub returns-in-Some-tried : goal.returns-in-Some-tried
returns-in-Some-tried c =
    let seek = rw c.in-Some.is at c.seek.ensures in
    turn_found _ _ _ c.args.begins.now c.requires _ _ _ _ c.loop-at.invariant.0 seek.0
    seek.4 c.loop-at.invariant.2 (rw c.in-Some-tried.is at c.tried.ensures)

pub loop-at-preserved : goal.loop-at-preserved
loop-at-preserved c =
    let seek = rw c.in-Some.is at c.seek.ensures in (
      omega arith,
      omega (arith, c.end_of-end.ensures, c.args.image.housed),
      turn_none _ _ _ c.args.begins.now c.requires _ _ _ _ c.loop-at.invariant.0 seek.0
          seek.4 c.loop-at.invariant.2 (rw c.in_default-tried.is at c.tried.ensures),
    )

pub returns : goal.returns
returns c =
    turn_end _ _ _ c.args.begins.now c.requires _ _ _ _ c.loop-at.invariant.0
    (rw c.in_default.is at c.seek.ensures) c.loop-at.invariant.2 c.end_of-end.ensures.0
