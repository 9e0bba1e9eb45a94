-- `lay_intervals` meets its contract: what is left of the intervals leads where all of them do.
use Rattle.flux.proofs.Turns.{Turn}
use Rattle.flux.proofs.laying.lay_intervals.Given as goal

abbrev pub invariant-loop-number : goal.invariant-loop-number
invariant-loop-number l =
    Turn l.ticks l.stamps l.initial.image l.image l.last_ticks.numbers l.last_halves.numbers l.place l.number
