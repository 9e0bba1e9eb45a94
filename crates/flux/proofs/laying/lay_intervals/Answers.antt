-- `lay_intervals` meets its contract: what is left of the intervals leads where all of them do.
use Rattle.std.proofs.Common.{◌≡◌, ◌≤◌, refl, arith}
use Rattle.std.specs.List.{sum}
use Rattle.flux.specs.Intervals.{band}
use Rattle.flux.specs.declared.Refusal.TheVariants.{NoBand}
use Rattle.flux.proofs.Turns.{turn_start, some_halves, no_halves, turn_zero, turn_past, turn_more, turn_end}
use Rattle.flux.proofs.laying.lay_intervals.Goals as goal
use Rattle.flux.proofs.laying.lay_intervals.Goals.{In_ok-halves}

pub loop-number-init : goal.loop-number-init
loop-number-init c = rw (c.new-last_ticks.ensures, c.new-last_halves.ensures) (turn_start _ _ _ c.requires.0 c.requires.1)

pub returns-in_err-halves : goal.returns-in_err-halves
returns-in_err-halves c =
    let l = c.loop-number in
    let none = no_halves l.last_ticks.numbers l.last_halves.numbers l.last_ticks.summed l.last_halves.summed _ (NoBand l.number) _
    c.half_cells-band.ensures c.ok_or.ensures.value _ c.in_err-halves.was c.from_residual.ensures.1 in
    rw none.1 (turn_zero l.invariant _ 0 c.loop-number-test.true c.ticks_between-interval.ensures none.0 refl)

-- The half cells that go on are the band's.
some : (c : In_ok-halves)
    → (c.in_ok-halves.halves ≡ band (sum c.loop-number.last_ticks.numbers) (sum c.loop-number.last_halves.numbers) c.ticks_between-interval.result)
    × (1 ≤ c.in_ok-halves.halves) × (c.in_ok-halves.halves ≤ 4)
some c =
    let l = c.loop-number in
    some_halves l.last_ticks.numbers l.last_halves.numbers l.last_ticks.summed l.last_halves.summed _ (NoBand l.number) _ c.half_cells-band.ensures
    c.ok_or.ensures.value _ c.in_ok-halves.was

positive : (c : In_ok-halves) → c.in_ok-halves.halves ≡ 0 → ⊥
positive c e = let s = some c in absurd (omega arith)

pub returns-then-image-place : goal.returns-then-image-place
returns-then-image-place c =
    let l = c.loop-number in
    let b = (goal.at.returns-then-image-place c).In_ok-halves in
    turn_past l.invariant _ _ c.loop-number-test.true c.ticks_between-interval.ensures (some b).0 (positive b) l.last_ticks.eight l.last_halves.eight
    (omega arith)

pub loop-number-preserved : goal.loop-number-preserved
loop-number-preserved c =
    let l = c.loop-number in
    let b = (goal.at.loop-number-preserved c).In_ok-halves in
    turn_more l.invariant _ _ c.loop-number-test.true c.ticks_between-interval.ensures (some b).0 (positive b) l.last_ticks.eight l.last_halves.eight
    (some b).2 (omega arith) c.put_one.ensures c.renew.ensures c.renew-in-loop-number.ensures

pub returns : goal.returns
returns c = turn_end c.loop-number.invariant c.loop-number-test.false
