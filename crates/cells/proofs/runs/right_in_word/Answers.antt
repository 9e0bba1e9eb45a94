-- `right_in_word` meets its contract: the counts by pairs are small, so that the halves can be added.
use Rattle.std.proofs.Common.{arith, rules}
use Rattle.cells.proofs.Halves.{counted, fours_fit, all_fit, all_right}
use Rattle.cells.proofs.runs.right_in_word.Goals as goal

pub overflow_add-fours : goal.overflow_add-fours
overflow_add-fours c =
    let a = c.args in
    let k = rw (← c.right_clocks-right.ensures) at (counted a.mode a.earlier a.cells (search rules) (search rules)) in
    omega (arith, fours_fit k)

pub overflow_add-result : goal.overflow_add-result
overflow_add-result c =
    let a = c.args in
    let k = rw (← c.right_clocks-right.ensures) at (counted a.mode a.earlier a.cells (search rules) (search rules)) in
    omega (arith, all_fit k)

pub returns : goal.returns
returns c =
    let a = c.args in
    all_right (rw (← c.right_clocks-right.ensures) at (counted a.mode a.earlier a.cells (search rules) (search rules)))
