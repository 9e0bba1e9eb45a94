-- `byte_from` meets its contract: the bit before comes before the first of the sixteen cells, and they follow it.
use Rattle.std.proofs.Common.{ℕ, ◌+◌, ◌*◌, ◌/◌, ◌∙◌, ap₂, arith, rules}
use Rattle.cells.specs.Cells.{cell}
use Rattle.cells.proofs.Clocks.{sixteen_clocks}
use Rattle.cells.proofs.Halves.{counted, ones_right}
use Rattle.cells.proofs.Joined.{cell_lt, sixteen_data}
use Rattle.cells.proofs.byte_from.Goals as goal

pub overflow_sub-result : goal.overflow_sub-result
overflow_sub-result c =
    let sixteen = c.sixteen_from-cells in
    let bit = c.bit_before in
    let a = c.args in
    let k = rw (← c.right_clocks-right.ensures) at
    (counted a.mode (bit.result + sixteen.result / 2) sixteen.result (search rules) (search rules)) in
    (ones_right k).0

pub returns : goal.returns
returns c =
    let sixteen = c.sixteen_from-cells in
    let bit = c.bit_before in
    let a = c.args in
    let k = rw (← c.right_clocks-right.ensures) at
    (counted a.mode (bit.result + sixteen.result / 2) sixteen.result (search rules) (search rules)) in
    let s = a.image.now in
    let p = 8 * a.at + a.shift in (
      ap₂ (λ (x n : ℕ). record { byte = x; clocks = n })
          (c.together.ensures ∙ sixteen_data (cell s) (cell_lt s) p sixteen.result sixteen.ensures)
          ((ones_right k).1
          ∙ sixteen_clocks a.mode (cell s) (cell_lt s) p sixteen.result a.before bit.result sixteen.ensures bit.ensures.0 bit.ensures.1),
      omega arith,
    )
