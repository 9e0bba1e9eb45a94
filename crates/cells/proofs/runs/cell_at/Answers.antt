-- `cell_at` meets its contract: the byte and the cells into it are those of the place.
use Rattle.std.proofs.Common.{◌≡◌, ◌+◌, ◌*◌, ◌/◌, ◌%◌, arith}
use Rattle.cells.specs.Cells.{cell}
use Rattle.cells.proofs.runs.cell_at.Goals as goal

pub returns : goal.returns
unfolding cell
returns c =
    let a = c.args in
    let p : (8 * a.at + a.shift) / 8 ≡ a.at = omega (arith, c.requires.0) in
    let k : (8 * a.at + a.shift) % 8 ≡ a.shift = omega (arith, c.requires.0) in
    rw (p, k)
