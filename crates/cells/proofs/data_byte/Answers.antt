-- `data_byte` meets its contract: a place is a byte and the cells into it.
use Rattle.std.proofs.Common.{◌∙◌}
use Rattle.cells.specs.Cells.{cell}
use Rattle.cells.proofs.Bytes.{whole}
use Rattle.cells.proofs.Joined.{cell_lt, sixteen_data}
use Rattle.cells.proofs.data_byte.Goals as goal

pub returns : goal.returns
returns c =
    let a = c.args in
    let s = a.image.now in
    c.together.ensures
    ∙ sixteen_data (cell s) (cell_lt s) a.place c.sixteen_from.result (rw (whole a.place) at c.sixteen_from.ensures)
