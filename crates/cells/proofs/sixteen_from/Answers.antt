-- `sixteen_from` meets its contract: the three bytes joined have the sixteen cells.
use Rattle.std.proofs.Common.{◌+◌, refl, arith}
use Rattle.cells.proofs.Joined.{sixteen_read}
use Rattle.cells.proofs.sixteen_from.Goals as goal

pub returns-then-at-image : goal.returns-then-at-image
returns-then-at-image c =
    let a = c.args in
    sixteen_read a.image.now a.at a.shift _ _ _ c.wide_window.result c.requires.0
    (c.type_inv.image a.at).fits (c.type_inv.image (a.at + 1)).fits (c.type_inv.image (a.at + 2)).fits
    refl refl refl c.wide_window.ensures

pub returns : goal.returns
returns c =
    let a = c.args in
    sixteen_read a.image.now a.at a.shift c.byte_or_zero.result c.byte_or_zero-2.result c.byte_or_zero-3.result
    c.wide_window-2.result c.requires.0
    (omega arith) (omega arith) (omega arith)
    c.byte_or_zero.ensures c.byte_or_zero-2.ensures c.byte_or_zero-3.ensures
    c.wide_window-2.ensures
