-- `octet` meets its contract: the two bytes joined are the eight cells, and where the test fails the second is 0.
use Rattle.std.proofs.Common.{◌+◌, ◌/◌, sym, refl, arith}
use lib.ListN.{get_or-eq_default}
use Rattle.cells.proofs.Joined.{octet_read}
use Rattle.cells.proofs.octet.Goals as goal

pub returns-then-at-image : goal.returns-then-at-image
returns-then-at-image c =
    let a = c.args in
    octet_read a.image.now a.place _ _ c.window.result
    (c.type_inv.image (a.place / 8)).fits (c.type_inv.image (a.place / 8 + 1)).fits refl refl c.window.ensures

pub returns : goal.returns
returns c =
    let a = c.args in
    octet_read a.image.now a.place c.byte_or_zero.result 0 c.window-2.result (omega arith) (omega arith)
    c.byte_or_zero.ensures (sym (get_or-eq_default a.image.now 0 c.if-at-image.false)) c.window-2.ensures
