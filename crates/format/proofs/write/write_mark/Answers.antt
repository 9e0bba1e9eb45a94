-- `write_mark` meets its contract: each arm copies the string of its mode.
use Rattle.cells.specs.declared.Mode.TheVariants.{Fm, Mfm}
use Rattle.format.proofs.Writing.{mark_stored}
use Rattle.format.proofs.write.write_mark.Goals as goal

pub returns-in-Fm : goal.returns-in-Fm
returns-in-Fm c =
    let a = c.args in
    let both = mark_stored a.mode Fm a.mark a.area.now _ a.at c.in-Fm.is c.fm_string.ensures c.write_string.ensures.written c.write_string.ensures.behind in
    record { written = both.0; behind = both.1 }

pub returns-in-Mfm : goal.returns-in-Mfm
returns-in-Mfm c =
    let a = c.args in
    let w = c.write_string-in-Mfm.ensures in
    let both = mark_stored a.mode Mfm a.mark a.area.now _ a.at c.in-Mfm.is c.mfm_string.ensures w.written w.behind in
    record { written = both.0; behind = both.1 }
