-- `last_byte` meets its contract: each arm takes the last byte of the mark's string in its mode.
use Rattle.cells.specs.declared.Mode.TheVariants.{Fm, Mfm}
use Rattle.marks.proofs.Spelling.{last_by}
use Rattle.marks.proofs.last_byte.Goals as goal

pub returns-in-Fm : goal.returns-in-Fm
returns-in-Fm c = last_by Fm _ c.in-Fm.is c.fm_string.ensures

pub returns-in-Mfm : goal.returns-in-Mfm
returns-in-Mfm c = last_by Mfm _ c.in-Mfm.is c.mfm_string.ensures
