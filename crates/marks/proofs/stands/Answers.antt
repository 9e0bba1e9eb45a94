-- `stands` meets its contract: each arm compares with the mark's string in its mode.
use Rattle.cells.specs.declared.Mode.TheVariants.{Fm, Mfm}
use Rattle.marks.proofs.Spelling.{stands_by}
use Rattle.marks.proofs.stands.Goals as goal

pub returns-in-Fm : goal.returns-in-Fm
returns-in-Fm c = stands_by Fm _ _ _ _ _ c.in-Fm.is c.fm_string.ensures c.lying.ensures

pub returns-in-Mfm : goal.returns-in-Mfm
returns-in-Mfm c = stands_by Mfm _ _ _ _ _ c.in-Mfm.is c.mfm_string.ensures c.lying-in-Mfm.ensures
