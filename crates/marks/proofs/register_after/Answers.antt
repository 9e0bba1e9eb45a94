-- `register_after` meets its contract: the register is computed over the bytes of each mark.
use mathlib.Core.Path.{refl}
use Rattle.cells.specs.declared.Mode.TheVariants.{Fm, Mfm}
use Rattle.edc.specs.Register.{edc_of, bytes_entered, byte_entered, bit_entered}
use Rattle.marks.specs.declared.Mark.TheVariants.{Index, Identifier, Data, Control, Open}
use Rattle.marks.proofs.Spelling.{register_by}
use Rattle.marks.proofs.register_after.Goals as goal

pub returns-in-Index : goal.returns-in-Index
unfolding edc_of bytes_entered byte_entered bit_entered
returns-in-Index c = register_by Fm Index _ c.in-Fm.is c.in-Index.is refl

pub returns-in-Identifier : goal.returns-in-Identifier
unfolding edc_of bytes_entered byte_entered bit_entered
returns-in-Identifier c = register_by Fm Identifier _ c.in-Fm.is c.in-Identifier.is refl

pub returns-in-Data : goal.returns-in-Data
unfolding edc_of bytes_entered byte_entered bit_entered
returns-in-Data c = register_by Fm Data _ c.in-Fm.is c.in-Data.is refl

pub returns-in-Control : goal.returns-in-Control
unfolding edc_of bytes_entered byte_entered bit_entered
returns-in-Control c = register_by Fm Control _ c.in-Fm.is c.in-Control.is refl

pub returns-in-Open : goal.returns-in-Open
unfolding edc_of bytes_entered byte_entered bit_entered
returns-in-Open c = register_by Fm Open _ c.in-Fm.is c.in-Open.is refl

pub returns-in-Index-mark : goal.returns-in-Index-mark
unfolding edc_of bytes_entered byte_entered bit_entered
returns-in-Index-mark c = register_by Mfm Index _ c.in-Mfm.is c.in-Index-mark.is refl

pub returns-in-Identifier-mark : goal.returns-in-Identifier-mark
unfolding edc_of bytes_entered byte_entered bit_entered
returns-in-Identifier-mark c = register_by Mfm Identifier _ c.in-Mfm.is c.in-Identifier-mark.is refl

pub returns-in-Data-mark : goal.returns-in-Data-mark
unfolding edc_of bytes_entered byte_entered bit_entered
returns-in-Data-mark c = register_by Mfm Data _ c.in-Mfm.is c.in-Data-mark.is refl

pub returns-in-Control-mark : goal.returns-in-Control-mark
unfolding edc_of bytes_entered byte_entered bit_entered
returns-in-Control-mark c = register_by Mfm Control _ c.in-Mfm.is c.in-Control-mark.is refl

pub returns-in-Open-mark : goal.returns-in-Open-mark
unfolding edc_of bytes_entered byte_entered bit_entered
returns-in-Open-mark c = register_by Mfm Open _ c.in-Mfm.is c.in-Open-mark.is refl
