-- `register_of` meets its contract: the bytes enter the register one behind the other.
use mathlib.Core.Path.{◌∙◌}
use Rattle.read.proofs.Filling.{register_told}
use Rattle.read.proofs.blocks.register_of.Goals as goal

pub returns : goal.returns
returns c =
    let a = c.args in
    c.byte_entered-2.ensures
    ∙ rw (c.byte_entered.ensures, c.bytes_entered-register.ensures, c.register_after.ensures)
    (register_told a.mode a.mark a.slot.now a.high a.low)
