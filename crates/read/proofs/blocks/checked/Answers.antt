-- `checked` meets its contract: the first byte and the register decide, and the slot keeps what goes with the answer.
use mathlib.Core.Path.{refl}
use Rattle.read.proofs.Filling.{block_settled}
use Rattle.read.proofs.blocks.checked.Goals as goal

pub returns : goal.returns
returns c =
    block_settled _ _ _ _ _ _ _ _ _ _ _ _ _ c.decode-decoded.ensures c.register_of-register.ensures refl refl c.answer_after-answer.ensures
    c.settled.ensures
