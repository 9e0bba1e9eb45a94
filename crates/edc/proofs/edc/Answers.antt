-- `edc::edc` meets its contract: the bytes enter the register at its start.
use Rattle.edc.specs.Register.{edc_of}
use Rattle.edc.proofs.edc.Goals as goal

pub returns : goal.returns
unfolding edc_of
returns c = c.bytes_entered.ensures
