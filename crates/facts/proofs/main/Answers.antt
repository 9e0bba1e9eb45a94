-- `facts::main` meets its contract: the check holds, by computing the register over the nine bytes.
use borrow.Author.Tests.{eq-eqb}
use Rattle.edc.specs.Register.{edc_of, bytes_entered, byte_entered, bit_entered}
use Rattle.facts.proofs.main.Goals as goal

pub expect-requires : goal.expect-requires
unfolding edc_of bytes_entered byte_entered bit_entered
expect-requires c = eq-eqb c.edc.result 0x29B1 c.edc.ensures
