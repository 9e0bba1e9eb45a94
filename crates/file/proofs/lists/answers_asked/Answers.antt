-- `answers_asked` meets its contract: each part of the invariant follows by what one track takes.
use native.Mathlib.Omega.{arith}
use Rattle.std.proofs.lemmas.Grind.{common_steps}
use Rattle.file.specs.Contents.{all, sectors_of, carried_bytes}
use Rattle.file.proofs.Carrying.{each_track}
use Rattle.file.proofs.lists.answers_asked.Goals as goal

pub loop-track-preserved : goal.loop-track-preserved
unfolding carried_bytes all sectors_of
loop-track-preserved c = (
  grind (arith, common_steps, each_track),
  grind (arith, common_steps, each_track),
  grind (arith, common_steps, each_track),
  grind (arith, common_steps, each_track),
)
