-- `tracks_asked` meets its contract: each part of the invariant follows by what one track takes.
use native.Mathlib.Omega.{arith}
use Rattle.std.proofs.lemmas.Grind.{common_steps}
use Rattle.file.specs.Contents.{all, sectors_of}
use Rattle.file.proofs.Asking.{rising_from, each_track}
use Rattle.file.proofs.lists.tracks_asked.Goals as goal

pub loop-track-preserved : goal.loop-track-preserved
unfolding rising_from all sectors_of
loop-track-preserved c = (
  grind (arith, common_steps, each_track),
  grind (arith, common_steps, each_track),
  grind (arith, common_steps, each_track),
  grind (arith, common_steps, each_track),
)
