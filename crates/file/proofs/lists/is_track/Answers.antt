-- `is_track` meets its contract: the test of a track's numbers passes.
use mathlib.Core.Path.{◌∙◌}
use Rattle.calls.proofs.Refusals.{is_ok_told}
use Rattle.file.specs.Contents.{is_track}
use Rattle.file.proofs.lists.is_track.Goals as goal

pub returns : goal.returns
unfolding is_track
returns c = c.is_ok.ensures.value ∙ is_ok_told _ _ c.tested.ensures
