-- `print_capture` prints no more of the image than there is: the cells that were counted are in it.
use native.Mathlib.Omega.{arith}
use Rattle.flux.proofs.Whole.{cells_fit}
use Rattle.flux_track.proofs.print_capture.Goals as goal

pub print_track-requires : goal.print_track-requires
print_track-requires g c =
    let fit = cells_fit _ _ _ _ c.in-Ok.cells _ c.lay-laid.ensures c.in-Ok.is in
    (omega arith, omega arith)
