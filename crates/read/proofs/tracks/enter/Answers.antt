-- `enter` meets its contract: the sector's part of the area is lent to `next_record`.
use native.Mathlib.Omega.{arith}
use Rattle.read.proofs.Recording.{slot_put}
use Rattle.layouts.proofs.Layouts.{slot_room}
use Rattle.read.proofs.tracks.enter.Goals as goal

pub returns : goal.returns
returns c =
    let a = c.args in
    let h = slot_room a.track.layout.size a.track.layout.sectors a.sector c.requires.1 c.requires.2 in
    let e = c.next_record.ensures in
    (e.0, slot_put _ _ _ c.requires.0.2 _ _ _ _ _ e.1 (omega (arith, c.requires.4)))
