-- `write_leader` meets its contract: gap, index mark and gap, one behind the other.
use native.Mathlib.Omega.{arith}
use Rattle.format.proofs.Writing.{mark_some}
use Rattle.format.proofs.Fields.{leader_stored}
use Rattle.format.proofs.track.write_leader.Goals as goal

pub write_front-gap_at-requires : goal.write_front-gap_at-requires
write_front-gap_at-requires c =
    omega (arith, mark_some c.args.layout.mode, c.requires.0, c.write_run-sync_at.ensures.behind, c.write_run-sync_at.auto.area)

pub returns : goal.returns
returns c =
    let gap = c.write_run-sync_at.ensures in
    let mark = c.write_front-gap_at.ensures in
    record {
      written =
          leader_stored c.args.layout c.args.image.now _ _ _ c.requires.1 c.gap_byte-gap.ensures gap.written gap.behind
          mark.written mark.behind c.write_run.ensures.written;
      behind = omega (arith, gap.behind, mark.behind, c.write_run.ensures.behind);
    }
