-- `write_front` meets its contract: the 00 bytes, and the mark behind them.
use native.Mathlib.Omega.{arith}
use Rattle.format.proofs.Fields.{front_stored}
use Rattle.format.proofs.write.write_front.Goals as goal

pub returns : goal.returns
returns c =
    let a = c.args in
    let zeros = c.write_run-mark_at.ensures in
    record {
      written = front_stored a.mode a.area.now a.at _ a.sync _ a.mark c.gap_byte-gap.ensures zeros.written zeros.behind c.write_mark.ensures.written;
      behind = omega (arith, zeros.behind, c.write_mark.ensures.behind);
    }
