-- `write_body` meets its contract: the bytes with their EDC, and the gap behind them.
use mathlib.Core.Path.{refl}
use native.Mathlib.Omega.{arith}
use Rattle.format.proofs.Fields.{body_stored}
use Rattle.format.proofs.write.write_body.Goals as goal

pub returns : goal.returns
returns c =
    let a = c.args in
    let bytes = c.write_checked-last.ensures in
    record {
      written =
          body_stored a.mode a.area.now a.at _ a.space _ _ a.mark a.contents.now c.gap_byte-gap.ensures
          bytes.written bytes.bit refl c.write_run.ensures.written;
      behind = omega (arith, c.write_run.ensures.behind);
    }
