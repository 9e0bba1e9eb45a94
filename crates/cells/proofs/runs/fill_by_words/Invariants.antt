-- `fill_by_words` meets its contract: what is left to store and to count from byte i on ends where the whole does.
use Rattle.std.proofs.Common.{◌≡◌, ◌+◌, ◌-◌, ◌*◌, ◌≤◌, length}
use lib.Seq.{sets}
use Rattle.cells.specs.Cells.{cell, data_bytes, bytes_clocks}
use Rattle.cells.proofs.runs.fill_by_words.Given as goal

abbrev pub invariant-loop-i : goal.invariant-loop-i
invariant-loop-i l = record {
  stored : sets l.initial.bytes 0 (data_bytes (cell l.image) (8 * l.at + l.shift + 1) (length l.initial.bytes))
      ≡ sets l.bytes l.i (data_bytes (cell l.image) (8 * (l.at + 2 * l.i) + l.shift + 1) (length l.initial.bytes - l.i));
  counted : 8 * l.i - l.right + bytes_clocks l.mode (cell l.image) (cell l.image (8 * (l.at + 2 * l.i) + l.shift)) (8 * (l.at + 2 * l.i) + l.shift + 1) (length l.initial.bytes - l.i)
      ≡ bytes_clocks l.mode (cell l.image) (cell l.image (8 * l.at + l.shift)) (8 * l.at + l.shift + 1) (length l.initial.bytes);
  small : l.right ≤ 8 * l.i;
}
