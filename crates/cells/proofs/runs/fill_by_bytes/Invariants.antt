-- `fill_by_bytes` meets its contract: what is left to store and to count from byte i on ends where the whole does. Past the image's end the place no
-- longer matters.
use Rattle.std.proofs.Common.{◌≡◌, ◌+◌, ◌-◌, ◌*◌, ◌%◌, ◌^◌, ◌<◌, length}
use lib.Seq.{sets}
use Rattle.cells.specs.Cells.{cell, data_bytes, bytes_clocks}
use Rattle.cells.proofs.runs.fill_by_bytes.Given as goal

abbrev pub invariant-loop-byte : goal.invariant-loop-byte
invariant-loop-byte l = record {
  onward : l.from + 3 < 2 ^ 64;
  stored : sets l.initial.bytes 0 (data_bytes (cell l.image) (8 * l.at + l.shift) (length l.initial.bytes))
      ≡ sets l.bytes l.byte-index (data_bytes (cell l.image) (8 * l.from + l.shift) (length l.initial.bytes - l.byte-index));
  counted : (l.clocks + bytes_clocks l.mode (cell l.image) l.last (8 * l.from + l.shift) (length l.initial.bytes - l.byte-index)) % 2 ^ 32
      ≡ bytes_clocks l.mode (cell l.image) l.before (8 * l.at + l.shift) (length l.initial.bytes) % 2 ^ 32;
}
