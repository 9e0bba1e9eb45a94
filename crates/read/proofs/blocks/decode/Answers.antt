-- `decode` meets its contract: the slot holds the data bytes, and each byte is counted after the last bit of the one before.
use mathlib.Core.Path.{refl, sym, ap, ◌∙◌}
use Prim.Native.Nat.{ℕ, ◌+◌, ◌-◌, ◌*◌, ◌%◌, ◌≤◌}
use native.Mathlib.Omega.{arith}
use lib.ListN.{length, get_or}
use Rattle.cells.specs.Cells.{cell, data_byte, data_bytes, bytes_clocks}
use Rattle.cells.specs.declared.ReadByte.{ReadByte}
use Rattle.cells.proofs.Joined.{cell_lt}
use Rattle.marks.specs.Marks.{last_bit}
use Rattle.read.proofs.Filling.{sum_fits, sum_decoded}
use Rattle.read.proofs.blocks.decode.Goals as goal

pub overflow_add-result : goal.overflow_add-result
overflow_add-result c =
    let a = c.args in
    let s = a.image.now in
    let few : length a.slot.now ≤ 268435456 = omega (arith, c.requires.0) in
    omega (
      arith,
      (sum_fits a.mode (cell s) (cell_lt s) (last_bit a.mark) a.place (length a.slot.now) c.read_bytes-clocks.result few
          (rw c.last_bit.ensures at c.read_bytes-clocks.ensures.clocks)).1,
      c.read_byte-high.ensures.1,
    )

pub overflow_add-result-2 : goal.overflow_add-result-2
overflow_add-result-2 c =
    let a = c.args in
    let s = a.image.now in
    let few : length a.slot.now ≤ 268435456 = omega (arith, c.requires.0) in
    omega (
      arith,
      (sum_fits a.mode (cell s) (cell_lt s) (last_bit a.mark) a.place (length a.slot.now) c.read_bytes-clocks.result few
          (rw c.last_bit.ensures at c.read_bytes-clocks.ensures.clocks)).1,
      c.read_byte-high.ensures.1,
      c.read_byte-low.ensures.1,
    )

pub returns : goal.returns
returns c =
    let a = c.args in
    let s = a.image.now in
    let k = length a.slot.now in
    let few : k ≤ 268435456 = omega (arith, c.requires.0) in
    let high = c.read_byte-high in
    let low = c.read_byte-low in
    let slot = c.read_bytes-clocks.new.bytes in
    let long = c.read_bytes-clocks.auto.bytes in
    let sum = (sum_fits a.mode (cell s) (cell_lt s) (last_bit a.mark) a.place k c.read_bytes-clocks.result few
    (rw c.last_bit.ensures at c.read_bytes-clocks.ensures.clocks)).0 in
    let byte = ap (λ (r : ReadByte). r.byte) high.ensures.0 in (
      c.read_bytes-clocks.ensures.bytes,
      byte ∙ ap (λ (n : ℕ). data_byte (cell s) (a.place + 16 * n)) long,
      ap (λ (r : ReadByte). r.byte) low.ensures.0 ∙ ap (λ (n : ℕ). data_byte (cell s) (a.place + 16 * n + 16)) long,
      sum_decoded a.mode (cell s) (cell_lt s) (last_bit a.mark) a.place (length slot) c.read_bytes-clocks.result high.result.clocks
          low.result.clocks (get_or slot (length slot - 1) 0 % 2) (high.result.byte % 2) slot (rw long c.requires.1)
          (c.read_bytes-clocks.ensures.bytes ∙ ap (data_bytes (cell s) a.place) (sym long)) refl (ap (λ (x : ℕ). x % 2) byte)
          (sum ∙ ap (bytes_clocks a.mode (cell s) (last_bit a.mark) a.place) (sym long))
          (ap (λ (r : ReadByte). r.clocks) high.ensures.0) (ap (λ (r : ReadByte). r.clocks) low.ensures.0)
          ∙ ap (λ (n : ℕ). bytes_clocks a.mode (cell s) (last_bit a.mark) a.place (n + 2)) long,
    )
