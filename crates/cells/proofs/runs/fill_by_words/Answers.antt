-- `fill_by_words` meets its contract: what is left to store and to count from byte i on ends where the whole does.
use Rattle.std.proofs.Common.{◌≡◌, ℕ, ◌+◌, ◌-◌, ◌*◌, ◌%◌, ◌^◌, ◌<◌, ◌≤◌, length, get_or, refl, ap, ◌∙◌, add-zero, arith, rules}
use Rattle.cells.specs.Aids.{word_clocks}
use Rattle.cells.specs.Cells.{cell, bytes_clocks}
use Rattle.cells.specs.declared.Mode.{Mode}
use Rattle.cells.proofs.Bytes.{fill_turn, fill_whole}
use Rattle.cells.proofs.Clocks.{sum_turn, clocks_le, clocks_end, words_clocks}
use Rattle.cells.proofs.Joined.{cell_lt}
use Rattle.cells.proofs.Words.{word_octets, word_read}
use Rattle.cells.proofs.runs.fill_by_words.Goals as goal

-- The sum of so few bytes is all in its lowest 32 bits.
small : (mode : Mode) (c : ℕ → ℕ) (a p n : ℕ) → n < 8192 → bytes_clocks mode c a p n ≡ bytes_clocks mode c a p n % 2 ^ 32
small mode c a p n h = omega (arith, clocks_le mode c a p n)

pub loop-i-preserved : goal.loop-i-preserved
loop-i-preserved c =
    let l = c.loop-i in
    let h = c.loop-i-test.true in
    let a = c.args in
    let s = a.image.now in
    let from = a.at + 2 * l.i in
    let q = 8 * from + a.shift in
    let bytes : (i : ℕ) → get_or s i 0 < 256 = λ i. (c.type_inv.image i).fits in
    let first = c.word_at-word in
    let second = c.word_at-next in
    let window = c.word_window-cells in
    let earlier = c.word_window in
    let next : 8 * from + (a.shift + 1) ≡ q + 1 = omega arith in
    let cells = rw next at
    (word_octets s bytes from (a.shift + 1) first.result second.result window.result (search rules)
    first.ensures second.ensures window.ensures) in
    let before = word_octets s bytes from a.shift first.result second.result earlier.result (search rules)
    first.ensures second.ensures earlier.ensures in
    let byte = c.word_data.ensures ∙ word_read s (q + 1) window.result cells.0 cells.1 in
    let told = c.right_in_word-right.ensures in
    let doubtful : 8 - c.right_in_word-right.result ≡ word_clocks a.mode earlier.result window.result = omega (arith, told.0) in
    let count = doubtful
    ∙ words_clocks a.mode (cell s) (cell_lt s) q earlier.result window.result before.0 before.1 cells.0 cells.1 in
    let within : l.i < length a.bytes.now = omega arith in
    let turned : 8 * (l.i + 1) - (l.right + c.right_in_word-right.result) ≡ 8 * l.i - l.right + (8 - c.right_in_word-right.result) =
    omega (arith, l.invariant.small, told.1) in
    let next-q = 8 * (a.at + 2 * (l.i + 1)) + a.shift in
    let onward : next-q ≡ q + 1 + 15 = omega arith in record {
      stored = l.invariant.stored ∙ fill_turn _ _ _ _ _ _ _ within byte (omega arith);
      counted =
          rw turned (sum_turn a.mode (cell s) (cell s q) (cell s next-q) (q + 1) (next-q + 1) l.i
          (length a.bytes.now) (8 * l.i - l.right) (8 - c.right_in_word-right.result) _ within (omega arith) (ap (cell s) onward) count
          l.invariant.counted);
      small = search rules;
    }

pub returns : goal.returns
returns c =
    let a = c.args in
    let l = c.loop-i in
    let n = length a.bytes.now in
    let s = a.image.now in
    let q = 8 * a.at + a.shift in
    let past : n ≤ l.i = omega arith in
    let long : length l.bytes ≡ l.i = omega arith in
    let sum : 8 * l.i - l.right ≡ bytes_clocks a.mode (cell s) (cell s q) (q + 1) n =
    rw (clocks_end a.mode (cell s) _ _ l.i n past, add-zero) at l.invariant.counted in
    record {
      bytes = fill_whole _ _ _ _ n a.bytes.now l.bytes refl past l.invariant.stored;
      clocks =
          ap (λ (k : ℕ). 8 * k - l.right) long
          ∙ sum
          ∙ small a.mode (cell s) (cell s q) (q + 1) n c.requires.2;
    }
