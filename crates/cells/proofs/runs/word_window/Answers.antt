-- `word_window` meets its contract: the masks keep the lower cells of one word and the upper ones of the next.
use Rattle.std.proofs.Common.{arith, rules}
use Rattle.cells.proofs.Words.{word_windows}
use Rattle.cells.proofs.runs.word_window.Goals as goal

pub overflow_add-result : goal.overflow_add-result
overflow_add-result c =
    let a = c.args in
    omega (
      arith,
      word_windows a.word a.next a.shift c.low_bits.result c.low_bits-2.result (search rules) (search rules)
          c.requires c.low_bits.ensures c.low_bits-2.ensures,
    )

pub returns : goal.returns
returns c =
    let a = c.args in
    word_windows a.word a.next a.shift c.low_bits.result c.low_bits-2.result (search rules) (search rules)
    c.requires c.low_bits.ensures c.low_bits-2.ensures
