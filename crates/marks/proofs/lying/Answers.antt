-- `lying` meets its contract: the bytes are compared where they lie within the image.
use Rattle.std.proofs.Common.{sym, ◌∙◌, arith}
use borrow.Author.Tests.{leb-true, leb-false}
use Rattle.marks.proofs.Spelling.{lies_within, lies_beyond}
use Rattle.marks.proofs.lying.Goals as goal
use Rattle.marks.proofs.lying.Goals.{then-place-cells, else-place-cells}

pub returns-then-width-cells : goal.returns-then-width-cells
returns-then-width-cells c =
    c.spelled.ensures
    ∙ sym (lies_within _ _ _ _ (elim c.if-place-cells.branch [
      | then-place-cells w ↦ omega (arith, leb-true _ _ (sym w.value-is ∙ c.if-width-cells.true))
      | else-place-cells w ↦ omega (arith, leb-true _ _ (sym w.value-is ∙ c.if-width-cells.true))
    ]))

pub returns-else-width-cells : goal.returns-else-width-cells
returns-else-width-cells c =
    c.if-width-cells.false
    ∙ sym (lies_beyond _ _ _ _ (elim c.if-place-cells.branch [
      | then-place-cells w ↦ omega (arith, leb-false _ _ (sym w.value-is ∙ c.if-width-cells.false))
      | else-place-cells w ↦ omega arith
    ]))
