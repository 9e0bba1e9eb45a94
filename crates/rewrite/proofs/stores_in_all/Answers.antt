-- `stores_in_all` meets its contract: none above the highest layout, else the count of the plan's block.
use mathlib.Core.Path.{◌∙◌}
use native.Mathlib.Omega.{arith}
use Rattle.calls.proofs.Refusals.{answer_err, answer_ok}
use Rattle.rewrite.proofs.Counted.{count_most}
use Rattle.rewrite.proofs.stores_in_all.Goals as goal

pub returns-then-is_err : goal.returns-then-is_err
returns-then-is_err c = answer_err _ 0 _ _ c.layout_number.ensures c.if-is_err.ensures.value

pub overflow_cast-result : goal.overflow_cast-result
overflow_cast-result c =
    let b = c.of.result in
    omega (arith, b.small, c.stores.ensures, count_most b.layout b.plan.place c.args.bytes)

pub returns : goal.returns
returns c =
    (rw (c.of.ensures.0, c.of.ensures.1) at c.stores.ensures) ∙ answer_ok _ 0 _ _ c.layout_number.ensures c.if-is_err.ensures.value
