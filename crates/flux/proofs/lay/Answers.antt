-- `lay` meets its contract: what was laid stays, and a refusal clears the image.
use Rattle.std.proofs.Common.{ℕ, replicate, sym, ap, ◌∙◌}
use Rattle.flux.proofs.Whole.{cleared, kept}
use Rattle.flux.proofs.lay.Goals as goal

pub returns-then-is_err : goal.returns-then-is_err
returns-then-is_err c =
    let all = c.lay_all-answer in
    cleared _ _ _ _ _ _ all.ensures (sym c.is_err.ensures.value ∙ c.if-is_err.true) (c.clear.ensures ∙ ap (λ (k : ℕ). replicate k 0) all.auto.image)

pub returns-else-is_err : goal.returns-else-is_err
returns-else-is_err c = kept _ _ _ _ _ c.lay_all-answer.ensures (sym c.is_err.ensures.value ∙ c.if-is_err.false)
