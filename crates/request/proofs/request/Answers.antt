-- `request` meets its contract: the tests before the walk, and then what the walk located.
use Rattle.request.proofs.Noting.{asked_wrong, not_walked, cell_small, asked_right}
use Rattle.request.proofs.request.Goals as goal

pub returns-in_err-call_tests : goal.returns-in_err-call_tests
returns-in_err-call_tests c = asked_wrong _ _ _ _ _ _ _ _ _ c.in_err-call_tests.ensures c.from_residual.ensures.1

pub returns-in_err-located : goal.returns-in_err-located
returns-in_err-located c = absurd (not_walked _ _ _ _ _ _ _ c.in_ok-call_tests.ensures _ c.in_err-located.ensures)

pub noted-requires : goal.noted-requires
noted-requires c =
    let a = c.args in
    cell_small a.numbers.layout a.numbers.cylinder a.numbers.side a.sector a.mark a.contents.now a.image.now c.in_ok-call_tests.ensures _ c.in_ok-located.ensures

pub returns : goal.returns
returns c = asked_right _ _ _ _ _ _ _ c.in_ok-call_tests.ensures _ c.in_ok-located.ensures _ c.noted.ensures
