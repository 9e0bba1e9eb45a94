-- `station_read` meets its contract: what `read` answers, in numbers.
use mathlib.Core.Path.{ap, ◌∙◌}
use Rattle.calls.specs.Refusals.{checked_number}
use Rattle.station.specs.Outcomes.{answered_records, answered_counts}
use Rattle.station.proofs.Passes.{read_few, read_number}
use Rattle.station.proofs.station_read.Goals as goal

pub list_answered-requires : goal.list_answered-requires
list_answered-requires c = read_few _ _ _ _ _ _ c.read-answer.ensures.answers

pub returns : goal.returns
returns c =
    let r = c.read-answer.ensures in
    record {
      numbered = c.checked_number.ensures ∙ ap checked_number r.answers ∙ read_number _ _ _ _ _;
      leaves = r.leaves;
      recorded = c.list_answered.ensures ∙ ap answered_records r.answers;
      counted = c.answered_counts.ensures ∙ ap answered_counts r.answers;
    }
