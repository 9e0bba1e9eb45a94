-- `station_format` meets its contract: the answer of `format`, by its number.
use mathlib.Core.Path.{ap, ◌∙◌}
use Rattle.calls.specs.Refusals.{checked_number}
use Rattle.calls.proofs.Refusals.{number_told}
use Rattle.station.proofs.station_format.Goals as goal

pub returns : goal.returns
returns c =
    let f = c.format-answer.ensures in
    record { answers = c.checked_number.ensures ∙ ap checked_number f.answers ∙ number_told _; leaves = f.leaves }
