-- `record_at` meets its contract: the sector's part of the numbers, or none.
use mathlib.Core.Path.{refl, sym, ap, ◌∙◌}
use Prim.Native.Nat.{◌+◌, ◌-◌, ◌*◌, ◌≤◌}
use native.Mathlib.Omega.{arith}
use Rattle.layouts.specs.Layouts.{most_sectors}
use Rattle.answers.specs.Answers.{answer_of}
use Rattle.answers.proofs.Fields.{same_record}
use Rattle.station.specs.Records.{record_width, numbered_record}
use Rattle.station.proofs.Listing.{slot_number, slot_past}
use Rattle.station.proofs.records.record_at.Goals as goal

pub returns-then-index-lt-MOST_SECTORS : goal.returns-then-index-lt-MOST_SECTORS
returns-then-index-lt-MOST_SECTORS c =
    let a = c.args in
    let list = a.list.now in
    let at = (a.sector - 1) * record_width in
    let index = c.index_of-index.result * record_width in
    let number = slot_number record_width 0 at index list (omega arith) (omega (arith, c.index_of-index.ensures)) in
    let place = slot_number record_width 1 at (index + 1) list (omega arith) (omega (arith, c.index_of-index.ensures)) in
    let clocks = slot_number record_width 2 at (index + 2) list (omega arith) (omega (arith, c.index_of-index.ensures)) in
    same_record (c.answer_of.ensures ∙ ap answer_of number) place clocks

pub returns : goal.returns
returns c =
    let past : most_sectors ≤ c.args.sector - 1 = omega (arith, c.index_of-index.ensures, c.if-index-lt-MOST_SECTORS.false) in
    same_record c.answer_of-2.ensures refl refl
    ∙ sym (ap numbered_record (slot_past c.args.sector c.args.list.now c.requires past))
