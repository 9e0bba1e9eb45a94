-- `pair` meets its contract: a byte of the contents after the byte before it, or one of the EDC.
use Rattle.marks.specs.Marks.{mark_of}
use Rattle.rewrite.proofs.Worked.{data_coded, upper_coded, lower_coded}
use Rattle.rewrite.proofs.values.Field.pair.Goals as goal

pub returns-then-i-contents : goal.returns-then-i-contents
returns-then-i-contents c =
    let f = c.args.self in
    let p = data_coded f.mode (mark_of f.mark) f.contents.now c.args.i _ c.coded.result c.if-i-contents.true c.bit_before.ensures.0 c.coded.ensures in
    record { first_value = p.0; second_value = p.1 }

pub returns-then-i-contents-2 : goal.returns-then-i-contents-2
returns-then-i-contents-2 c =
    let f = c.args.self in
    let p = upper_coded f.mode (mark_of f.mark) f.contents.now c.args.i _ c.edc-register.ensures _ c.coded-then-i-contents-2.result
    c.if-i-contents-2.true c.bit_before-then-i-contents-2.ensures.0 c.coded-then-i-contents-2.ensures in
    record { first_value = p.0; second_value = p.1 }

pub returns : goal.returns
returns c =
    let f = c.args.self in
    let p = lower_coded f.mode (mark_of f.mark) f.contents.now c.args.i _ c.edc-register.ensures c.coded-2.result
    c.if-i-contents.false c.if-i-contents-2.false c.requires c.coded-2.ensures in
    record { first_value = p.0; second_value = p.1 }
