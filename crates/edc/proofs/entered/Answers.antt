-- `edc::entered` meets its contract. The invariant of both loops: from the register that the present word stands for the bytes that are left lead
-- where all of them lead from the first.
use Rattle.std.proofs.Common.{◌≡◌, ℕ, ◌+◌, ◌*◌, ◌/◌, [], length, drop, sym, ap, ap₂, ◌∙◌, arith}
use Rattle.std.specs.Int.{w64, from_be_bytes}
use Rattle.edc.specs.Register.{bytes_entered}
use Rattle.edc.specs.Words.{word_entered, stands_for}
use Rattle.edc.proofs.Laws.{bytes_step, bytes_end}
use Rattle.edc.proofs.Words.{eight_on, part_at, word_on}
use Rattle.edc.proofs.entered.Goals as goal

pub loop-eight-preserved : goal.loop-eight-preserved
loop-eight-preserved c =
    let l = c.loop-eight in
    let bytes = c.args.bytes.now in
    let at = l.eight-index * 8 in
    let eights = c.as_chunks.ensures.front in
    let part = rw (← eights) at (part_at 8 (length bytes / 8) l.eight-index bytes [] (omega arith)) in
    let word = c.from_be_bytes.ensures ∙ ap (from_be_bytes w64) part in
    let next : at + 8 ≡ (l.eight-index + 1) * 8 = omega arith in
    l.invariant
    ∙ eight_on bytes at (omega arith) (λ i. (c.type_inv.bytes i).fits) (stands_for l.word)
    ∙ ap₂ (λ k (i : ℕ). bytes_entered k (drop i bytes))
    (sym (word_on l.word c.folded.result c.from_be_bytes.result c.folded.ensures ∙ ap (word_entered (stands_for l.word) 64) word)) next

pub loop-byte-preserved : goal.loop-byte-preserved
loop-byte-preserved c = c.loop-byte.invariant ∙ bytes_step _ _ _ c.loop-byte.byte-index (omega arith) c.pushed-word.ensures

pub returns : goal.returns
returns c = sym (c.loop-byte.invariant ∙ bytes_end _ _ c.loop-byte.byte-index (omega arith))
