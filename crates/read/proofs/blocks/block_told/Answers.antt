-- `block_told` meets its contract: the mark decides, and then its record's first byte and EDC.
use mathlib.Core.Path.{ap}
use Prim.Native.Nat.{ℕ, ◌*◌}
use Rattle.marks.specs.declared.Mark.TheVariants as marks
use Rattle.read.proofs.Answering.{is_data, is_control, is_open, block_open, block_decided}
use Rattle.read.proofs.blocks.block_told.Goals as goal

pub returns-then-stands : goal.returns-then-stands
returns-then-stands c =
    block_decided _ _ _ _ marks.Data _ _ (ap (λ (k : ℕ). 16 * k) c.mark_bytes.ensures.0) c.requires.1
    (is_data _ _ _ _ _ c.stands.ensures c.if-stands.true) c.checked.ensures

pub returns-then-stands-2 : goal.returns-then-stands-2
returns-then-stands-2 c =
    block_decided _ _ _ _ marks.Control _ _ (ap (λ (k : ℕ). 16 * k) c.mark_bytes.ensures.0) c.requires.1
    (is_control _ _ _ _ _ c.stands.ensures _ c.stands-2.ensures c.if-stands-2.true)
    c.checked-then-stands-2.ensures

pub returns : goal.returns
returns c =
    let s = c.requires in
    block_open _ _ _ _ _ _ (ap (λ (k : ℕ). 16 * k) c.mark_bytes.ensures.0) s.1
    (is_open _ _ _ _ _ c.stands.ensures _ c.stands-2.ensures c.if-stands.false c.if-stands-2.false s.2.1)
    c.opened.ensures
