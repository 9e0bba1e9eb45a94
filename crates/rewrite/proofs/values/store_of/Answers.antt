-- `store_of` meets its contract: each arm is the store of its number.
use mathlib.Core.Path.{◌≡◌}
use Prim.Native.Nat.{ℕ, ◌+◌, ◌-◌, ◌*◌, ◌/◌}
use native.Mathlib.Omega.{arith}
use Rattle.layouts.specs.declared.Layout.{Layout}
use Rattle.marks.specs.Marks.{mark_bytes, mark_of}
use Rattle.rewrite.specs.Stores.{mark_end}
use Rattle.rewrite.proofs.Listed.{mark_last_lem}
use Rattle.rewrite.proofs.Worked.{opened, coded_in, after_within, joined_in, closed}
use Rattle.rewrite.proofs.values.store_of.Goals as goal

-- Where the mark ends.
ended : (l : Layout) (place k : ℕ) → k ≡ mark_bytes l.mode → place / 8 + 2 * k - 1 ≡ mark_end l place
ended l place k e = omega (arith, mark_last_lem l.mode)

pub returns-then-made-eq0 : goal.returns-then-made-eq0
returns-then-made-eq0 c =
    opened _ c.args.image.now _ _ c.args.contents.now c.requires.whole _ (ended c.args.block.layout c.args.block.plan.place _ c.mark_bytes.ensures.0)
    _ _ c.if-made-eq0.true c.last_byte.ensures

pub returns-then-made-contents : goal.returns-then-made-contents
returns-then-made-contents c =
    coded_in _ c.args.image.now _ _ c.args.contents.now c.requires.whole _ (ended c.args.block.layout c.args.block.plan.place _ c.mark_bytes.ensures.0)
    _ _ c.if-made-eq0.false c.if-made-contents.true c.byte.ensures

pub bounds-image-after : goal.bounds-image-after
bounds-image-after c =
    after_within _ c.args.image.now _ (mark_of c.args.mark) c.args.contents.now c.requires.whole _
    (ended c.args.block.layout c.args.block.plan.place _ c.mark_bytes.ensures.0) _ c.if-made-contents.false c.requires.unfinished _ c.stores.ensures
    c.if-made-stores.true

pub returns-then-made-stores : goal.returns-then-made-stores
returns-then-made-stores c =
    joined_in _ c.args.image.now _ _ c.args.contents.now c.requires.whole _ (ended c.args.block.layout c.args.block.plan.place _ c.mark_bytes.ensures.0)
    _ c.if-made-contents.false c.requires.unfinished _ c.stores.ensures _ c.if-made-stores.true c.joined.ensures

pub returns : goal.returns
returns c =
    closed _ c.args.image.now _ _ c.args.contents.now c.requires.whole _ (ended c.args.block.layout c.args.block.plan.place _ c.mark_bytes.ensures.0)
    _ c.if-made-contents.false c.requires.unfinished _ c.stores.ensures _ c.if-made-stores.false (rw (← c.mark_of.ensures) c.last_byte-2.ensures)
