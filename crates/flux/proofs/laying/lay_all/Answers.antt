-- `lay_all` meets its contract: each test in its order, and the intervals behind the first cell.
use Rattle.std.proofs.Common.{◌≡◌, ℕ, Bool, false, not, ◌||◌, ltb, Some, sym, ap, ◌∙◌, arith}
use Rattle.std.specs.Ordering.{nat_cmp}
use Rattle.std.specs.Range.{range_inclusive_start, range_inclusive_end, range_inclusive_exhausted, range_inclusive_contains}
use Rattle.std.specs.declared.ops.RangeInclusive.{RangeInclusive}
use Rattle.std.proofs.lemmas.Bool.Decides.{nat_tests}
use Rattle.flux.proofs.Whole.{out_of_range, without_stamps, without_room, with_intervals}
use Rattle.flux.proofs.laying.lay_all.Goals as goal
use Rattle.flux.proofs.laying.lay_all.Goals.{After-contains}

-- The test of 41, by the range.
bounds : (x : ℕ)
    → (ltb x 16 || ltb 1024 x) ≡ not (range_inclusive_contains (λ a b. Some (nat_cmp a b)) (record { start = 16; end = 1024; exhausted = false }) x)
bounds x = grind (arith, nat_tests)

-- `contains` tells it.
tells : (r : RangeInclusive ℕ) (b : Bool) (x : ℕ) → b ≡ range_inclusive_contains (λ a b. Some (nat_cmp a b)) r x → range_inclusive_start r ≡ 16
    → range_inclusive_end r ≡ 1024 → range_inclusive_exhausted r ≡ false → (ltb x 16 || ltb 1024 x) ≡ not b
tells r b x e s t u = bounds x ∙ sym (ap not (e ∙ rw (s, t, u)))

asked : (c : After-contains) → (ltb c.args.ticks 16 || ltb 1024 c.args.ticks) ≡ not c.contains.result
asked c = tells c.new.result _ _ c.contains.ensures.value c.new.ensures.start c.new.ensures.end c.new.ensures.exhausted

pub returns-then-not-contains : goal.returns-then-not-contains
returns-then-not-contains c = out_of_range _ _ _ _ (asked (goal.at.returns-then-not-contains c).After-contains ∙ ap not c.if-not-contains.true)

pub returns-then-is_empty : goal.returns-then-is_empty
returns-then-is_empty c =
    without_stamps _ _ _ (asked (goal.at.returns-then-is_empty c).After-contains ∙ ap not c.if-not-contains.false) _
    (sym c.is_empty.ensures ∙ c.if-is_empty.true)

pub returns-then-is_empty-2 : goal.returns-then-is_empty-2
returns-then-is_empty-2 c =
    without_room _ _ _ (asked (goal.at.returns-then-is_empty-2 c).After-contains ∙ ap not c.if-not-contains.false)
    (sym c.is_empty.ensures ∙ c.if-is_empty.false) _ (sym c.is_empty-2.ensures ∙ c.if-is_empty-2.true)

pub returns : goal.returns
returns c =
    with_intervals _ _ _ (asked (goal.at.returns c).After-contains ∙ ap not c.if-not-contains.false)
    (sym c.is_empty.ensures ∙ c.if-is_empty.false) (sym c.is_empty-2.ensures ∙ c.if-is_empty-2.false) _ _ _
    c.begin.ensures c.lay_intervals.ensures
