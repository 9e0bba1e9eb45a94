-- `write_run` meets its contract: its first byte, and the others, which are all coded alike.
use mathlib.Core.Path.{refl, ◌∙◌}
use native.Mathlib.Omega.{arith}
use Rattle.format.proofs.Writing.{pairs_turn, run_stored, run_none}
use borrow.Author.Rules.{rules}
use Rattle.format.proofs.write.write_run.Goals as goal

pub returns-then-count-eq0 : goal.returns-then-count-eq0
returns-then-count-eq0 c =
    let a = c.args in
    record {
      written = run_none a.area.now a.at a.count a.mode a.before a.byte c.if-count-eq0.true;
      behind = omega (arith, c.if-count-eq0.true);
    }

pub loop-i-init : goal.loop-i-init
loop-i-init c = (search rules, search rules, refl, refl)

pub loop-i-preserved : goal.loop-i-preserved
loop-i-preserved c = (
  search rules,
  search rules,
  c.write_pair-in-loop-i.auto.area ∙ c.loop-i.invariant.2,
  c.loop-i.invariant.3 ∙ pairs_turn _ _ _ _ _ _ c.loop-i-test.true c.write_pair-in-loop-i.ensures,
)

pub returns : goal.returns
returns c =
    record {
      written =
          run_stored _ _ _ _ c.loop-i.i _ _ _ _ _ _ c.if-count-eq0.false c.loop-i-test.false c.write_pair.ensures c.coded.ensures
          c.coded-pair.ensures c.loop-i.invariant.3;
      behind = refl;
    }
