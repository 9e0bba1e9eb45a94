-- `tried` meets its contract: before the place to look at next there is nothing, and behind it only what is left of the entry.
use mathlib.Core.Path.{sym}
use borrow.Author.Rules.{rules}
use Rattle.search.proofs.Firsts.{stood}
use Rattle.search.proofs.Passing.{entry, after, met}
use Rattle.search.proofs.tables.tried.Goals.{in-Some+else-contains, in_default}
use Rattle.search.proofs.tables.tried.Goals as goal

pub loop-left-init : goal.loop-left-init
loop-left-init c = entry _ _ _ _ _ _ _ c.requires.0.0 c.requires.1

pub returns-then-contains : goal.returns-then-contains
returns-then-contains c =
    met _ _ _ _ _ _ _ c.requires.0.0 c.loop-left.invariant (sym (rw c.in-Some.is at c.standing.ensures)) (search rules) (search rules)

pub loop-left-preserved : goal.loop-left-preserved
loop-left-preserved c =
    after _ _ _ _ _ _ _ c.requires.0.0 c.loop-left.invariant (search rules)
    (elim c.match-standing.branch [
      | in-Some+else-contains w ↦ λ l u. let same = (stood _ _ _ _ _ _ _ (sym (rw w.in-Some.is at c.standing.ensures))).0 in absurd (search rules)
      | in_default w ↦ λ _ _. sym (rw w.in_default.is at c.standing.ensures)
    ])
