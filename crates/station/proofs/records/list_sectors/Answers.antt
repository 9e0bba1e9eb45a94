-- `list_sectors` meets its contract: what is left to list from index i on ends where the whole does.
use borrow.Author.Rules.{rules}
use mathlib.Core.Path.{sym, ap, ◌∙◌}
use Prim.Native.Nat.{ℕ}
use lib.ListN.{length, length-set, length-replicate}
use Rattle.station.proofs.Listing.{listed_turn, listed_end, listed_start}
use Rattle.station.proofs.records.list_sectors.Goals as goal

pub loop-i-init : goal.loop-i-init
loop-i-init c =
    let h = c.requires in
    (search rules, ap length h.1 ∙ length-replicate {A = ℕ} _ 0, listed_start _ _ _ h.0 h.1)

pub bounds-list-i-in-loop-i : goal.bounds-list-i-in-loop-i
bounds-list-i-in-loop-i c = simp length-set (search rules)

pub bounds-list-i-in-loop-i-2 : goal.bounds-list-i-in-loop-i-2
bounds-list-i-in-loop-i-2 c = simp length-set (search rules)

pub loop-i-preserved : goal.loop-i-preserved
loop-i-preserved c =
    let l = c.loop-i in (
      search rules,
      simp length-set l.invariant.1,
      l.invariant.2 ∙ listed_turn _ _ l.list _ l.i c.loop-i-test.true c.record_numbers-numbers.ensures,
    )

pub shape_of-list : goal.shape_of-list
shape_of-list c = c.loop-i.invariant.1 ∙ sym (ap length c.requires.1 ∙ length-replicate {A = ℕ} _ 0)

pub returns : goal.returns
returns c =
    let l = c.loop-i in
    sym (l.invariant.2 ∙ listed_end _ _ _ l.i c.loop-i-test.false)
