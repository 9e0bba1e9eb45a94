-- `read_track` meets its contract: what it holds is what the events met so far give, and the rest is still to come.
use borrow.Author.Rules.{rules}
use mathlib.Core.Path.{◌≡◌, sym, ap, ◌∙◌}
use mathlib.Core.List.{List, ◌∷◌, ◌++◌}
use Prim.Native.Nat.{ℕ, ◌+◌, ◌-◌, ◌*◌, ◌≤◌, ◌<◌}
use native.Mathlib.Omega.{arith}
use lib.ListN.{length, set, length-replicate}
use Rattle.cells.specs.Cells.{cell}
use Rattle.layouts.specs.declared.Track.{Track}
use Rattle.marks.specs.Outcomes.{Housed}
use Rattle.walk.specs.Outcomes.{met}
use Rattle.walk.specs.Turns.{Placed}
use Rattle.walk.specs.declared.Block.{Block}
use Rattle.walk.specs.declared.Event.{Event}
use Rattle.walk.specs.declared.Event.TheVariants.{Accepted}
use Rattle.read.specs.Turns.{Modest}
use Rattle.answers.specs.declared.Record.{Record}
use Rattle.read.proofs.States.{State, state_start, state_bad, state_foreign, state_accepted}
use Rattle.walk.proofs.Events.{counts_few}
use Rattle.walk.proofs.Walking.{met_next, met_few, met_accepted}
use Rattle.read.proofs.tracks.read_track.Goals.{In-Accepted}
use Rattle.read.proofs.tracks.read_track.Goals as goal

-- One event more was met.
module _ (t : Track) (image : List ℕ) (done : List Event) {now rest : List Event} (x : Event) (housed : Housed image) where
  onto : met t image ≡ done ++ now → now ≡ x ∷ rest → met t image ≡ done ++ x ∷ rest
  onto split next = split ∙ ap (λ es. done ++ es) next

  -- What is known of an accepted identifier: its sector is one of the track's, and its block has a place.
  known : (sector : ℕ) (block : Block) → Modest t.layout → met t image ≡ done ++ now → now ≡ x ∷ rest → x ≡ Accepted sector block
      → (1 ≤ sector) × (sector ≤ t.layout.sectors) × Placed t.layout.mode (cell image) (8 * length image) block × Modest t.layout
  known sector block modest split next is =
      let few : 8 * length image ≤ 2147483648 = omega (arith, housed) in
      let k = met_accepted _ _ _ _ _ _ (onto split next) sector block is few in
      (k.0, k.1, k.2, modest)

  -- The counts have room for one more.
  counted : {records : List Record} {area : List ℕ} {bad foreign : ℕ} → met t image ≡ done ++ now → now ≡ x ∷ rest
      → State t (cell image) (8 * length image) done records area bad foreign → bad + foreign < 2147483648
  counted split next state =
      omega (arith, housed, met_few _ _ _ _ _ _ (onto split next), counts_few done, state.has_bad, state.has_foreign)

-- The same where the walk has met one.
accepted : (c : In-Accepted) → (1 ≤ c.in-Accepted.sector) × (c.in-Accepted.sector ≤ c.args.track.layout.sectors)
    × Placed c.args.track.layout.mode (cell c.args.image.bytes.now) (8 * length c.args.image.bytes.now) c.in-Accepted.block × Modest c.args.track.layout
accepted c =
    known _ _ c.loop-event.yielded _ c.args.image.housed _ _ c.requires.0 c.loop-event.invariant.0 (rw c.in-Some.is at c.next.ensures.steps.first) c.in-Accepted.is

pub loop-event-init : goal.loop-event-init
loop-event-init c =
    let s = c.requires in
    let unread = c.unread_records-records.ensures in
    (rw c.into_iter-event-iterator.ensures.into_iter_gives (sym c.met-event-items.ensures.all), ap length s.1 ∙ length-replicate _ 0, rw unread (state_start _ _ _ _ s.1))

pub overflow_add-bad : goal.overflow_add-bad
overflow_add-bad c =
    let few = counted _ _ c.loop-event.yielded _ c.args.image.housed c.loop-event.invariant.0 (rw c.in-Some.is at c.next.ensures.steps.first) c.loop-event.invariant.2 in
    search rules

pub loop-event-preserved-in-Bad : goal.loop-event-preserved-in-Bad
loop-event-preserved-in-Bad c =
    let l = c.loop-event in (
      met_next l.yielded l.invariant.0 (rw c.in-Some.is at c.next.ensures.steps.first),
      l.invariant.1,
      rw c.in-Bad.is (state_bad _ _ _ l.invariant.2),
    )

pub overflow_add-foreign : goal.overflow_add-foreign
overflow_add-foreign c =
    let few = counted _ _ c.loop-event.yielded _ c.args.image.housed c.loop-event.invariant.0 (rw c.in-Some.is at c.next.ensures.steps.first) c.loop-event.invariant.2 in
    search rules

pub loop-event-preserved-in-Foreign : goal.loop-event-preserved-in-Foreign
loop-event-preserved-in-Foreign c =
    let l = c.loop-event in (
      met_next l.yielded l.invariant.0 (rw c.in-Some.is at c.next.ensures.steps.first),
      l.invariant.1,
      rw c.in-Foreign.is (state_foreign _ _ _ l.invariant.2),
    )

pub overflow_sub-before : goal.overflow_sub-before
overflow_sub-before c = (accepted (goal.at.overflow_sub-before c).In-Accepted).0

pub offset_bounds-records-sector : goal.offset_bounds-records-sector
offset_bounds-records-sector c =
    let k = accepted (goal.at.offset_bounds-records-sector c).In-Accepted in
    omega (arith, k.1, k.3)

pub bounds-records-sector : goal.bounds-records-sector
bounds-records-sector c =
    let k = accepted (goal.at.bounds-records-sector c).In-Accepted in
    omega (arith, k.0, k.1, k.3)

pub enter-after-requires : goal.enter-after-requires
enter-after-requires c =
    let k = accepted (goal.at.enter-after-requires c).In-Accepted in
    (c.requires.0, k.0, k.1, k.2, c.loop-event.invariant.1)

pub overflow_sub-records : goal.overflow_sub-records
overflow_sub-records c = (accepted (goal.at.overflow_sub-records c).In-Accepted).0

pub offset_bounds-records-sector-in-Accepted : goal.offset_bounds-records-sector-in-Accepted
offset_bounds-records-sector-in-Accepted c =
    let k = accepted (goal.at.offset_bounds-records-sector-in-Accepted c).In-Accepted in
    omega (arith, k.1, k.3)

pub bounds-records-sector-in-Accepted : goal.bounds-records-sector-in-Accepted
bounds-records-sector-in-Accepted c =
    let k = accepted (goal.at.bounds-records-sector-in-Accepted c).In-Accepted in
    omega (arith, k.0, k.1, k.3)

pub loop-event-preserved : goal.loop-event-preserved
loop-event-preserved c =
    let k = accepted (goal.at.loop-event-preserved c).In-Accepted in
    let l = c.loop-event in
    let e = c.enter-after in
    let at = c.in-Accepted.sector - 1 in (
      met_next l.yielded l.invariant.0 (rw c.in-Some.is at c.next.ensures.steps.first),
      e.auto.area ∙ l.invariant.1,
      rw c.in-Accepted.is
          (state_accepted _ _ _ l.invariant.2 _ _ k.3.1 k.3.2 k.0 k.1 (ap (λ (r : Record). set l.records at r) e.ensures.0) e.ensures.1),
    )
