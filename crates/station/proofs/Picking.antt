-- What is known where a pass is taken, for the numbers that name its slot.
use mathlib.Core.Path.{◌≡◌}
use Prim.Native.Nat.{ℕ, ◌-◌, ◌*◌, ◌≤◌}
use Rattle.std.specs.Prelude.{Result, Ok, Err, IfOk}
use native.Mathlib.Omega.{arith}
use Rattle.layouts.specs.Layouts.{layout_of, most_sectors}
use Rattle.calls.specs.declared.Refusal.{Refusal}
use Rattle.calls.proofs.Refusals.{passed_with}
use Rattle.pick.specs.Picks.{chosen_of}
use Rattle.answers.specs.declared.Record.{Record}
use Rattle.pick.specs.declared.Choice.{Choice}
use Rattle.pick.specs.declared.Choice.TheVariants.{First, Second, Neither}
use Rattle.read.proofs.Passing.{modest}
use Rattle.pick.proofs.Picking.{pickable}
use Rattle.layouts.proofs.Layouts.{slot_room}
use Rattle.station.specs.Picks.{There, Taken}

-- A slot's numbers are small: it lies within an area of the most sectors.
pub slot_small : (layout sector : ℕ) → There sector → ((layout_of layout).size ≤ 65536) × ((sector - 1) * (layout_of layout).size ≤ 1703936)
slot_small layout sector known =
    let small = (modest layout).0 in
    let room = slot_room (layout_of layout).size most_sectors sector known.0 known.1 in
    (small, omega arith)

-- Where a pass is taken the tests have passed, and so the sector is among those that there are.
pub chosen_known : (layout sector first second : ℕ) (one two : Record) (p : Result Choice Refusal) → p ≡ chosen_of layout sector first second one two
    → IfOk p (Taken sector)
unfolding chosen_of
chosen_known layout sector first second one two (Err f) e = tt
chosen_known layout sector first second one two (Ok choice) e = go choice
  where
    there : There sector
    there = let k = pickable layout sector first second (passed_with _ _ _ e).0 in (k.low, k.few)

    go : (p : Choice) → Taken sector p
    go (First r) = there
    go (Second r) = there
    go (Neither r) = tt
