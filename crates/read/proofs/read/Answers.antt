-- `read` meets its contract: the area is cleared, the tests decide, and what passes them is read.
use mathlib.Core.Path.{ap, ◌∙◌}
use Prim.Native.Nat.{ℕ}
use native.Mathlib.Omega.{arith}
use lib.ListN.{length, replicate}
use Rattle.calls.proofs.Refusals.{told_passed}
use Rattle.read.proofs.Passing.{modest, read_known, area_whole}
use Rattle.read.proofs.read.Goals as goal

pub invariant_of-image : goal.invariant_of-image
invariant_of-image c =
    let a = c.args in
    let passes = told_passed _ c.in_ok-tested.ensures in
    let known = read_known a.numbers.layout a.numbers.cylinder a.numbers.side (length a.image.now) (length a.area.now) passes in
    record { housed = omega (arith, known.long) }

pub read_track-requires : goal.read_track-requires
read_track-requires c =
    let a = c.args in
    let given = length a.area.now in
    let passes = told_passed _ c.in_ok-tested.ensures in
    let whole = area_whole a.numbers.layout a.numbers.cylinder a.numbers.side (length a.image.now) given passes in
    let t = c.track.ensures in (
      rw t (modest a.numbers.layout),
      rw t (c.clear.ensures ∙ ap (λ (k : ℕ). replicate k 0) whole),
    )
