-- `three` meets its contract: where the third byte lies past the end it is 0.
use native.Mathlib.Nat.{add-zero}
use native.Mathlib.Omega.{arith}
use lib.ListN.{get_or-eq_default}
use Rattle.search.specs.Aids.{word_at}
use Rattle.search.proofs.places.three.Goals as goal

pub returns-then-at-image : goal.returns-then-at-image
unfolding word_at
returns-then-at-image c = simp add-zero (omega (arith, c.from_be_bytes.ensures))

pub returns : goal.returns
unfolding word_at
returns c =
    let s = c.args in
    let past = get_or-eq_default s.image.now 0 c.if-at-image.false in
    simp add-zero (omega (arith, c.from_be_bytes-2.ensures, past))
