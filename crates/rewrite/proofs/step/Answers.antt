-- `step` meets its contract: the tests decide, and what passes them makes the one store that is next.
use Prim.Native.Nat.{◌<◌}
use native.Mathlib.Omega.{arith}
use Rattle.rewrite.proofs.Judged.{accepted, store_within, refused_step, made_step}
use Rattle.rewrite.proofs.step.Goals as goal

pub returns-in_err-plan_tests : goal.returns-in_err-plan_tests
returns-in_err-plan_tests c =
    let b = c.of-block.ensures in
    rw b.0 at (refused_step _ _ _ _ _ (rw b.0 b.1) _ c.in_err-plan_tests.ensures _ c.from_residual.ensures.1)

pub overflow_cast-mark : goal.overflow_cast-mark
overflow_cast-mark c =
    let b = c.of-block.ensures in
    let k = accepted _ _ _ _ _ (rw b.0 b.1) c.in_ok-plan_tests.ensures in
    omega (arith, k.byte)

pub store_of-store-requires : goal.store_of-store-requires
store_of-store-requires c =
    let b = c.of-block.ensures in
    let k = accepted _ _ _ _ _ (rw b.0 b.1) c.in_ok-plan_tests.ensures in
    record { whole = k.whole; unfinished = k.within }

pub bounds-image-store : goal.bounds-image-store
bounds-image-store c =
    let b = c.of-block.ensures in
    store_within _ _ _ _ _ (rw b.0 b.1) c.in_ok-plan_tests.ensures _ c.store_of-store.ensures

pub overflow_add-result : goal.overflow_add-result
overflow_add-result c =
    let b = c.of-block.ensures in
    let k = accepted _ _ _ _ _ (rw b.0 b.1) c.in_ok-plan_tests.ensures in
    let few : c.args.plan.made < 131077 = rw b.0 at k.few in
    omega (arith, few)

pub returns : goal.returns
returns c =
    let b = c.of-block.ensures in
    rw b.0 at (made_step _ _ _ _ _ (rw b.0 b.1) c.in_ok-plan_tests.ensures _ c.store_of-store.ensures)
