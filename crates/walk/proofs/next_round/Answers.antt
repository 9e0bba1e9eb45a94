-- `next_round` meets its contract: each of its ends is one way of the round.
use mathlib.Core.Path.{ap}
use Prim.Native.Nat.{ℕ, ◌*◌}
use native.Mathlib.Omega.{arith}
use Rattle.walk.proofs.Stepping.{found_high, round_none, round_short, round_bad, round_foreign, round_took}
use Rattle.walk.proofs.next_round.Goals as goal

pub returns-in_default : goal.returns-in_default
returns-in_default c = round_none _ _ _ _ _ c.next_mark.ensures c.in_default.is

pub overflow_add-field : goal.overflow_add-field
overflow_add-field c =
    let h = found_high _ _ _ _ _ _ _ _ _ c.next_mark.ensures c.in-Some.is in
    omega (arith, c.mark_bytes.ensures.1, c.args.image.housed)

pub overflow_add-after : goal.overflow_add-after
overflow_add-after c =
    let h = found_high _ _ _ _ _ _ _ _ _ c.next_mark.ensures c.in-Some.is in
    omega (arith, c.mark_bytes.ensures.1, c.args.image.housed)

pub returns-then-end-after : goal.returns-then-end-after
returns-then-end-after c =
    let wide = ap (λ (k : ℕ). 16 * k) c.mark_bytes.ensures.0 in
    round_short _ _ _ _ _ c.next_mark.ensures _ _ _ c.in-Some.is wide c.if-end-after.true

pub returns-then-address-ne0 : goal.returns-then-address-ne0
returns-then-address-ne0 c =
    let wide = ap (λ (k : ℕ). 16 * k) c.mark_bytes.ensures.0 in
    round_bad _ _ _ _ _ c.next_mark.ensures _ _ _ c.in-Some.is wide c.if-end-after.false _ c.address_at-address.ensures.4
    c.if-address-ne0.true

pub returns-then-not-is_ours : goal.returns-then-not-is_ours
returns-then-not-is_ours c =
    let e = c.address_at-address.ensures in
    let wide = ap (λ (k : ℕ). 16 * k) c.mark_bytes.ensures.0 in
    round_foreign _ _ _ _ _ c.next_mark.ensures _ _ _ c.in-Some.is wide c.if-end-after.false _ e.4 c.if-address-ne0.false _ _ _ _
    e.0 e.1 e.2 e.3 _ c.is_ours.ensures (c.if-not-is_ours.true)

pub returns : goal.returns
returns c =
    let e = c.address_at-address.ensures in
    let wide = ap (λ (k : ℕ). 16 * k) c.mark_bytes.ensures.0 in
    round_took _ _ _ _ _ c.next_mark.ensures _ _ _ c.in-Some.is wide c.if-end-after.false _ e.4 c.if-address-ne0.false _ _ _ _
    e.0 e.1 e.2 e.3 _ c.is_ours.ensures _ (c.if-not-is_ours.false) c.block_of.ensures
