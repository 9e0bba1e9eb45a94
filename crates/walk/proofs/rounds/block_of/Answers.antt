-- `block_of` meets its contract: each of its ends is one of step 3 or step 4.
use mathlib.Core.Path.{refl, ap}
use Prim.Native.Nat.{ℕ, ◌*◌}
use native.Mathlib.Omega.{arith}
use Rattle.walk.proofs.Stepping.{found_room, reached_none, reached_other, reached_within, reached_beyond}
use Rattle.walk.proofs.rounds.block_of.Goals as goal

pub returns-in_default : goal.returns-in_default
returns-in_default c =
    let a = c.args in
    let F = rw c.reach_of.ensures.0 at c.next_mark.ensures in
    rw (← F) (reached_none a.layout _ a.sector a.after _ c.in_default.is)

pub returns-then-not-is_block : goal.returns-then-not-is_block
returns-then-not-is_block c =
    let a = c.args in
    let F = rw c.reach_of.ensures.0 at c.next_mark.ensures in
    rw (← F) (reached_other a.layout _ a.sector a.after _ _ _ _ c.in-Some.is c.is_block.ensures
    c.if-not-is_block.true)

pub overflow_add-field : goal.overflow_add-field
overflow_add-field c =
    let h = found_room _ _ _ _ _ _ _ _ _ _ c.next_mark.ensures c.in-Some.is
    (ap (λ (k : ℕ). 16 * k) c.mark_bytes.ensures.0) in
    omega (arith, c.requires)

pub overflow_sub-room : goal.overflow_sub-room
overflow_sub-room c =
    found_room _ _ _ _ _ _ _ _ _ _ c.next_mark.ensures c.in-Some.is
    (ap (λ (k : ℕ). 16 * k) c.mark_bytes.ensures.0)

pub returns-then-layout-room : goal.returns-then-layout-room
returns-then-layout-room c =
    let a = c.args in
    let F = rw c.reach_of.ensures.0 at c.next_mark.ensures in
    let wide = ap (λ (k : ℕ). 16 * k) c.mark_bytes.ensures.0 in
    let there = found_room _ _ _ _ _ _ _ _ _ _ c.next_mark.ensures c.in-Some.is wide in
    rw (← F) (reached_within a.layout _ a.sector a.after _ _ _ _ _ _ c.in-Some.is c.is_block.ensures
    c.if-not-is_block.false wide there refl c.if-room-ge2.true c.if-layout-room.true)

pub returns-else-layout-room : goal.returns-else-layout-room
returns-else-layout-room c =
    let a = c.args in
    let F = rw c.reach_of.ensures.0 at c.next_mark.ensures in
    let wide = ap (λ (k : ℕ). 16 * k) c.mark_bytes.ensures.0 in
    let there = found_room _ _ _ _ _ _ _ _ _ _ c.next_mark.ensures c.in-Some.is wide in
    rw (← F) (reached_beyond a.layout _ a.sector a.after _ _ _ _ _ _ c.in-Some.is c.is_block.ensures
    c.if-not-is_block.false wide there refl (λ two. c.if-layout-room.false))

pub returns-else-room-ge2 : goal.returns-else-room-ge2
returns-else-room-ge2 c =
    let a = c.args in
    let F = rw c.reach_of.ensures.0 at c.next_mark.ensures in
    let wide = ap (λ (k : ℕ). 16 * k) c.mark_bytes.ensures.0 in
    let there = found_room _ _ _ _ _ _ _ _ _ _ c.next_mark.ensures c.in-Some.is wide in
    rw (← F) (reached_beyond a.layout _ a.sector a.after _ _ _ _ _ _ c.in-Some.is c.is_block.ensures
    c.if-not-is_block.false wide there refl (λ two. let h = c.if-room-ge2.false in absurd (omega arith)))
