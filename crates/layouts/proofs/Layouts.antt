-- Laws of the layouts: every number has one of the four, taken by cases once, and their numbers add up by computing;
-- a track takes numbered ones only; a slot lies within its area.
use mathlib.Core.Path.{◌≡◌, refl, ap, ◌∙◌}
use mathlib.Core.Bool.{Bool, true, false, false≢true, not, ◌&&◌, ◌||◌}
use Prim.Native.Nat.{ℕ, zero, suc, ◌+◌, ◌-◌, ◌*◌, ◌≤◌}
use native.Mathlib.Nat.{suc-mul, add-mul}
use native.Mathlib.Omega.{arith}
use borrow.Author.Rules.{rules}
use borrow.Author.Tests.{eqb-true, leb-true}
use lib.Dec.{leb, eqb}
use Rattle.layouts.specs.declared.Layout.{Layout}
use Rattle.layouts.specs.Layouts.{layout0, layout1, layout2, layout3, highest_mfm, highest, layout_of, most_sectors, sector_fields, fields, Adds}
use Rattle.layouts.specs.Tracks.{allowed}

-- What holds of the four layouts holds of the layout of every number.
pub every_layout : (P : Layout → Type 0) → P layout0 → P layout1 → P layout2 → P layout3 → (n : ℕ) → P (layout_of n)
unfolding layout_of
every_layout P p0 p1 p2 p3 zero = p0
every_layout P p0 p1 p2 p3 (suc zero) = p1
every_layout P p0 p1 p2 p3 (suc (suc zero)) = p2
every_layout P p0 p1 p2 p3 (suc (suc (suc zero))) = p3
every_layout P p0 p1 p2 p3 (suc (suc (suc (suc n)))) = p0

-- The numbers of every layout fit each other.
pub adds : (n : ℕ) → Adds (layout_of n)
unfolding sector_fields fields
adds =
    every_layout Adds
    (record { area = refl; image = refl; track = refl })
    (record { area = refl; image = refl; track = refl })
    (record { area = refl; image = refl; track = refl })
    (record { area = refl; image = refl; track = refl })

-- No layout has more than the most sectors.
pub sectors_few : (n : ℕ) → (layout_of n).sectors ≤ most_sectors
sectors_few = every_layout (λ l. l.sectors ≤ most_sectors) (search rules) (search rules) (search rules) (search rules)

either : {P : Type 0} (a b : Bool) → (a ≡ true → P) → (b ≡ true → P) → (a || b) ≡ true → P
either true b f g e = f refl
either false b f g e = g e

last : (a b : Bool) → (a && b) ≡ true → b ≡ true
last true b e = e
last false b e = absurd (false≢true e)

-- A layout that some track takes has a number.
pub allowed_known : (layout cylinder side : ℕ) → allowed layout cylinder side ≡ true → layout ≤ highest
unfolding allowed
allowed_known layout cylinder side h =
    go (eqb cylinder 0 && eqb side 0) (eqb cylinder 0 && eqb side 1) (not (eqb cylinder 0) && leb 1 layout) h
  where
    go : (a b d : Bool) → (a && eqb layout 0 || b && eqb layout 1 || d && leb layout highest_mfm) ≡ true → layout ≤ highest
    go a b d =
        either (a && eqb layout 0 || b && eqb layout 1) (d && leb layout highest_mfm)
        (either (a && eqb layout 0) (b && eqb layout 1)
        (λ e. omega (arith, eqb-true layout 0 (last a _ e)))
        (λ e. omega (arith, eqb-true layout 1 (last b _ e))))
        (λ e. omega (arith, leb-true layout highest_mfm (last d _ e)))

-- A sector's slot lies within the area of k slots.
pub slot_room : (size k s : ℕ) → 1 ≤ s → s ≤ k → (s - 1) * size + size ≤ k * size
slot_room size k s low high =
    let e : k ≡ suc (s - 1) + (k - s) = omega arith in
    let f : k * size ≡ (s - 1) * size + size + (k - s) * size =
    ap (λ (i : ℕ). i * size) e ∙ add-mul (suc (s - 1)) (k - s) size ∙ ap (λ (i : ℕ). i + (k - s) * size) (suc-mul (s - 1) size) in
    omega (arith, f)
