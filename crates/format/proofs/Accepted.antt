-- What the writers ask of a layout, which every number's has; and what is known of a call that all tests of a format pass.
use mathlib.Core.Path.{◌≡◌, sym, ap, ◌∙◌}
use mathlib.Core.List.{List}
use Prim.Native.Nat.{ℕ, ◌-◌, ◌*◌, ◌≤◌}
use native.Mathlib.Omega.{arith}
use borrow.Author.Rules.{rules}
use borrow.Author.Tests.{eqb-true, not-false}
use lib.ListN.{length, take}
use Rattle.verdicts.specs.Tests.{refusal, passed}
use Rattle.verdicts.proofs.Tests.{passed_both, first_passed}
use Rattle.layouts.specs.Layouts.{most_sectors, layout_of, fields, numbers}
use Rattle.layouts.specs.Refusals.{track_tests}
use Rattle.layouts.specs.Tracks.{highest_cylinder, highest_side, track_of}
use Rattle.layouts.specs.declared.Layout.{Layout}
use Rattle.layouts.specs.declared.Track.{Track}
use Rattle.layouts.proofs.Layouts.{every_layout, adds}
use Rattle.layouts.proofs.Tracks.{track_known}
use Rattle.format.specs.Order.{formatted}
use Rattle.format.specs.Refusals.{form_tests, content_tests, format_tests}
use Rattle.format.proofs.Judged.{marks_counted}
use Rattle.format.proofs.Parts.{spaced, natural}
use Rattle.format.specs.Aids.{Spaced}

-- The small numbers of a layout.
record Small (l : Layout) : Type 0 where
  size : 1 ≤ l.size
  sectors : 1 ≤ l.sectors
  most : l.sectors ≤ most_sectors
  image : l.image_bytes ≤ 9223372036854775807

small : (n : ℕ) → Small (layout_of n)
small = every_layout Small (search rules) (search rules) (search rules) (search rules)

-- What the writers ask of a layout.
pub record Usable (l : Layout) : Type 0 where
  pub room : 2 * fields l ≤ 9223372036854775807
  pub whole : l.image_bytes ≡ 2 * fields l
  pub area : l.area_bytes ≡ l.sectors * l.size
  pub size : 1 ≤ l.size
  pub sectors : 1 ≤ l.sectors
  pub most : l.sectors ≤ most_sectors
  pub gaps : Spaced l

pub usable : (n : ℕ) → Usable (layout_of n)
usable n =
    let a = adds n in
    let s = small n in
    let e : (layout_of n).image_bytes ≡ 2 * fields (layout_of n) = a.image ∙ ap (λ (k : ℕ). 2 * k) (sym a.track) in
    record { room = omega (arith, e, s.image); whole = e; area = a.area; size = s.size; sectors = s.sectors; most = s.most; gaps = spaced n }

-- What is known of a call that all tests pass.
pub record Accepted (layout cylinder side : ℕ) (contents marks : List ℕ) (image : ℕ) : Type 0 where
  pub cylinders : cylinder ≤ highest_cylinder
  pub sides : side ≤ highest_side
  pub whole : image ≡ 2 * fields (layout_of layout)
  pub area : length contents ≡ (layout_of layout).sectors * (layout_of layout).size
  pub marked : length marks ≡ (layout_of layout).sectors

pub accepted : (layout cylinder side : ℕ) (contents marks : List ℕ) (image : ℕ)
    → refusal (format_tests layout cylinder side contents marks image) ≡ passed → Accepted layout cylinder side contents marks image
unfolding format_tests form_tests content_tests
accepted layout cylinder side contents marks image e =
    let l = layout_of layout in
    let both = passed_both (form_tests layout cylinder side image) (content_tests l cylinder contents marks image) e in
    let form = passed_both (track_tests layout cylinder side) _ both.0 in
    let track = track_known layout cylinder side form.0 in
    let five = first_passed _ _ both.1 in
    let six = first_passed _ _ five.1 in
    record {
      cylinders = track.1;
      sides = track.2;
      whole = eqb-true image l.image_bytes (not-false _ (first_passed _ _ form.1).0) ∙ (usable layout).whole;
      area = eqb-true (length contents) l.area_bytes (not-false _ five.0) ∙ (usable layout).area;
      marked = marks_counted l.sectors marks six.0;
    }

-- What is written of the track that a call names, with the part of the natural order that its layout takes.
pub in_natural_order : (layout cylinder side : ℕ) (contents marks after : List ℕ) (t : Track) → t ≡ track_of layout cylinder side
    → after ≡ formatted t contents marks (take (t.layout.sectors - 0) (numbers most_sectors 1))
    → after ≡ formatted (track_of layout cylinder side) contents marks (numbers (layout_of layout).sectors 1)
in_natural_order layout cylinder side contents marks after t e f =
    (rw e at f) ∙ ap (formatted (track_of layout cylinder side) contents marks) (natural (layout_of layout).sectors (usable layout).most)
