-- How long a file is, and how it comes into an area, section by section.
use mathlib.Core.Path.{◌≡◌, sym, ap, ap₂, ◌∙◌}
use mathlib.Core.List.{List, ◌++◌, append_assoc}
use Prim.Native.Nat.{ℕ, ◌+◌, ◌-◌, ◌≤◌, ◌/◌}
use native.Mathlib.Nat.{zero-add}
use native.Mathlib.Omega.{arith}
use borrow.Rule.Slice.PartMut.{put_mid}
use lib.ListN.{take, drop, length, length-take, length-drop, length-append, length-replicate, replicate}
use lib.Seq.{sets, length-sets}
use Rattle.cells.proofs.Stores.{sets_append, sets_whole, part_put}
use Rattle.file.specs.Contents.{Content, track_width}
use Rattle.file.specs.Sections.{four_bytes, counted, encoded}

pub length_counted : (width : ℕ) (l : List ℕ) → length (counted width l) ≡ 4 + length l
unfolding four_bytes
length_counted width l = length-append (four_bytes (length l / width)) l

pub length_encoded : (content : Content)
    → length (encoded content) ≡ 16 + length content.label + length content.tracks + length content.answers + length content.«data»
unfolding encoded four_bytes
length_encoded content = simp (length-append {A = ℕ}) (omega arith)

-- The same file, each section before all that follow.
pub encoded_on : (content : Content)
    → encoded content
    ≡ counted 1 content.label ++ (counted track_width content.tracks ++ (counted 1 content.answers ++ counted 1 content.«data»))
unfolding encoded
encoded_on content = simp (append_assoc {A = ℕ})

-- A count and its section behind it.
pub section_sets : (width : ℕ) (area mid part held : List ℕ) (at : ℕ) → mid ≡ sets area at (four_bytes (length held / width)) → part ≡ held
    → at + 4 + length held ≤ length area
    → put_mid (at + 4) (at + 4 + length held - (at + 4)) mid part ≡ sets area at (counted width held)
unfolding four_bytes
section_sets width area mid part held at e p h =
    let same : length mid ≡ length area = ap length e ∙ length-sets area at (four_bytes (length held / width)) in
    part_put mid part held (at + 4) (at + 4 + length held) p (omega arith) (omega (arith, same))
    ∙ ap (λ (l : List ℕ). sets l (at + 4) held) e
    ∙ sets_append area at (four_bytes (length held / width)) held

-- A run of stores, another one right behind it.
pub then_sets : (before mid after xs ys : List ℕ) (at : ℕ) → mid ≡ sets before 0 xs → at ≡ length xs → after ≡ sets mid at ys
    → after ≡ sets before 0 (xs ++ ys)
then_sets before mid after xs ys at e f g =
    g ∙ ap₂ (λ (l : List ℕ) (k : ℕ). sets l k ys) e (f ∙ sym (zero-add (length xs))) ∙ sets_append before 0 xs ys

-- The area once all four sections are in it, each from where the one before it ended.
module _ (content : Content) (area one two three four : List ℕ) (a b c : ℕ) where
  pub all_sets : one ≡ sets area 0 (counted 1 content.label) → a ≡ 4 + length content.label
      → two ≡ sets one a (counted track_width content.tracks) → b ≡ a + 4 + length content.tracks
      → three ≡ sets two b (counted 1 content.answers) → c ≡ b + 4 + length content.answers
      → four ≡ sets three c (counted 1 content.«data») → four ≡ sets area 0 (encoded content)
  unfolding encoded four_bytes
  all_sets e i f j g k h =
      let first = counted 1 content.label in
      let second = counted track_width content.tracks in
      let third = counted 1 content.answers in
      let x = then_sets area one two first second a e (simp (length-append {A = ℕ}) (omega (arith, i))) f in
      let y = then_sets area two three (first ++ second) third b x (simp (length-append {A = ℕ}) (omega (arith, i, j))) g in
      then_sets area three four (first ++ second ++ third) (counted 1 content.«data») c y (simp (length-append {A = ℕ}) (omega (arith, i, j, k))) h

-- The part of a list from r on.
pub tail_long : (l : List ℕ) (r : ℕ) → r ≤ length l → length (take (length l - r) (drop r l)) ≡ length l - r
tail_long l r h = simp (length-take {A = ℕ}, length-drop {A = ℕ}) (omega arith)

-- And once the part behind them is cleared.
module _ (content : Content) (area : List ℕ) where
  abbrev n : ℕ
  n = length (encoded content)

  pub cleared : (filled part : List ℕ) → filled ≡ sets area 0 (encoded content) → part ≡ replicate (length filled - n) 0 → n ≤ length area
      → put_mid n (length filled - n) filled part ≡ encoded content ++ replicate (length area - n) 0
  cleared filled part e p h =
      let same : length filled ≡ length area = ap length e ∙ length-sets area 0 (encoded content) in
      let zeros : List ℕ = replicate (length filled - n) 0 in
      let count : length zeros ≡ length filled - n = length-replicate (length filled - n) 0 in
      part_put filled part zeros n (length filled) p (omega (arith, count, same)) (omega arith)
      ∙ ap₂ (λ (l : List ℕ) (k : ℕ). sets l k zeros) e (sym (zero-add n))
      ∙ sets_append area 0 (encoded content) zeros
      ∙ sets_whole area (encoded content ++ zeros) (length-append (encoded content) zeros ∙ omega (arith, count, same))
      ∙ rw same
