-- What one block more makes of its sector, and that every slot has the layout's size.
use mathlib.Core.Path.{◌≡◌, refl, ap}
use mathlib.Core.Bool.{Bool, true, false, cond}
use mathlib.Core.List.{List, [], ◌∷◌, ◌++◌}
use Prim.Native.Nat.{ℕ, ◌+◌, ◌-◌, ◌≤◌}
use native.Mathlib.Omega.{arith}
use borrow.Rule.Slice.PartMut.{put_mid}
use lib.Dec.{leb}
use lib.ListN.{length, length-replicate}
use lib.Seq.{sets}
use Rattle.cells.proofs.Bytes.{length_data}
use Rattle.cells.proofs.Stores.{part_put}
use Rattle.layouts.specs.declared.Track.{Track}
use Rattle.marks.specs.Marks.{stands}
use Rattle.marks.specs.declared.Mark.{Mark}
use Rattle.marks.specs.declared.Mark.TheVariants as marks
use Rattle.walk.specs.Events.{blocks}
use Rattle.walk.specs.declared.Block.{Block}
use Rattle.walk.specs.declared.Block.TheVariants.{Missing, Beyond, Within}
use Rattle.walk.specs.declared.Event.{Event}
use Rattle.read.specs.Records.{slot_of, refused, block_after, block_answer, block_bytes, identifier_record, record_for, sector_of}
use Rattle.read.specs.Turns.{unmet, next}
use Rattle.answers.specs.Answers.{no_place}
use Rattle.answers.specs.Letters.{answer_after}
use Rattle.answers.proofs.Letters.{answer_cases}
use Rattle.answers.specs.declared.Fault.TheVariants.{NoIdentifier, Doubled, OpenMark}
use Rattle.answers.specs.declared.Answer.{Answer}
use Rattle.answers.specs.declared.Answer.TheVariants.{Data, Control, Defective, Refused}

module _ (t : Track) (c : ℕ → ℕ) (n : ℕ) where
  -- ---- one block

  -- What holds of 25, where the open mark stands, and of what a block answers after a control or a data mark holds of the block's answer.
  pub block_cases : (P : Answer → Type 0) (m : ℕ) → (stands t.layout.mode c n marks.Open m ≡ true → P (Refused OpenMark))
      → (stands t.layout.mode c n marks.Control m ≡ true → P (block_after t c n marks.Control m))
      → (stands t.layout.mode c n marks.Open m ≡ false → stands t.layout.mode c n marks.Control m ≡ false → P (block_after t c n marks.Data m))
      → P (block_answer t c n m)
  unfolding block_answer
  block_cases P m opened controlled other = go (stands t.layout.mode c n marks.Open m) (stands t.layout.mode c n marks.Control m) refl refl
    where
      go : (o k : Bool) → stands t.layout.mode c n marks.Open m ≡ o → stands t.layout.mode c n marks.Control m ≡ k
          → P (cond o (Refused OpenMark) (cond k (block_after t c n marks.Control m) (block_after t c n marks.Data m)))
      go true k e f = opened e
      go false true e f = controlled f
      go false false e f = other e f

  -- ---- one block more

  -- No block answers as if no identifier had been accepted.
  met : (b : Block) → unmet (identifier_record t c n b).known.answer ≡ false
  unfolding identifier_record block_after
  met Missing = refl
  met (Beyond m) = refl
  met (Within m) = block_cases (λ (a : Answer). unmet a ≡ false) m (λ o. refl) (λ k. after marks.Control _ _) (λ o k. after marks.Data _ _)
    where
      after : (mark : Mark) → (first : ℕ) → (right : Bool) → unmet (answer_after t.cylinder mark first right) ≡ false
      after mark first right =
          answer_cases (λ (a : Answer). unmet a ≡ false) t.cylinder mark first right (λ e. refl) refl (λ e. refl) (λ d f k. refl) (λ k. refl)

  pub record_next : (bs : List Block) (b : Block) → record_for t c n (bs ++ b ∷ []) ≡ next t c n (record_for t c n bs).known.answer b
  unfolding record_for next
  record_next [] b = refl
  record_next (x ∷ []) b = rw (met x)
  record_next (x ∷ y ∷ bs) b = refl

  -- ---- every slot has the layout's size

  module _ (some : 1 ≤ t.layout.size) where
    answer_slot : (a : Answer) (m : ℕ) → length (slot_of t.layout.size a (block_bytes t c n m)) ≡ t.layout.size
    unfolding block_bytes
    answer_slot (Refused f) m = length-replicate t.layout.size 0
    answer_slot Data m = length_data c _ t.layout.size
    answer_slot Control m = length_data c _ t.layout.size
    answer_slot Defective m = omega (arith, length-replicate {A = ℕ} (t.layout.size - 1) 0)

    identifier_slot : (b : Block) → length (identifier_record t c n b).slot ≡ t.layout.size
    unfolding identifier_record
    identifier_slot Missing = length-replicate t.layout.size 0
    identifier_slot (Beyond m) = length-replicate t.layout.size 0
    identifier_slot (Within m) = answer_slot (block_answer t c n m) m

    length_slot : (bs : List Block) → length (record_for t c n bs).slot ≡ t.layout.size
    unfolding record_for
    length_slot [] = length-replicate t.layout.size 0
    length_slot (b ∷ []) = identifier_slot b
    length_slot (b ∷ x ∷ bs) = length-replicate t.layout.size 0

    pub length_sector : (es : List Event) (s : ℕ) → length (sector_of t c n es s).slot ≡ t.layout.size
    unfolding sector_of
    length_sector es s = by (leb s t.layout.sectors)
      where
        by : (b : Bool) → length (cond b (record_for t c n (blocks s es)) (refused t.layout.size NoIdentifier no_place)).slot ≡ t.layout.size
        by true = length_slot (blocks s es)
        by false = length-replicate t.layout.size 0

    length_next : (before : Answer) (b : Block) → length (next t c n before b).slot ≡ t.layout.size
    unfolding next
    length_next before b = by (unmet before)
      where
        by : (new : Bool) → length (cond new (identifier_record t c n b) (refused t.layout.size Doubled no_place)).slot ≡ t.layout.size
        by true = identifier_slot b
        by false = length-replicate t.layout.size 0

    -- The slot that was lent comes back into the area.
    pub slot_put : (area part : List ℕ) (start : ℕ) (before : Answer) (b : Block) → part ≡ (next t c n before b).slot
        → start + t.layout.size ≤ length area
        → put_mid start (start + t.layout.size - start) area part ≡ sets area start (next t c n before b).slot
    slot_put area part start before b e h =
        part_put area part (next t c n before b).slot start (start + t.layout.size) e (ap (λ (k : ℕ). start + k) (length_next before b)) h
