-- What a block answers, by its mark, and what it leaves in the slot; what an identifier makes of its sector, and one more of them.
use mathlib.Core.Path.{◌≡◌, refl, sym, ap, ◌∙◌}
use mathlib.Core.Bool.{Bool, true, false}
use mathlib.Core.List.{List}
use mathlib.Core.Logic.{inl, inr}
use Prim.Native.Nat.{ℕ, ◌+◌, ◌≤◌}
use native.Mathlib.Omega.{arith}
use lib.ListN.{replicate}
use Rattle.cells.specs.Cells.{data_bytes}
use Rattle.layouts.specs.declared.Track.{Track}
use Rattle.marks.specs.Marks.{mark_cells, stands}
use Rattle.marks.specs.declared.Mark.{Mark}
use Rattle.marks.specs.declared.Mark.TheVariants as marks
use Rattle.marks.proofs.Spelling.{one_mark, is_false}
use Rattle.verdicts.proofs.Tests.{clash}
use Rattle.walk.specs.Turns.{BlockStands, Placed}
use Rattle.walk.specs.declared.Block.{Block}
use Rattle.walk.specs.declared.Block.TheVariants.{Missing, Beyond, Within}
use Rattle.read.specs.Records.{Sector, slot_of, refused, block_after, block_answer, block_bytes, mark_at, block_clocks, identifier_record}
use Rattle.read.specs.Turns.{Leaves, Gives, Checks, Opens, place_of, unmet, next}
use Rattle.answers.specs.Answers.{no_place}
use Rattle.answers.proofs.Fields.{same_record}
use Rattle.answers.specs.declared.Fault.{Fault}
use Rattle.answers.specs.declared.Fault.TheVariants.{Doubled, NoBlock, PastEnd, OpenMark}
use Rattle.answers.specs.declared.Answer.{Answer}
use Rattle.answers.specs.declared.Answer.TheVariants.{Refused}

-- A refused answer with no clock cells and a slot of zeros is the refused sector's; k is the length of the slot that was lent.
pub leaves_refused : {size place : ℕ} {sector : Sector} {r : Answer} {clocks : ℕ} {slot : List ℕ} (fault : Fault) (k : ℕ)
    → sector ≡ refused size fault place
    → (r ≡ Refused fault) × (clocks ≡ 0) × (slot ≡ replicate k 0) → k ≡ size → Leaves sector r clocks slot
leaves_refused fault k e g h = rw e (g.0, g.1, g.2 ∙ ap (λ (j : ℕ). replicate j 0) h)

-- An answer and clock cells that are a sector's, with its place, give the sector.
pub gives_placed : {x y : Sector} {r : Answer} {clocks : ℕ} {slot : List ℕ} (p : ℕ) → y ≡ x → Leaves x r clocks slot → p ≡ x.known.place
    → Gives y (record { answer = r; place = p; clocks = clocks }) slot
gives_placed p e g h = rw e (same_record g.0 h g.1, g.2)

module _ (t : Track) (c : ℕ → ℕ) (n m : ℕ) where
  -- ---- which mark stands, and so what decides: no two do, and one of the three does

  pub other_mark : (j k : Mark) → (j ≡ k → ⊥) → stands t.layout.mode c n j m ≡ true → stands t.layout.mode c n k m ≡ false
  other_mark j k apart e = is_false (stands t.layout.mode c n k m) (λ f. apart (one_mark t.layout.mode c n m j k e f))

  -- This mark stands, and what the block answers goes by it.
  abbrev pub Decides : Mark → Answer → Type 0
  Decides mark answer = (block_answer t c n m ≡ answer) × (mark_at t c n m ≡ mark)

  module _ (d : Bool) (told : d ≡ stands t.layout.mode c n marks.Data m) where
    pub is_data : d ≡ true → Decides marks.Data (block_after t c n marks.Data m)
    unfolding block_answer mark_at
    is_data h =
        let e : stands t.layout.mode c n marks.Data m ≡ true = sym told ∙ h in
        let shut = other_mark marks.Data marks.Open (λ q. clash cc) e in
        let closed = other_mark marks.Data marks.Control (λ q. clash cc) e in
        (rw (shut, closed), rw (shut, closed))

    module _ (k : Bool) (second : k ≡ stands t.layout.mode c n marks.Control m) where
      pub is_control : k ≡ true → Decides marks.Control (block_after t c n marks.Control m)
      unfolding block_answer mark_at
      is_control h =
          let e : stands t.layout.mode c n marks.Control m ≡ true = sym second ∙ h in
          let shut = other_mark marks.Control marks.Open (λ q. clash cc) e in
          (rw (shut, e), rw (shut, e))

      pub is_open : d ≡ false → k ≡ false → BlockStands t.layout.mode c n m → Decides marks.Open (Refused OpenMark)
      unfolding block_answer mark_at
      is_open shut closed (inl e) = absurd (clash cc)
      is_open shut closed (inr (inl e)) = absurd (clash cc)
      is_open shut closed (inr (inr e)) = (rw e, rw e)

  -- ---- what the letter and the EDC decide: w is the cells of the mark, k the length of the slot

  pub block_decided : {r : Answer} {clocks : ℕ} {slot : List ℕ} (mark : Mark) (w k : ℕ) → w ≡ mark_cells t.layout.mode → k ≡ t.layout.size
      → Decides mark (block_after t c n mark m) → Checks t.cylinder t.layout.mode mark c (m + w) k r clocks slot
      → Leaves (identifier_record t c n (Within m)) r clocks slot
  unfolding identifier_record block_after block_bytes block_clocks
  block_decided mark w k u h e g =
      rw (e.0, e.1, ← u, ← h) (g.0, g.1, g.2 ∙ ap (λ (a : Answer). slot_of k a (data_bytes c (m + w) k)) g.0)

  -- An open block is refused.
  pub block_open : {r : Answer} {clocks : ℕ} {slot : List ℕ} (w k : ℕ) → w ≡ mark_cells t.layout.mode → k ≡ t.layout.size
      → Decides marks.Open (Refused OpenMark) → Opens t.layout.mode c (m + w) k r clocks slot → Leaves (identifier_record t c n (Within m)) r clocks slot
  unfolding identifier_record block_clocks
  block_open w k u h e g = rw (e.0, e.1, ← u, ← h) g

-- ---- an identifier, and one more

module _ (t : Track) (c : ℕ → ℕ) (n : ℕ) (block : Block) where
  pub is_missing : block ≡ Missing → identifier_record t c n block ≡ refused t.layout.size NoBlock no_place
  unfolding identifier_record
  is_missing e = rw e

  pub is_beyond : (m : ℕ) → block ≡ Beyond m → identifier_record t c n block ≡ refused t.layout.size PastEnd m
  unfolding identifier_record
  is_beyond m e = rw e

  pub is_within : {r : Answer} {clocks : ℕ} {slot : List ℕ} (m : ℕ) → block ≡ Within m → Leaves (identifier_record t c n (Within m)) r clocks slot
      → Leaves (identifier_record t c n block) r clocks slot
  is_within m e g = rw e g

  -- It fits 32 bits,
  pub place_small : Placed t.layout.mode c n block → place_of block ≤ 4294967295
  place_small = go block
    where
      go : (b : Block) → Placed t.layout.mode c n b → place_of b ≤ 4294967295
      go Missing h = omega arith
      go (Beyond m) h = omega arith
      go (Within m) h = omega (arith, h.0)

  -- and is that of the block's mark.
  pub is_placed : (identifier_record t c n block).known.place ≡ place_of block
  unfolding identifier_record
  is_placed = go block
    where
      go : (b : Block) → (identifier_record t c n b).known.place ≡ place_of b
      go Missing = refl
      go (Beyond m) = refl
      go (Within m) = refl

  module _ (before : Answer) (new : Bool) (told : new ≡ unmet before) where
    pub is_first : new ≡ true → next t c n before block ≡ identifier_record t c n block
    unfolding next
    is_first h = rw (← told, h)

    pub is_more : new ≡ false → next t c n before block ≡ refused t.layout.size Doubled no_place
    unfolding next
    is_more h = rw (← told, h)
