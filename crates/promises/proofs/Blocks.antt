-- What one block reads as: with the mark that was asked for, its bytes and their right EDC it is the sector that was written, where refusal 7 lets it be
-- written; with the open mark it is refused as open. Both demands rest on this.
use mathlib.Core.Path.{◌≡◌, refl, sym, ap, ◌∙◌}
use mathlib.Core.Bool.{Bool, true, false, cond, not, ◌&&◌}
use mathlib.Core.List.{List, [], ◌∷◌}
use Prim.Native.Nat.{ℕ, ◌+◌, ◌-◌, ◌≤◌}
use borrow.Author.Tests.{le-leb}
use lib.Dec.{eqb}
use lib.ListN.{length, get_or, replicate}
use Rattle.calls.specs.Refusals.{letter_d, control_test}
use Rattle.cells.specs.Cells.{data_bytes, bytes_clocks}
use Rattle.cells.proofs.Bytes.{length_data}
use Rattle.layouts.specs.declared.Track.{Track}
use Rattle.marks.specs.Marks.{mark_byte, mark_cells, mark_of, last_bit, of_block, stands}
use Rattle.marks.specs.declared.Mark.{Mark}
use Rattle.marks.specs.declared.Mark.TheVariants as marks
use Rattle.read.proofs.Answering.{other_mark}
use Rattle.read.specs.Records.{Sector, answering, block_after, block_answer, block_bytes, mark_at, block_clocks, identifier_record, record_for, sector_of}
use Rattle.answers.specs.Answers.{answer_number}
use Rattle.answers.specs.Letters.{letter_f, answer_after}
use Rattle.answers.specs.declared.Answer.TheVariants.{Data, Control, Defective, Refused}
use Rattle.answers.specs.declared.Fault.TheVariants.{ForbiddenLetter}
use Rattle.verdicts.proofs.Tests.{clash}
use Rattle.walk.specs.Events.{blocks}
use Rattle.walk.specs.Walk.{edc_right}
use Rattle.walk.specs.declared.Block.{Block}
use Rattle.walk.specs.declared.Block.TheVariants.{Within}
use Rattle.walk.specs.declared.Event.{Event}
use Rattle.promises.specs.Sectors.{Back, reads_back, under_way, ReadsSo}

-- The same sector reads the same.
pub so_same : {x y : Sector} {back : Back} → x ≡ y → ReadsSo y back → ReadsSo x back
so_same e r = record { answers = ap (λ (z : Sector). answer_number z.known.answer) e ∙ r.answers; holds = ap (λ (z : Sector). z.slot) e ∙ r.holds }

-- ---- a record that refusal 7 lets be written

-- The byte of the mark that was asked for, control or data, is F8 if it is the control mark.
control_byte : (asked : Bool) → eqb (mark_byte (cond asked marks.Control marks.Data)) (mark_byte marks.Control) ≡ asked
control_byte true = refl
control_byte false = refl

module _ (bytes : List ℕ) (size place clocks : ℕ) (whole : length bytes ≡ size) where
  -- By its mark, whether it is on cylinder 0, and whether its first byte is F or D.
  letter_so : (asked zeroth f d : Bool) → zeroth && asked && not d ≡ false
      → ReadsSo
      (answering size
      (cond (asked && not zeroth && f) Defective (cond (zeroth && asked && not d) (Refused ForbiddenLetter) (cond asked Control Data))) place clocks bytes)
      (cond (asked && not zeroth && f) (record { number = 3; bytes = letter_f ∷ replicate (length bytes - 1) 0 })
      (record { number = cond asked 2 1; bytes = bytes }))
  letter_so false true f d seven = record { answers = refl; holds = refl }
  letter_so false false f d seven = record { answers = refl; holds = refl }
  letter_so true true f true seven = record { answers = refl; holds = refl }
  letter_so true true f false seven = absurd (clash cc)
  letter_so true false true d seven = record { answers = refl; holds = rw whole }
  letter_so true false false d seven = record { answers = refl; holds = refl }

  record_so : (cylinder mark : ℕ) → (control_test cylinder mark (get_or bytes 0 0)).applies ≡ false
      → ReadsSo (answering size (answer_after cylinder (mark_of mark) (get_or bytes 0 0) true) place clocks bytes) (reads_back cylinder mark bytes)
  unfolding answer_after
  record_so cylinder mark seven =
      rw (control_byte (eqb mark (mark_byte marks.Control)))
      (letter_so (eqb mark (mark_byte marks.Control)) (eqb cylinder 0) (eqb (get_or bytes 0 0) letter_f) (eqb (get_or bytes 0 0) letter_d) seven)

module _ (t : Track) (c : ℕ → ℕ) (n m : ℕ) where
  -- What a block answers after the mark that was asked for.
  asked_answer : (asked : Bool) → stands t.layout.mode c n (cond asked marks.Control marks.Data) m ≡ true
      → block_answer t c n m ≡ block_after t c n (cond asked marks.Control marks.Data) m
  unfolding block_answer
  asked_answer true e = let no = other_mark t c n m marks.Control marks.Open (λ q. clash cc) e in rw (no, e)
  asked_answer false e =
      let no = other_mark t c n m marks.Data marks.Open (λ q. clash cc) e in
      let nor = other_mark t c n m marks.Data marks.Control (λ q. clash cc) e in
      rw (no, nor)

  -- A block as it is written, with its mark, its bytes and their EDC, reads back.
  pub written_so : (mark : ℕ) (bytes : List ℕ) → stands t.layout.mode c n (mark_of mark) m ≡ true
      → data_bytes c (m + mark_cells t.layout.mode) t.layout.size ≡ bytes
      → edc_right t.layout.mode c (mark_of mark) (m + mark_cells t.layout.mode) (t.layout.size + 2) ≡ true
      → (control_test t.cylinder mark (get_or bytes 0 0)).applies ≡ false
      → ReadsSo (identifier_record t c n (Within m)) (reads_back t.cylinder mark bytes)
  unfolding identifier_record block_after block_bytes
  written_so mark bytes e held right seven =
      let whole : length bytes ≡ t.layout.size = ap length (sym held) ∙ length_data c _ t.layout.size in
      so_same (rw (asked_answer (eqb mark (mark_byte marks.Control)) e, held, right)) (record_so bytes t.layout.size m (block_clocks t c n m) whole t.cylinder mark seven)

  -- While the open mark stands a block is refused for that, and its slot is all zero.
  pub open_so : stands t.layout.mode c n marks.Open m ≡ true → ReadsSo (identifier_record t c n (Within m)) (under_way t.layout.size)
  unfolding identifier_record block_answer
  open_so e = record { answers = rw e; holds = rw e }

  -- The place is that of its mark.
  pub block_placed : (identifier_record t c n (Within m)).known.place ≡ m
  unfolding identifier_record
  block_placed = refl

  -- The mark that is found is the one that stands there, where it is of a block.
  found_mark : (k : Mark) → stands t.layout.mode c n k m ≡ true → of_block k ≡ true → mark_at t c n m ≡ k
  unfolding mark_at
  found_mark marks.Index e b = absurd (clash cc)
  found_mark marks.Identifier e b = absurd (clash cc)
  found_mark marks.Data e b =
      let no = other_mark t c n m marks.Data marks.Open (λ q. clash cc) e in
      let nor = other_mark t c n m marks.Data marks.Control (λ q. clash cc) e in
      rw (no, nor)
  found_mark marks.Control e b = let no = other_mark t c n m marks.Control marks.Open (λ q. clash cc) e in rw (no, e)
  found_mark marks.Open e b = rw e

  -- The sum follows its last bit.
  pub block_clocks_lem : (k : Mark) → stands t.layout.mode c n k m ≡ true → of_block k ≡ true
      → (identifier_record t c n (Within m)).known.clocks
      ≡ bytes_clocks t.layout.mode c (last_bit k) (m + mark_cells t.layout.mode) (t.layout.size + 2)
  unfolding identifier_record block_clocks
  block_clocks_lem k e b = rw (found_mark k e b)

-- The mark that was asked for is of a block.
pub asked_mark : (mark : ℕ) → of_block (mark_of mark) ≡ true
asked_mark mark = go (eqb mark (mark_byte marks.Control))
  where
    go : (asked : Bool) → of_block (cond asked marks.Control marks.Data) ≡ true
    go true = refl
    go false = refl

-- A sector of the layout whose only accepted identifier gave this block is what the block makes of it.
pub alone_so : (t : Track) (c : ℕ → ℕ) (n : ℕ) (es : List Event) (s : ℕ) (b : Block) → s ≤ t.layout.sectors → blocks s es ≡ b ∷ []
    → sector_of t c n es s ≡ identifier_record t c n b
unfolding sector_of record_for
alone_so t c n es s b high alone = rw (le-leb s t.layout.sectors high, alone)
