-- What the first byte of a control record decides: a block's answer by its cases, then a sector's, and so in the words of the calls.
use mathlib.Core.Path.{◌≡◌, refl}
use mathlib.Core.Bool.{Bool, true, false, cond, not, ◌&&◌}
use mathlib.Core.List.{List, [], ◌∷◌}
use Prim.Native.Nat.{ℕ, ◌*◌}
use native.Mathlib.Omega.{arith}
use borrow.Author.Tests.{eq-eqb, ne_eqb, eqb-true}
use lib.Dec.{eqb, leb}
use lib.ListN.{length, get_or}
use Rattle.std.specs.Prelude.{Ok}
use Rattle.answers.specs.Answers.{answer_number, no_place, record_at}
use Rattle.answers.specs.declared.Answer.{Answer}
use Rattle.answers.specs.declared.Fault.TheVariants.{NoIdentifier}
use Rattle.calls.specs.Refusals.{letter_d}
use Rattle.cells.specs.Cells.{cell}
use Rattle.format.specs.Order.{Numbered}
use Rattle.layouts.specs.Layouts.{layout_of, slot_in}
use Rattle.layouts.specs.Tracks.{track_of}
use Rattle.layouts.specs.declared.Track.{Track}
use Rattle.marks.specs.Marks.{mark_byte}
use Rattle.marks.specs.declared.Mark.{Mark}
use Rattle.marks.specs.declared.Mark.TheVariants as marks
use Rattle.read.specs.Outcomes.{reading, Reads}
use Rattle.read.specs.declared.Reading.{Reading}
use Rattle.read.proofs.Recording.{block_cases}
use Rattle.station.specs.Outcomes.{GivesRead}
use Rattle.read.specs.Records.{slot_of, refused, block_after, block_answer, block_bytes, identifier_record, record_for, sector_of}
use Rattle.answers.specs.Letters.{letter_f, answer_after}
use Rattle.answers.proofs.Letters.{answer_cases}
use Rattle.verdicts.proofs.Tests.{clash}
use Rattle.walk.specs.Events.{blocks}
use Rattle.walk.specs.Outcomes.{met}
use Rattle.walk.specs.declared.Block.{Block}
use Rattle.walk.specs.declared.Block.TheVariants.{Missing, Beyond, Within}
use Rattle.promises.specs.Doors.{answer_in}
use Rattle.promises.specs.Letters.{Lettered, LettersDecide}
use Rattle.promises.specs.Sectors.{sector_in}
use Rattle.promises.proofs.Demands.{passed_number, passed_slot}
use Rattle.promises.proofs.Doors.{accepted_reads, accepted_number}

-- ---- one block

-- Of the other answers nothing is said.
unsaid : {cylinder size : ℕ} {slot : List ℕ} (number : ℕ) → eqb number 3 ≡ false → eqb number 27 ≡ false → eqb number 2 ≡ false
    → Lettered cylinder size number slot
unsaid number a b c =
    record {
      defective = λ e. absurd (other 3 a e);
      forbidden = λ e. absurd (other 27 b e);
      zeroth = λ e. absurd (other 2 c e);
      elsewhere = λ e. absurd (other 2 c e);
    }
  where
    other : (n : ℕ) → eqb number n ≡ false → number ≡ n → ⊥
    other n d e = let same : eqb number n ≡ true = eq-eqb number n e in clash cc

-- What the tests say of a block's cylinder and letter: k where its mark is F8, z on cylinder 0, f where its first byte is F, d where it is D.
defective_elsewhere : (k z f : Bool) → k && not z && f ≡ true → z ≡ true → ⊥
defective_elsewhere true true f e h = clash cc
defective_elsewhere true false f e h = clash cc
defective_elsewhere false z f e h = clash cc

forbidden_zeroth : (z k d : Bool) → z && k && not d ≡ true → z ≡ true
forbidden_zeroth true k d e = refl
forbidden_zeroth false k d e = absurd (clash cc)

control_zeroth : (z k d : Bool) → z && k && not d ≡ false → k ≡ true → z ≡ true → d ≡ true
control_zeroth true true true e h q = refl
control_zeroth true true false e h q = absurd (clash cc)
control_zeroth true false d e h q = absurd (clash cc)
control_zeroth false k d e h q = absurd (clash cc)

control_elsewhere : (k z f : Bool) → k && not z && f ≡ false → k ≡ true → z ≡ false → f ≡ true → ⊥
control_elsewhere true true f e h q r = clash cc
control_elsewhere true false true e h q r = clash cc
control_elsewhere true false false e h q r = clash cc
control_elsewhere false z f e h q r = clash cc

-- A block answers, and leaves of its bytes, as its letter decides.
letter_decides : (cylinder size : ℕ) (mark : Mark) (bytes : List ℕ) (right : Bool)
    → Lettered cylinder size (answer_number (answer_after cylinder mark (get_or bytes 0 0) right))
    (slot_of size (answer_after cylinder mark (get_or bytes 0 0) right) bytes)
letter_decides cylinder size mark bytes right =
    answer_cases (λ (a : Answer). Lettered cylinder size (answer_number a) (slot_of size a bytes)) cylinder mark (get_or bytes 0 0) right
    (λ e.
    record {
      defective = λ n. (λ q. defective_elsewhere k z f e (eq-eqb cylinder 0 q), refl);
      forbidden = λ n. absurd (omega (arith, n));
      zeroth = λ n. absurd (omega (arith, n));
      elsewhere = λ n. absurd (omega (arith, n));
    })
    (unsaid 26 refl refl refl)
    (λ e.
    record {
      defective = λ n. absurd (omega (arith, n));
      forbidden = λ n. (eqb-true cylinder 0 (forbidden_zeroth z k d e), refl);
      zeroth = λ n. absurd (omega (arith, n));
      elsewhere = λ n. absurd (omega (arith, n));
    })
    (λ a e h.
    record {
      defective = λ n. absurd (omega (arith, n));
      forbidden = λ n. absurd (omega (arith, n));
      zeroth = λ n q. eqb-true (get_or bytes 0 0) letter_d (control_zeroth z k d e h (eq-eqb cylinder 0 q));
      elsewhere = λ n q r. control_elsewhere k z f a h (ne_eqb cylinder 0 q) (eq-eqb (get_or bytes 0 0) letter_f r);
    })
    (λ h. unsaid 1 refl refl refl)
  where
    k : Bool
    k = eqb (mark_byte mark) (mark_byte marks.Control)

    z : Bool
    z = eqb cylinder 0

    f : Bool
    f = eqb (get_or bytes 0 0) letter_f

    d : Bool
    d = eqb (get_or bytes 0 0) letter_d

-- ---- one sector

module _ (t : Track) (image : List ℕ) where
  abbrev c : ℕ → ℕ
  c = cell image

  abbrev n : ℕ
  n = 8 * length image

  -- What is said of a block with this answer, and of what it leaves.
  abbrev Said : Answer → ℕ → Type 0
  Said answer m = Lettered t.cylinder t.layout.size (answer_number answer) (slot_of t.layout.size answer (block_bytes t c n m))

  block_lettered : (m : ℕ) → Said (block_answer t c n m) m
  unfolding block_after
  block_lettered m =
      block_cases t c n (λ (a : Answer). Said a m) m (λ o. unsaid 25 refl refl refl)
      (λ k. letter_decides t.cylinder t.layout.size marks.Control (block_bytes t c n m) _)
      (λ o k. letter_decides t.cylinder t.layout.size marks.Data (block_bytes t c n m) _)

  sector_lettered : (s : ℕ) → Lettered t.cylinder t.layout.size (answer_number (sector_in t image s).known.answer) (sector_in t image s).slot
  unfolding sector_of record_for identifier_record
  sector_lettered s = go (leb s t.layout.sectors) (blocks s (met t image))
    where
      go : (b : Bool) (bs : List Block) → Lettered t.cylinder t.layout.size
          (answer_number (cond b (record_for t c n bs) (refused t.layout.size NoIdentifier no_place)).known.answer)
          (cond b (record_for t c n bs) (refused t.layout.size NoIdentifier no_place)).slot
      go false bs = unsaid 21 refl refl refl
      go true [] = unsaid 21 refl refl refl
      go true (Missing ∷ []) = unsaid 23 refl refl refl
      go true (Beyond m ∷ []) = unsaid 24 refl refl refl
      go true (Within m ∷ []) = block_lettered m
      go true (x ∷ y ∷ bs) = unsaid 22 refl refl refl

-- ---- in the words of the calls

module _ (layout cylinder side : ℕ) (image : List ℕ) (given s : ℕ) (named : Numbered (layout_of layout) s) where
  read_lettered : (hands : Reading) (after : List ℕ) → Reads layout cylinder side image given (Ok hands) after
      → Lettered cylinder (layout_of layout).size (answer_number (record_at hands.records s).answer) (slot_in (layout_of layout).size s after)
  read_lettered hands after p =
      let number = passed_number layout cylinder side image given hands after p s named in
      let slot = passed_slot layout cylinder side image given hands after p s named in
      rw (number, slot) (sector_lettered (track_of layout cylinder side) image s)

  door_lettered : (area records counts : List ℕ) → GivesRead layout cylinder side image given 0 area records counts
      → Lettered cylinder (layout_of layout).size (answer_in records s) (slot_in (layout_of layout).size s area)
  door_lettered area records counts p =
      let reads = accepted_reads layout cylinder side image given area records counts p in
      rw (accepted_number layout cylinder side image given area records counts p s named)
      (read_lettered (reading (track_of layout cylinder side) image) area reads)

pub letters_decide : LettersDecide
letters_decide =
    record {
      sectors = sector_lettered;
      read = λ layout cylinder side image given hands after s p named.
          read_lettered layout cylinder side image given s named hands after p;
      door = λ layout cylinder side image given area records counts s p named.
          door_lettered layout cylinder side image given s named area records counts p;
    }
