-- Doubtful clocks: what the sum in each record is, that no answer depends on it, and where it is 0.
use mathlib.Core.Path.{◌≡◌, refl, sym, ap, ap₂, subst, ◌∙◌}
use mathlib.Core.Bool.{Bool, true, false, cond}
use mathlib.Core.List.{List, [], ◌∷◌}
use mathlib.Core.Logic.{inl, inr, ⊎_elim}
use Prim.Native.Nat.{ℕ, zero, suc, ◌+◌, ◌*◌, ◌≤◌}
use native.Mathlib.Omega.{arith}
use borrow.Author.Tests.{le-leb, lt-leb}
use lib.Dec.{leb}
use lib.ListN.{length, take}
use Rattle.answers.specs.declared.Record.{Record}
use Rattle.calls.specs.declared.Refusal.{Refusal}
use Rattle.std.specs.Prelude.{Result, IsOkAnd, replicate, map}
use Rattle.answers.specs.Answers.{no_place}
use Rattle.answers.specs.Letters.{answer_after}
use Rattle.answers.specs.declared.Answer.{Answer}
use Rattle.answers.specs.declared.Answer.TheVariants as answers
use Rattle.answers.specs.declared.Fault.TheVariants.{NoIdentifier, Doubled, NoBlock, PastEnd}
use Rattle.answers.proofs.Letters.{answer_cases}
use Rattle.cells.specs.Cells.{cell, data_bytes}
use Rattle.format.specs.Order.{Numbered}
use Rattle.layouts.specs.Layouts.{layout_of, most_sectors, numbers, slot_in}
use Rattle.layouts.specs.Tracks.{track_of}
use Rattle.layouts.specs.declared.Track.{Track}
use Rattle.marks.specs.Marks.{mark_cells, of_block, stands}
use Rattle.marks.specs.declared.Mark.{Mark}
use Rattle.marks.specs.declared.Mark.TheVariants as marks
use Rattle.marks.proofs.Spelling.{one_mark}
use Rattle.read.specs.Records.{Sector, refused as refusing, block_after, block_answer, block_bytes, identifier_record, record_for, sector_of, records_of, slot_of}
use Rattle.read.specs.Outcomes.{reading}
use Rattle.read.specs.declared.Reading.{Reading}
use Rattle.read.proofs.Recording.{block_cases}
use Rattle.search.proofs.Searching.{le_or_lt}
use Rattle.station.specs.Outcomes.{GivesRead}
use Rattle.station.specs.Records.{numbered_at}
use Rattle.verdicts.proofs.Tests.{clash}
use Rattle.walk.specs.Events.{blocks}
use Rattle.walk.specs.Outcomes.{met}
use Rattle.walk.specs.Turns.{BlockStands}
use Rattle.walk.specs.Walk.{edc_right}
use Rattle.walk.specs.declared.Block.{Block}
use Rattle.walk.specs.declared.Block.TheVariants.{Missing, Beyond, Within}
use Rattle.walk.proofs.Walking.{AllWhole}
use Rattle.promises.specs.Clocks.{of_whole, Counted, ClocksOfBlock, SameData, Alike, AnswersWithoutClocks, FaultlessClocks}
use Rattle.promises.specs.RoundTrip.{ReadsBack}
use Rattle.promises.specs.Rewriting.{number}
use Rattle.promises.specs.Sectors.{sector_in}
use Rattle.promises.proofs.Blocks.{block_clocks_lem}
use Rattle.promises.proofs.Demands.{passed_slot}
use Rattle.promises.proofs.Doors.{accepted_reads, gives_back_as_written}
use Rattle.promises.proofs.Records.{by_blocks, numbered_back, of_every_record}
use Rattle.promises.proofs.formatting.Calls.{written_taken}
use Rattle.promises.proofs.formatting.Single.{blocks_none, data_take}
use Rattle.promises.proofs.formatting.Trip.{times_before}
use Rattle.promises.proofs.rewriting.Demanded.{demand3}

-- ---- what is counted

module _ (t : Track) (image : List ℕ) where
  abbrev c : ℕ → ℕ
  c = cell image

  abbrev n : ℕ
  n = 8 * length image

  -- What a whole block answers says so.
  whole_said : (m : ℕ) → of_whole (block_answer t c n m) ≡ true
  unfolding block_after
  whole_said m = block_cases t c n (λ (a : Answer). of_whole a ≡ true) m (λ o. refl) (λ k. after marks.Control _ _) (λ o k. after marks.Data _ _)
    where
      after : (mark : Mark) (first : ℕ) (right : Bool) → of_whole (answer_after t.cylinder mark first right) ≡ true
      after mark first right =
          answer_cases (λ (a : Answer). of_whole a ≡ true) t.cylinder mark first right (λ d. refl) refl (λ f. refl) (λ d f k. refl) (λ k. refl)

  -- The mark that stands where a block's does is of a block.
  of_block_lem : (m : ℕ) → BlockStands t.layout.mode c n m → (mark : Mark) → stands t.layout.mode c n mark m ≡ true → of_block mark ≡ true
  of_block_lem m (inl h) mark e = subst (λ k. of_block k ≡ true) (one_mark t.layout.mode c n m marks.Data mark h e) refl
  of_block_lem m (inr (inl h)) mark e = subst (λ k. of_block k ≡ true) (one_mark t.layout.mode c n m marks.Control mark h e) refl
  of_block_lem m (inr (inr h)) mark e = subst (λ k. of_block k ≡ true) (one_mark t.layout.mode c n m marks.Open mark h e) refl

  -- A record without a whole block, and one with.
  uncounted : (a : Answer) (place : ℕ) → of_whole a ≡ false → Counted t image (record { answer = a; place = place; clocks = 0 })
  uncounted a place e = record { none = λ h. refl; some = λ w. absurd (clash cc) }

  block_counted : (m : ℕ) → BlockStands t.layout.mode c n m → Counted t image (identifier_record t c n (Within m)).known
  unfolding identifier_record
  block_counted m s =
      let whole = whole_said m in
      record { none = λ e. absurd (clash cc); some = λ w mark e. block_clocks_lem t c n m mark e (of_block_lem m s mark e) }

  record_counted : (bs : List Block) → AllWhole t c n bs → Counted t image (record_for t c n bs).known
  unfolding record_for identifier_record
  record_counted [] h = uncounted (answers.Refused NoIdentifier) no_place refl
  record_counted (Missing ∷ []) h = uncounted (answers.Refused NoBlock) no_place refl
  record_counted (Beyond m ∷ []) h = uncounted (answers.Refused PastEnd) m refl
  record_counted (Within m ∷ []) h = block_counted m h.0.1
  record_counted (b ∷ x ∷ bs) h = uncounted (answers.Refused Doubled) no_place refl

  sector_counted : (s : ℕ) → Counted t image (sector_in t image s).known
  sector_counted = by_blocks t image (λ (x : Sector). Counted t image x.known) (uncounted (answers.Refused NoIdentifier) no_place refl) record_counted

pub clocks_of_block : ClocksOfBlock
clocks_of_block = of_every_record Counted sector_counted

-- ---- no answer depends on it

itself : {x : Sector} → Alike x x
itself = record { answer = refl; place = refl; slot = refl }

module _ (t : Track) (image other : List ℕ) where
  abbrev d : ℕ → ℕ
  d = cell other

  abbrev k : ℕ
  k = 8 * length other

  abbrev p : ℕ → ℕ
  p m = m + mark_cells t.layout.mode

  -- The data bytes without the EDC.
  data_alike : (m : ℕ) → data_bytes d (p m) (t.layout.size + 2) ≡ data_bytes (cell image) (p m) (t.layout.size + 2)
      → block_bytes t d k m ≡ block_bytes t (cell image) (8 * length image) m
  unfolding block_bytes
  data_alike m e =
      sym (data_take d (p m) t.layout.size 2) ∙ ap (take t.layout.size) e ∙ data_take (cell image) (p m) t.layout.size 2

  answer_alike : (m : ℕ) → SameData t image other (Within m ∷ []) → block_answer t d k m ≡ block_answer t (cell image) (8 * length image) m
  unfolding block_answer block_after edc_right
  answer_alike m h = rw (h.0 marks.Open, h.0 marks.Control, data_alike m h.1, h.1)

  block_alike : (m : ℕ) → SameData t image other (Within m ∷ [])
      → Alike (identifier_record t d k (Within m)) (identifier_record t (cell image) (8 * length image) (Within m))
  unfolding identifier_record
  block_alike m h =
      record {
        answer = answer_alike m h;
        place = refl;
        slot = rw (answer_alike m h) (ap (slot_of t.layout.size (block_answer t (cell image) (8 * length image) m)) (data_alike m h.1));
      }

  record_alike : (bs : List Block) → SameData t image other bs → Alike (record_for t d k bs) (record_for t (cell image) (8 * length image) bs)
  unfolding record_for identifier_record
  record_alike [] h = itself
  record_alike (Missing ∷ []) h = itself
  record_alike (Beyond m ∷ []) h = itself
  record_alike (Within m ∷ []) h = block_alike m h
  record_alike (b ∷ x ∷ bs) h = itself

  sector_alike : (s : ℕ) → met t other ≡ met t image → SameData t image other (blocks s (met t image)) → Alike (sector_in t other s) (sector_in t image s)
  unfolding sector_of
  sector_alike s same alike = rw same (go (leb s t.layout.sectors))
    where
      go : (b : Bool)
          → Alike
          (cond b (record_for t (cell other) (8 * length other) (blocks s (met t image))) (refusing t.layout.size NoIdentifier no_place))
          (cond b (record_for t (cell image) (8 * length image) (blocks s (met t image))) (refusing t.layout.size NoIdentifier no_place))
      go true = record_alike (blocks s (met t image)) alike
      go false = itself

-- What the numbers of a read say of a sector, and what its area holds there.
given_back : (layout cylinder side : ℕ) (image : List ℕ) (given s : ℕ) → Numbered (layout_of layout) s → (area records counts : List ℕ)
    → GivesRead layout cylinder side image given 0 area records counts
    → ◌≡◌ {A = Sector} (record { known = numbered_at records s; slot = slot_in (layout_of layout).size s area }) (sector_in (track_of layout cylinder side) image s)
given_back layout cylinder side image given s named area records counts p =
    let reads = accepted_reads layout cylinder side image given area records counts p in
    rw (
      numbered_back layout cylinder side image given s named area records counts p,
      passed_slot layout cylinder side image given (reading (track_of layout cylinder side) image) area reads s named,
    )

pub answers_without_clocks : AnswersWithoutClocks
answers_without_clocks =
    record {
      sectors = sector_alike;
      door = λ layout cylinder side image other s given area records counts p lent slots known bads q named same alike.
          rw (given_back layout cylinder side image given s named area records counts p, given_back layout cylinder side other lent s named slots known bads q)
          (sector_alike (track_of layout cylinder side) image other s same alike);
    }

-- ---- where it is 0

-- In a track that reads back every sector has 0, those that there are not too.
all_faultless : (t : Track) (contents marks image : List ℕ) → ReadsBack t contents marks (numbers t.layout.sectors 1) image
    → (s : ℕ) → (sector_in t image s).known.clocks ≡ 0
unfolding sector_of record_for
all_faultless t contents marks image back zero =
    let none : blocks zero (met t image) ≡ [] =
    ap (blocks zero) back.meets ∙ blocks_none t.layout zero 0 (numbers t.layout.sectors 1) (times_before zero t.layout.sectors 1 (omega arith)) in
    rw (none, le-leb zero t.layout.sectors (omega arith))
all_faultless t contents marks image back (suc s) =
    ⊎_elim (λ (h : suc s ≤ t.layout.sectors). back.clocks (suc s) (omega arith, h)) (λ h. rw (lt-leb (suc s) t.layout.sectors h))
    (le_or_lt (suc s) t.layout.sectors)

-- Where each has the same, so have all that are listed.
all_same : {A : Type 0} (g : A → ℕ) (f : ℕ → A) (v : ℕ) → ((s : ℕ) → g (f s) ≡ v) → (k a : ℕ) → map g (map f (numbers k a)) ≡ replicate k v
all_same g f v h zero a = refl
all_same g f v h (suc k) a = ap₂ ◌∷◌ (h a) (all_same g f v h k (suc a))

pub faultless_clocks : FaultlessClocks
unfolding records_of
faultless_clocks =
    record {
      formatted = λ layout cylinder side contents marks before image answer area all formats reads.
          let taken = written_taken layout cylinder side contents marks before image answer area all formats reads in
          subst (λ (r : Result Reading Refusal). IsOkAnd r (λ hands. map (λ (r : Record). r.clocks) hands.records ≡ replicate most_sectors 0)) (sym taken.told)
          (all_same (λ (r : Record). r.clocks) (λ s. (sector_in (track_of layout cylinder side) image s).known) 0
          (all_faultless (track_of layout cylinder side) contents marks image taken.back) most_sectors 1);
      there = λ layout cylinder side contents marks before image number area records counts s all formats reads named.
          (gives_back_as_written layout cylinder side contents marks before image number area records counts all formats reads).clocks s named;
      rewritten = λ layout cylinder side sector mark contents image plan held now asked ran all.
          (demand3.survives layout cylinder side sector mark contents image plan asked (number layout image plan) held now (omega arith) ran all).faultless refl;
    }
