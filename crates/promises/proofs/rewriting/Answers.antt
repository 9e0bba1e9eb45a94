-- What a rewrite, cut at any point, leaves to be read: every other sector and both counts are as before, and the sector itself is what stands in its
-- block now.
use mathlib.Core.Path.{◌≡◌, refl, sym, ap, ap₂, ◌∙◌}
use mathlib.Core.Bool.{Bool, true, false, cond}
use mathlib.Core.List.{List, [], ◌∷◌}
use mathlib.Core.Logic.{◌⊎◌, inl, inr, ⊎_elim}
use Prim.Native.Nat.{ℕ, ◌+◌, ◌≤◌, ◌<◌}
use native.Mathlib.Omega.{arith}
use borrow.Author.Tests.{eqb-true}
use lib.Dec.{T, eqb}
use Rattle.cells.specs.Cells.{data_bytes}
use Rattle.cells.proofs.Clocks.{clocks_same}
use Rattle.layouts.specs.declared.Track.{Track}
use Rattle.marks.specs.Marks.{mark_cells, stands}
use Rattle.marks.specs.declared.Mark.{Mark}
use Rattle.marks.specs.declared.Mark.TheVariants as marks
use Rattle.read.specs.Records.{Sector, answering, block_after, block_answer, block_bytes, mark_at, block_clocks, identifier_record, record_for, sector_of}
use Rattle.answers.specs.declared.Answer.{Answer}
use Rattle.search.proofs.Searching.{searchable}
use Rattle.walk.specs.Events.{bads, foreigns, blocks}
use Rattle.layouts.specs.Layouts.{block_cells}
use Rattle.walk.specs.Walk.{edc_right, events}
use Rattle.walk.specs.declared.Block.{Block}
use Rattle.walk.specs.declared.Block.TheVariants.{Missing, Beyond, Within}
use Rattle.walk.specs.declared.Event.{Event}
use Rattle.walk.specs.declared.Event.TheVariants.{Bad, Foreign, Accepted}
use Rattle.walk.proofs.Ways.{mark_some}
use Rattle.promises.specs.Sectors.{Back, ReadsSo}
use Rattle.promises.proofs.Blocks.{so_same, block_placed, alone_so}
use Rattle.promises.proofs.rewriting.Rounds.{bytes_same}
use Rattle.promises.proofs.rewriting.Claims.{Claims, claims_later, blocks_claims, apart}
use Rattle.promises.proofs.rewriting.Rewritten.{Rewritten, before_last, mark_before, mark_after}
use Rattle.promises.proofs.rewriting.Walk.{walk_kept}

-- ---- a block apart from the rewritten one

module _ (t : Track) (c d : ℕ → ℕ) (n : ℕ) where
  -- Its mark and its cells are as before.
  record Kept (p : ℕ) : Type 0 where
    mark : (k : Mark) → T (searchable k) → stands t.layout.mode d n k p ≡ stands t.layout.mode c n k p
    cells : (i : ℕ) → p + mark_cells t.layout.mode ≤ i → i < p + block_cells t.layout → d i ≡ c i

  kept_apart : (m : ℕ) → Rewritten t.layout c d n m → (p : ℕ) → (m + block_cells t.layout ≤ p) ⊎ (p + block_cells t.layout ≤ m) → Kept p
  kept_apart m R p (inl h) =
      let some = mark_some t c n t.layout.mode in
      record {
        mark = λ k u. mark_after t.layout c d n m R k u p h;
        cells = λ i a b. R.after i (omega arith);
      }
  kept_apart m R p (inr h) =
      record {
        mark = λ k u. mark_before t.layout c d n m R k u p (omega arith);
        cells = λ i a b. R.before i (before_last t.layout.mode m i (omega arith));
      }

  module _ {p : ℕ} (K : Kept p) where
    bytes_kept : (k : ℕ) → k ≤ t.layout.size + 2
        → data_bytes d (p + mark_cells t.layout.mode) k ≡ data_bytes c (p + mark_cells t.layout.mode) k
    bytes_kept k u = bytes_same d c k (p + mark_cells t.layout.mode) (λ i a b. K.cells i (omega arith) (omega arith))

    data_kept : block_bytes t d n p ≡ block_bytes t c n p
    unfolding block_bytes
    data_kept = bytes_kept t.layout.size (omega arith)

    answer_kept : block_answer t d n p ≡ block_answer t c n p
    unfolding block_answer block_after edc_right
    answer_kept = rw (K.mark marks.Open tt, K.mark marks.Control tt, data_kept, bytes_kept (t.layout.size + 2) (omega arith))

    -- So is the sum: the first clock cell behind the rewritten block, which may change, is none of its cells.
    clocks_kept : block_clocks t d n p ≡ block_clocks t c n p
    unfolding block_clocks mark_at
    clocks_kept =
        rw (K.mark marks.Open tt, K.mark marks.Control tt)
        (clocks_same t.layout.mode c d _ (p + mark_cells t.layout.mode) (t.layout.size + 2) (λ i a b. K.cells i a (omega arith)))

  -- A block within the image is so kept.
  abbrev Keeps : Block → Type 0
  Keeps Missing = Unit {0}
  Keeps (Beyond p) = Unit {0}
  Keeps (Within p) = Kept p

  identifier_kept : (b : Block) → Keeps b → identifier_record t d n b ≡ identifier_record t c n b
  unfolding identifier_record
  identifier_kept Missing K = refl
  identifier_kept (Beyond p) K = refl
  identifier_kept (Within p) K =
      ap₂ (λ (a : Answer) (k : ℕ). answering t.layout.size a p k (block_bytes t d n p)) (answer_kept K) (clocks_kept K)
      ∙ ap (λ (xs : List ℕ). answering t.layout.size (block_answer t c n p) p (block_clocks t c n p) xs) (data_kept K)

  -- A sector all of whose blocks are kept is as before.
  abbrev KeepsAll : List Block → Type 0
  KeepsAll [] = Unit {0}
  KeepsAll (b ∷ bs) = Keeps b × KeepsAll bs

  record_kept : (bs : List Block) → KeepsAll bs → record_for t d n bs ≡ record_for t c n bs
  unfolding record_for
  record_kept [] K = refl
  record_kept (b ∷ []) K = identifier_kept b K.0
  record_kept (b ∷ x ∷ bs) K = refl

  -- So are those of a sector each of whose claimed blocks is.
  all_kept : (x : ℕ) (es : List Event) → ((p : ℕ) → Claims x p es → Kept p) → KeepsAll (blocks x es)
  unfolding blocks
  all_kept x [] f = tt
  all_kept x (Bad ∷ es) f = all_kept x es f
  all_kept x (Foreign ∷ es) f = all_kept x es f
  all_kept x (Accepted y b ∷ es) f = go b (eqb y x) refl f (all_kept x es (λ p h. f p (claims_later x p (Accepted y b) es h)))
    where
      go : (b : Block) (z : Bool) → eqb y x ≡ z → ((p : ℕ) → Claims x p (Accepted y b ∷ es) → Kept p) → KeepsAll (blocks x es)
          → KeepsAll (cond z (b ∷ blocks x es) (blocks x es))
      go b false e f more = more
      go Missing true e f more = (tt, more)
      go (Beyond p) true e f more = (tt, more)
      go (Within p) true e f more = (f p (inl (eqb-true y x e, refl)), more)

-- ---- all the sectors

module _ (t : Track) (c d : ℕ → ℕ) (n m : ℕ) (R : Rewritten t.layout c d n m) (s : ℕ) (claimed : Claims s m (events t c n)) where
  -- Both counts.
  pub bads_kept : bads (events t d n) ≡ bads (events t c n)
  bads_kept = ap bads (walk_kept t c d n m R s claimed)

  pub foreigns_kept : foreigns (events t d n) ≡ foreigns (events t c n)
  foreigns_kept = ap foreigns (walk_kept t c d n m R s claimed)

  -- Another sector than the rewritten one.
  module _ (x : ℕ) (different : x ≡ s → ⊥) where
    untouched_block : (p : ℕ) → Claims x p (events t c n) → Kept t c d n p
    unfolding events
    untouched_block p h =
        kept_apart t c d n m R p
        (⊎_elim (λ (z : (s ≡ x) × (m ≡ p)). absurd (different (sym z.0))) (λ h. h) (apart t c n s m x p n 0 claimed h))

    pub other_sector : sector_of t d n (events t d n) x ≡ sector_of t c n (events t c n) x
    unfolding sector_of
    other_sector =
        ap (λ (es : List Event). sector_of t d n es x) (walk_kept t c d n m R s claimed)
        ∙ rw (record_kept t c d n (blocks x (events t c n)) (all_kept t c d n x (events t c n) untouched_block))

-- ---- the sector itself

module _ (t : Track) (c d : ℕ → ℕ) (n m : ℕ) (R : Rewritten t.layout c d n m) (s : ℕ) (alone : blocks s (events t c n) ≡ Within m ∷ []) where
  -- Its block is found again.
  pub found_again : blocks s (events t d n) ≡ Within m ∷ []
  found_again = ap (blocks s) (walk_kept t c d n m R s (blocks_claims s m (events t c n) alone)) ∙ alone

  -- So it reads as that block does,
  pub own_so : s ≤ t.layout.sectors → (back : Back) → ReadsSo (identifier_record t d n (Within m)) back → ReadsSo (sector_of t d n (events t d n) s) back
  own_so high back so = so_same (alone_so t d n (events t d n) s (Within m) high found_again) so

  -- has its sum,
  pub own_clocks : s ≤ t.layout.sectors → (sector_of t d n (events t d n) s).known.clocks ≡ (identifier_record t d n (Within m)).known.clocks
  own_clocks high = ap (λ (x : Sector). x.known.clocks) (alone_so t d n (events t d n) s (Within m) high found_again)

  -- and has its place.
  pub own_place : s ≤ t.layout.sectors → (sector_of t d n (events t d n) s).known.place ≡ m
  own_place high =
      ap (λ (x : Sector). x.known.place) (alone_so t d n (events t d n) s (Within m) high found_again) ∙ block_placed t d n m
