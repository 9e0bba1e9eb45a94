-- Where the reader stands in the walk: what it holds is what the definitions give of the events met so far, and the rest is still to come.
use mathlib.Core.Path.{◌≡◌, refl, sym, ap, ◌∙◌}
use mathlib.Core.List.{List, [], ◌∷◌, ◌++◌}
use Prim.Native.Nat.{ℕ, ◌+◌, ◌-◌, ◌*◌, ◌≤◌}
use native.Mathlib.Omega.{arith}
use borrow.Author.Tests.{le-leb}
use lib.Dec.{leb}
use lib.ListN.{get_or, set, replicate}
use lib.Seq.{sets}
use mathlib.Core.Bool.{cond, Bool, true, false}
use Rattle.layouts.specs.Layouts.{most_sectors}
use Rattle.layouts.specs.declared.Track.{Track}
use Rattle.walk.specs.Events.{bads, foreigns, blocks}
use Rattle.walk.specs.declared.Block.{Block}
use Rattle.walk.specs.declared.Event.{Event}
use Rattle.walk.specs.declared.Event.TheVariants.{Bad, Foreign, Accepted}
use Rattle.walk.proofs.Events.{bads_append, foreigns_append, blocks_own, blocks_other, blocks_bad, blocks_foreign}
use Rattle.read.specs.Records.{Sector, refused, record_for, sector_of, records_of, area_of}
use Rattle.read.specs.Turns.{next}
use Rattle.answers.specs.Answers.{no_place, no_record, unread, unread_records}
use Rattle.answers.specs.declared.Fault.TheVariants.{NoIdentifier}
use Rattle.answers.specs.declared.Record.{Record}
use Rattle.read.proofs.Recording.{record_next, length_sector}
use Rattle.read.proofs.Sectors.{map_same, map_all, map_at, map_set, slots_same, slots_zero, slots_set}

module _ (t : Track) (c : ℕ → ℕ) (n : ℕ) where
  -- ---- one event more

  sector_kept : (xs ys : List Event) (s : ℕ) → blocks s ys ≡ blocks s xs → sector_of t c n ys s ≡ sector_of t c n xs s
  unfolding sector_of
  sector_kept xs ys s same = rw same

  -- An event that is of no sector leaves each record, and the area.
  records_kept : (xs ys : List Event) → ((s : ℕ) → blocks s ys ≡ blocks s xs) → records_of t c n ys ≡ records_of t c n xs
  unfolding records_of
  records_kept xs ys same =
      map_same (λ s. (sector_of t c n xs s).known) (λ s. (sector_of t c n ys s).known) most_sectors 1
      (λ s _. ap (λ (x : Sector). x.known) (sector_kept xs ys s (same s)))

  area_kept : (xs ys : List Event) → ((s : ℕ) → blocks s ys ≡ blocks s xs) → area_of t c n ys ≡ area_of t c n xs
  unfolding area_of
  area_kept xs ys same =
      slots_same t.layout.size (λ s. (sector_of t c n xs s).slot) (λ s. (sector_of t c n ys s).slot) t.layout.sectors 1
      (λ s _. ap (λ (x : Sector). x.slot) (sector_kept xs ys s (same s)))

  module _ (xs : List Event) (s : ℕ) (few : t.layout.sectors ≤ most_sectors) (low : 1 ≤ s) (high : s ≤ t.layout.sectors) where
    -- The record of an accepted sector, as it is held.
    record_held : get_or (records_of t c n xs) (s - 1) no_record ≡ (sector_of t c n xs s).known
    unfolding records_of
    record_held = map_at (λ x. (sector_of t c n xs x).known) no_record most_sectors 1 s low (omega arith)

    -- The sector with one block more.
    sector_next : (b : Block)
        → sector_of t c n (xs ++ Accepted s b ∷ []) s ≡ next t c n (get_or (records_of t c n xs) (s - 1) no_record).answer b
    unfolding sector_of
    sector_next b = rw (record_held, le-leb s t.layout.sectors high, blocks_own s xs b) (record_next t c n (blocks s xs) b)

    other_kept : (b : Block) (x : ℕ) → (s ≡ x → ⊥) → sector_of t c n (xs ++ Accepted s b ∷ []) x ≡ sector_of t c n xs x
    other_kept b x o = sector_kept xs (xs ++ Accepted s b ∷ []) x (blocks_other x s xs b o)

    records_next : (b : Block)
        → records_of t c n (xs ++ Accepted s b ∷ [])
        ≡ set (records_of t c n xs) (s - 1) (next t c n (get_or (records_of t c n xs) (s - 1) no_record).answer b).known
    unfolding records_of
    records_next b =
        map_set (λ x. (sector_of t c n xs x).known) (λ x. (sector_of t c n (xs ++ Accepted s b ∷ []) x).known) s
        (λ x o. ap (λ (y : Sector). y.known) (other_kept b x o)) most_sectors 1 low
        ∙ ap (λ (y : Sector). set (records_of t c n xs) (s - 1) y.known) (sector_next b)

    area_next : 1 ≤ t.layout.size → (b : Block)
        → area_of t c n (xs ++ Accepted s b ∷ [])
        ≡ sets (area_of t c n xs) ((s - 1) * t.layout.size) (next t c n (get_or (records_of t c n xs) (s - 1) no_record).answer b).slot
    unfolding area_of
    area_next some b =
        slots_set t.layout.size (λ x. (sector_of t c n xs x).slot) (λ x. (sector_of t c n (xs ++ Accepted s b ∷ []) x).slot) s
        (λ x. length_sector t c n some xs x) (λ x. length_sector t c n some (xs ++ Accepted s b ∷ []) x)
        (λ x o. ap (λ (y : Sector). y.slot) (other_kept b x o)) t.layout.sectors 1 low (omega arith)
        ∙ ap (λ (y : Sector). sets (area_of t c n xs) ((s - 1) * t.layout.size) y.slot) (sector_next b)

  -- ---- the state

  -- The reader holds what the events met so far give.
  pub record State (done : List Event) (records : List Record) (area : List ℕ) (bad foreign : ℕ) : Type 0 where
    pub has_records : records ≡ records_of t c n done
    pub has_area : area ≡ area_of t c n done
    pub has_bad : bad ≡ bads done
    pub has_foreign : foreign ≡ foreigns done

  nothing_met : (s : ℕ) → sector_of t c n [] s ≡ refused t.layout.size NoIdentifier no_place
  unfolding sector_of record_for blocks
  nothing_met s = by (leb s t.layout.sectors)
    where
      by : (b : Bool) → cond b (refused t.layout.size NoIdentifier no_place) (refused t.layout.size NoIdentifier no_place) ≡ refused t.layout.size NoIdentifier no_place
      by true = refl
      by false = refl

  -- At the start nothing has been met.
  pub state_start : (area : List ℕ) → area ≡ replicate (t.layout.sectors * t.layout.size) 0 → State [] unread_records area 0 0
  unfolding bads foreigns records_of area_of
  state_start area a =
      record {
        has_records =
            sym (map_all (λ s. (sector_of t c n [] s).known) unread (λ s. ap (λ (x : Sector). x.known) (nothing_met s)) most_sectors 1);
        has_area =
            a
            ∙ sym (slots_zero t.layout.size (λ s. (sector_of t c n [] s).slot) (λ s. ap (λ (x : Sector). x.slot) (nothing_met s)) t.layout.sectors 1);
        has_bad = refl;
        has_foreign = refl;
      }

  module _ {done : List Event} {records : List Record} {area : List ℕ} {bad foreign : ℕ} (state : State done records area bad foreign) where
    pub state_bad : State (done ++ Bad ∷ []) records area (bad + 1) foreign
    unfolding bads foreigns
    state_bad =
        record {
          has_records = state.has_records ∙ sym (records_kept _ _ (λ s. blocks_bad s done));
          has_area = state.has_area ∙ sym (area_kept _ _ (λ s. blocks_bad s done));
          has_bad = ap (λ (k : ℕ). k + 1) state.has_bad ∙ sym (bads_append done (Bad ∷ []));
          has_foreign = omega (arith, state.has_foreign, foreigns_append done (Bad ∷ []));
        }

    pub state_foreign : State (done ++ Foreign ∷ []) records area bad (foreign + 1)
    unfolding bads foreigns
    state_foreign =
        record {
          has_records = state.has_records ∙ sym (records_kept _ _ (λ s. blocks_foreign s done));
          has_area = state.has_area ∙ sym (area_kept _ _ (λ s. blocks_foreign s done));
          has_bad = omega (arith, state.has_bad, bads_append done (Foreign ∷ []));
          has_foreign = ap (λ (k : ℕ). k + 1) state.has_foreign ∙ sym (foreigns_append done (Foreign ∷ []));
        }

    pub state_accepted : (s : ℕ) (b : Block) {records' : List Record} {area' : List ℕ}
        → t.layout.sectors ≤ most_sectors → 1 ≤ t.layout.size → 1 ≤ s → s ≤ t.layout.sectors
        → records' ≡ set records (s - 1) (next t c n (get_or records (s - 1) no_record).answer b).known
        → area' ≡ sets area ((s - 1) * t.layout.size) (next t c n (get_or records (s - 1) no_record).answer b).slot
        → State (done ++ Accepted s b ∷ []) records' area' bad foreign
    unfolding bads foreigns
    state_accepted s b few some low high r a =
        record {
          has_records = r ∙ rw state.has_records (sym (records_next done s few low high b));
          has_area = a ∙ rw (state.has_records, state.has_area) (sym (area_next done s few low high some b));
          has_bad = omega (arith, state.has_bad, bads_append done (Accepted s b ∷ []));
          has_foreign = omega (arith, state.has_foreign, foreigns_append done (Accepted s b ∷ []));
        }
