-- The round trip, for any layout whose constants serve and any order of its sectors: what the walk meets, and how the sectors read. Then natural
-- order.
use mathlib.Core.Path.{◌≡◌, refl, ap, ◌∙◌}
use mathlib.Core.Bool.{false, cond}
use mathlib.Core.List.{List, [], ◌∷◌}
use mathlib.Core.Logic.{⊎_elim}
use Prim.Native.Nat.{ℕ, zero, suc, ◌+◌, ◌-◌, ◌*◌, ◌<◌, ◌≤◌}
use native.Mathlib.Nat.{le-mul_of_pos_right, eq-or-lt_of_le}
use native.Mathlib.Omega.{arith}
use lib.Dec.{eqb}
use lib.ListN.{length, get_or}
use borrow.Author.Tests.{eq-eqb, ne_eqb}
use Rattle.calls.specs.Refusals.{control_test}
use Rattle.cells.specs.Cells.{cell, Byte, Bytes}
use Rattle.format.specs.Order.{Numbered, formatted}
use Rattle.format.proofs.Parts.{slotted, slots, length_slot, length_formatted, numbered}
use Rattle.layouts.specs.Layouts.{Every, numbers, sector_fields, slot_in}
use Rattle.layouts.specs.declared.Layout.{Layout}
use Rattle.layouts.specs.declared.Track.{Track}
use Rattle.format.specs.Places.{block_place}
use Rattle.walk.specs.Events.{blocks}
use Rattle.walk.specs.Outcomes.{met}
use Rattle.walk.specs.Walk.{events}
use Rattle.walk.specs.declared.Block.{Block}
use Rattle.walk.specs.declared.Block.TheVariants.{Within}
use Rattle.promises.specs.RoundTrip.{Legible, times, position, Ordered, accepted_from, went_in, ReadsBack}
use Rattle.promises.specs.Sectors.{sector_in, ReadsSo}
use Rattle.promises.proofs.formatting.Single.{none_bad, none_foreign, Single, single, single_so, single_placed, single_clocks}
use Rattle.promises.proofs.formatting.Rounds.{walk_held}
use Rattle.promises.proofs.formatting.Held.{fields_sum, Held, track_held}

-- Refusal 7 lets all sectors be written.
abbrev pub Permitted : Track → (contents marks : List ℕ) → Type 0
Permitted t contents marks =
    (s : ℕ)
    → Numbered t.layout s
    → (control_test t.cylinder (get_or marks (s - 1) 0) (get_or (slot_in t.layout.size s contents) 0 0)).applies ≡ false

-- These blocks are one, at an image byte.
pub record OnePlace (bs : List Block) : Type 0 where
  pub byte : ℕ
  pub alone : bs ≡ Within (8 * byte) ∷ []

module _ (t : Track) (fit : Legible t.layout) (hc : Byte t.cylinder) (hs : Byte t.side) (contents marks : List ℕ)
    (all : Bytes contents) (long : length contents ≡ t.layout.sectors * t.layout.size) where
  -- There are more cells than sectors.
  enough : (order : List ℕ) → Every (Numbered t.layout) order → length order ≤ 8 * length (formatted t contents marks order)
  enough order h =
      let some : 0 < sector_fields t.layout = omega (arith, fields_sum t.layout) in
      omega (arith, length_formatted t contents marks order (slots t.layout contents long order h), le-mul_of_pos_right (length order) some)

  module _ (order : List ℕ) (ordered : Ordered t.layout order) where
    -- The image of the track.
    abbrev im : List ℕ
    im = formatted t contents marks order

    held : Held t (cell im) (8 * length im) contents marks 0 order
    held = track_held t fit hc hs contents marks all order ordered.numbered (slots t.layout contents long order ordered.numbered)

    meets : met t im ≡ accepted_from t.layout 0 order
    unfolding events
    meets =
        walk_held t (cell im) (8 * length im) fit.near contents marks order 0 (8 * length im) ordered.numbered
        (enough order ordered.numbered) held

    -- Each sector has one block, and nothing else.
    one_block : (s : ℕ) → Numbered t.layout s → Single t (cell im) (8 * length im) contents marks s (0 + position s order) (blocks s (met t im))
    one_block s h = rw meets (single t (cell im) (8 * length im) contents marks s order 0 (ordered.once s h) held)

    pub one_place : (s : ℕ) → Numbered t.layout s → OnePlace (blocks s (met t im))
    one_place s h = let b = one_block s h in record { byte = block_place t.layout (0 + position s order); alone = b.one }

    sectors : Permitted t contents marks → (s : ℕ) → Numbered t.layout s → ReadsSo (sector_in t im s) (went_in t contents marks s)
    sectors permitted s h =
        single_so t (cell im) (8 * length im) contents marks s (0 + position s order) (met t im) h.1
        (one_block s h)
        (length_slot t.layout.size contents s (slotted t.layout.sectors t.layout.size contents long s h.0 h.1))
        (permitted s h)

    places : (s : ℕ) → Numbered t.layout s → (sector_in t im s).known.place ≡ 8 * block_place t.layout (position s order)
    places s h =
        let from_zero : 0 + position s order ≡ position s order = omega arith in
        single_placed t (cell im) (8 * length im) contents marks s (0 + position s order) (met t im) h.1 (one_block s h)
        ∙ ap (λ (i : ℕ). 8 * block_place t.layout i) from_zero

    clocks : (s : ℕ) → Numbered t.layout s → (sector_in t im s).known.clocks ≡ 0
    clocks s h = single_clocks t (cell im) (8 * length im) contents marks s (0 + position s order) (met t im) h.1 (one_block s h)

    -- A formatted track reads back.
    pub round_trip : Permitted t contents marks → ReadsBack t contents marks order im
    round_trip permitted =
        record {
          meets = meets;
          bad = rw meets (none_bad t.layout 0 order);
          foreign = rw meets (none_foreign t.layout 0 order);
          sectors = sectors permitted;
          places = places;
          clocks = clocks;
        }

-- ---- natural order

-- A number before the first is not in the list,
pub times_before : (s k a : ℕ) → s < a → times s (numbers k a) ≡ 0
unfolding times
times_before s zero a h = refl
times_before s (suc k) a h = rw (ne_eqb a s (λ e. omega arith)) (times_before s k (suc a) (omega arith))

-- and each that is in it stands there once.
times_once : (s k a : ℕ) → a ≤ s → s < a + k → times s (numbers k a) ≡ 1
unfolding times
times_once s zero a h u = absurd (omega arith)
times_once s (suc k) a h u =
    ⊎_elim (λ (e : a ≡ s). first e) (λ (e : a < s). later e (times_once s k (suc a) (omega arith) (omega arith))) (eq-or-lt_of_le h)
  where
    first : a ≡ s → cond (eqb a s) (suc (times s (numbers k (suc a)))) (times s (numbers k (suc a))) ≡ 1
    first e = rw (eq-eqb a s e, times_before s k (suc a) (omega arith))

    later : a < s → times s (numbers k (suc a)) ≡ 1 → cond (eqb a s) (suc (times s (numbers k (suc a)))) (times s (numbers k (suc a))) ≡ 1
    later e rest = rw (ne_eqb a s (λ q. omega arith)) rest

-- Natural order holds each number once.
pub natural : (l : Layout) → Ordered l (numbers l.sectors 1)
natural l = record { numbered = numbered l; once = λ s h. times_once s l.sectors 1 h.0 (omega arith) }

-- In it a number stands where it is counted.
pub natural_position : (s k a : ℕ) → a ≤ s → s < a + k → position s (numbers k a) ≡ s - a
unfolding position
natural_position s zero a h u = absurd (omega arith)
natural_position s (suc k) a h u =
    ⊎_elim (λ (e : a ≡ s). first e) (λ (e : a < s). later e (natural_position s k (suc a) (omega arith) (omega arith))) (eq-or-lt_of_le h)
  where
    first : a ≡ s → cond (eqb a s) 0 (suc (position s (numbers k (suc a)))) ≡ s - a
    first e = rw (eq-eqb a s e) (omega arith)

    later : a < s → position s (numbers k (suc a)) ≡ s - suc a → cond (eqb a s) 0 (suc (position s (numbers k (suc a)))) ≡ s - a
    later e rest = rw (ne_eqb a s (λ q. omega arith)) (omega arith)
