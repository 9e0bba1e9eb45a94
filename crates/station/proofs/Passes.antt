-- Two reads and a pick, as a caller uses them: the numbers that `station_read` gives bring the read's records back, and what `station_pick`
-- names is the stretch that `pick` hands back.
use mathlib.Core.Path.{◌≡◌, refl, ap, ◌∙◌}
use mathlib.Core.Bool.{cond}
use mathlib.Core.List.{List}
use Prim.Native.Nat.{ℕ, ◌≤◌}
use borrow.Author.Tests.{le-leb}
use lib.Dec.{eqb}
use lib.ListN.{get_or, length, take, drop}
use Rattle.layouts.specs.Layouts.{layout_of, most_sectors}
use Rattle.calls.specs.Refusals.{checked_number}
use Rattle.calls.proofs.Refusals.{passed_with}
use Rattle.verdicts.specs.Tests.{refusal}
use Rattle.verdicts.proofs.Tests.{by_map}
use Rattle.std.specs.Prelude.{Result, Ok, Err, IfOk}
use Rattle.calls.specs.declared.Refusal.{Refusal}
use Rattle.read.specs.Outcomes.{read_tests, read_answer}
use Rattle.read.proofs.Passing.{modest}
use Rattle.answers.specs.Answers.{record_at}
use Rattle.pick.specs.Picks.{stretch_of}
use Rattle.answers.specs.declared.Record.{Record}
use Rattle.read.specs.declared.Reading.{Reading}
use Rattle.pick.specs.declared.Choice.{Choice}
use Rattle.pick.specs.declared.Choice.TheVariants.{First, Second, Neither}
use Rattle.answers.proofs.Numbering.{answer_back}
use Rattle.station.specs.Outcomes.{verdict_number, answered_records, GivesRead, GivesPick}
use Rattle.station.specs.Picks.{numbered_choice, part_of}
use Rattle.station.specs.Records.{record_numbers, numbered_record, sector_numbers, numbered_at}
use Rattle.station.proofs.Listing.{listed_at_lem}

-- A record comes back from its numbers.
pub record_back : (r : Record) → numbered_record (record_numbers r) ≡ r
record_back r = ap (λ a. record { answer = a; place = r.place; clocks = r.clocks }) (answer_back r.answer)

-- Sector by sector, the records of what `station_read` gives are the read's. (Past the layout's count, and where the call is refused, it gives zeros.)
pub read_back : (layout cylinder side : ℕ) (image : List ℕ) (given number : ℕ) (area list counts : List ℕ)
    → GivesRead layout cylinder side image given number area list counts
    → (reading : Reading) → read_answer layout cylinder side image given ≡ Ok reading
    → (s : ℕ) → 1 ≤ s → s ≤ most_sectors → s ≤ reading.sectors
    → numbered_at list s ≡ record_at reading.records s
unfolding sector_numbers
read_back layout cylinder side image given number area list counts g reading is s low high there =
    ap (λ (x : List ℕ). numbered_at x s) (g.recorded ∙ ap answered_records is)
    ∙ ap numbered_record (listed_at_lem reading.sectors reading.records s low high)
    ∙ rw (le-leb s reading.sectors there) (record_back (record_at reading.records s))

-- The number of a read's answer is that of its tests.
pub read_number : (layout cylinder side : ℕ) (image : List ℕ) (given : ℕ)
    → checked_number (read_answer layout cylinder side image given) ≡ verdict_number (refusal (read_tests layout cylinder side (length image) given))
unfolding read_answer
read_number layout cylinder side image given = by_map checked_number _ _ _

-- A read hands back no more sectors than there can be.
pub read_few : (layout cylinder side : ℕ) (image : List ℕ) (given : ℕ) (answer : Result Reading Refusal)
    → answer ≡ read_answer layout cylinder side image given → IfOk answer (λ r. r.sectors ≤ most_sectors)
unfolding read_answer
read_few layout cylinder side image given (Ok reading) is = rw (passed_with _ _ _ is).1 (modest layout).1
read_few layout cylinder side image given (Err f) is = tt

-- The bytes that the three numbers name: a part of the first area, of the second, or nothing.
abbrev pub named : (first second taken : List ℕ) → List ℕ
named first second taken = take (get_or taken 2 0) (drop (get_or taken 1 0) (cond (eqb (get_or taken 0 0) 1) first second))

-- What `station_pick` names is the stretch that goes with what is picked.
pub pick_named : (layout sector : ℕ) (first ones second twos : List ℕ) (number : ℕ) (taken handed : List ℕ)
    → GivesPick layout sector first ones second twos number taken handed
    → named first second taken ≡ stretch_of (layout_of layout) sector first second (numbered_choice layout sector first ones second twos)
pick_named layout sector first ones second twos number taken handed g =
    ap (named first second) g.placed ∙ go (numbered_choice layout sector first ones second twos)
  where
    go : (p : Result Choice Refusal) → named first second (part_of (layout_of layout) sector p) ≡ stretch_of (layout_of layout) sector first second p
    go (Ok (First r)) = refl
    go (Ok (Second r)) = refl
    go (Ok (Neither r)) = refl
    go (Err f) = refl
