-- What holds of every sector's record holds wherever the record is handed out; and a sector's record goes by the blocks that its identifiers gave.
use mathlib.Core.Path.{◌≡◌, sym, ap, subst, ◌∙◌, refl}
use mathlib.Core.Bool.{Bool, true, false, cond}
use mathlib.Core.List.{List}
use Prim.Native.Nat.{ℕ, ◌*◌}
use native.Mathlib.Omega.{arith}
use lib.Dec.{leb}
use lib.ListN.{length}
use Rattle.answers.specs.Answers.{no_place, record_at}
use Rattle.answers.specs.declared.Fault.TheVariants.{NoIdentifier}
use Rattle.answers.specs.declared.Record.{Record}
use Rattle.cells.specs.Cells.{cell}
use Rattle.format.specs.Order.{Numbered}
use Rattle.layouts.specs.Layouts.{layout_of}
use Rattle.layouts.specs.Tracks.{track_of}
use Rattle.layouts.specs.declared.Track.{Track}
use Rattle.read.specs.Records.{Sector, refused as refusing, record_for, sector_of}
use Rattle.read.specs.Outcomes.{reading}
use Rattle.read.specs.declared.Reading.{Reading}
use Rattle.read.proofs.Passing.{modest}
use Rattle.station.specs.Outcomes.{GivesRead}
use Rattle.station.specs.Records.{numbered_at}
use Rattle.station.proofs.Passes.{read_back}
use Rattle.walk.specs.Events.{blocks}
use Rattle.walk.specs.Outcomes.{met}
use Rattle.walk.specs.declared.Block.{Block}
use Rattle.walk.proofs.Walking.{AllWhole, blocks_whole}
use Rattle.promises.specs.Records.{OfEveryRecord}
use Rattle.promises.specs.Sectors.{sector_in}
use Rattle.promises.proofs.Demands.{passed_reading}
use Rattle.promises.proofs.Doors.{accepted_read}
use Rattle.promises.proofs.formatting.Calls.{record_read}

-- ---- one sector

-- A sector is what its blocks make of it, each of which is where the walk says, or one that there is not.
pub by_blocks : (t : Track) (image : List ℕ) (P : Sector → Type 0) → P (refusing t.layout.size NoIdentifier no_place)
    → ((bs : List Block) → AllWhole t (cell image) (8 * length image) bs → P (record_for t (cell image) (8 * length image) bs))
    → (s : ℕ) → P (sector_in t image s)
unfolding sector_of
by_blocks t image P none some s = go (leb s t.layout.sectors)
  where
    go : (b : Bool) → P (cond b (record_for t (cell image) (8 * length image) (blocks s (met t image))) (refusing t.layout.size NoIdentifier no_place))
    go true = some (blocks s (met t image)) (blocks_whole t (cell image) (8 * length image) s)
    go false = none

-- ---- in the words of the calls

module _ (layout cylinder side : ℕ) (image : List ℕ) (given s : ℕ) (named : Numbered (layout_of layout) s) where
  -- The record that a read hands back which is not refused.
  pub handed_back : (answer : Reading) → answer ≡ reading (track_of layout cylinder side) image
      → record_at answer.records s ≡ (sector_in (track_of layout cylinder side) image s).known
  handed_back answer told =
      ap (λ (r : Reading). record_at r.records s) told ∙ record_read (track_of layout cylinder side) image s named.0 named.1 (modest layout).1

  -- The record that the numbers say.
  pub numbered_back : (area records counts : List ℕ) → GivesRead layout cylinder side image given 0 area records counts
      → numbered_at records s ≡ (sector_in (track_of layout cylinder side) image s).known
  numbered_back area records counts p =
      let told = accepted_read layout cylinder side image given area records counts p in
      let few = (modest layout).1 in
      read_back layout cylinder side image given 0 area records counts p (reading (track_of layout cylinder side) image) told s named.0 (omega (arith, few, named.1)) named.1
      ∙ handed_back (reading (track_of layout cylinder side) image) refl

pub of_every_record : (Holds : Track → List ℕ → Record → Type 0) → ((t : Track) (image : List ℕ) (s : ℕ) → Holds t image (sector_in t image s).known)
    → OfEveryRecord Holds
of_every_record Holds holds =
    record {
      sectors = holds;
      read = λ layout cylinder side image given hands after s p named.
          let t = track_of layout cylinder side in
          let told = passed_reading layout cylinder side image given hands after p in
          subst (Holds t image) (sym (handed_back layout cylinder side image given s named hands told)) (holds t image s);
      door = λ layout cylinder side image given area records counts s p named.
          let t = track_of layout cylinder side in
          subst (Holds t image) (sym (numbered_back layout cylinder side image given s named area records counts p)) (holds t image s);
    }
