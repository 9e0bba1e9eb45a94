-- What `read` promises.
use Rattle.std.specs.Prelude.{List, [], ◌∷◌, ◌++◌, ◌≡◌, ℕ, ◌*◌, length, replicate, Result, Ok, Err}
use Rattle.cells.specs.Cells.{cell}
use Rattle.layouts.specs.Layouts.{layout_of}
use Rattle.calls.specs.Refusals.{area_test}
use Rattle.layouts.specs.Refusals.{reading_tests}
use Rattle.layouts.specs.Tracks.{track_of}
use Rattle.calls.specs.declared.Refusal.{Refusal}
use Rattle.layouts.specs.declared.Track.{Track}
use Rattle.verdicts.specs.Tests.{Test, refusal, by}
use Rattle.walk.specs.Events.{bads, foreigns}
use Rattle.walk.specs.Outcomes.{met}
use Rattle.read.specs.Records.{records_of, area_of}
use Rattle.read.specs.declared.Reading.{Reading}

-- The refusals of read, in the papers' order: 2, 3, 4, 1, 5 (01, "Refused calls").
unfoldable pub read_tests : (layout cylinder side image area : ℕ) → List (Test Refusal)
read_tests layout cylinder side image area = reading_tests layout cylinder side image ++ (area_test (layout_of layout).area_bytes area ∷ [])

-- What reading an image of this track hands back: the records and the counts of what the walk meets.
abbrev pub reading : Track → List ℕ → Reading
reading t image =
    record {
      sectors = t.layout.sectors;
      records = records_of t (cell image) (8 * length image) (met t image);
      bad = bads (met t image);
      foreign = foreigns (met t image);
    }

module _ (layout cylinder side : ℕ) (image : List ℕ) (given : ℕ) where
  -- What `read` answers: the reading, or the refusal alone, without records or counts.
  unfoldable pub read_answer : Result Reading Refusal
  read_answer = by (refusal (read_tests layout cylinder side (length image) given)) (Ok (reading (track_of layout cylinder side) image)) Err

  -- What `read` leaves in an area of this length: the sectors' slots; refused, zeros. What the area held before is not named.
  unfoldable pub read_area : List ℕ
  read_area =
      by (refusal (read_tests layout cylinder side (length image) given))
      (area_of (track_of layout cylinder side) (cell image) (8 * length image) (met (track_of layout cylinder side) image))
      (λ f. replicate given 0)

-- `read` answers this, and leaves this.
pub record Reads (layout cylinder side : ℕ) (image : List ℕ) (given : ℕ) (answer : Result Reading Refusal) (after : List ℕ) : Type 0 where
  pub answers : answer ≡ read_answer layout cylinder side image given
  pub leaves : after ≡ read_area layout cylinder side image given
