-- Flux timings (02, Req 05), of the exported function: each refusal when it applies and only then, zeros where one is given, and the round trip: a track
-- that is timed comes back, and what was formatted, timed and captured reads as the very sectors that went in.
use Rattle.std.specs.Prelude.{cond, List, [], ◌∷◌, ◌++◌, map, ◌≡◌, ℕ, zero, suc, ◌+◌, ◌-◌, ◌*◌, ◌/◌, ◌%◌, ◌<◌, ◌≤◌, eqb, length, get_or, replicate}
use Rattle.cells.specs.Cells.{Bytes, cell}
use Rattle.cells.specs.declared.Mode.TheVariants.{Mfm}
use Rattle.layouts.specs.Layouts.{layout_of}
use Rattle.layouts.specs.Tracks.{track_of}
use Rattle.flux.specs.Intervals.{counter_run}
use Rattle.flux.specs.Refusals.{refusal_number, interval_number, least_ticks, most_ticks, lay_tests}
use Rattle.flux.specs.declared.Refusal.{Refusal}
use Rattle.flux.specs.declared.Refusal.TheVariants.{NoStamps}
use Rattle.station.specs.Outcomes.{GivesFormat, GivesRead}
use Rattle.station.specs.Timings.{GivesFlux}
use Rattle.verdicts.specs.Tests.{passed, refused, refusal, ExactlyBy}
use Rattle.promises.specs.Doors.{GivesBack}

-- ---- demand 1, of a capture

-- The numbers 41 to 44, that of the interval with them, tell the refusals apart.
abbrev pub FluxNumbersApart : Type 0
FluxNumbersApart = (a b : Refusal) → refusal_number a ≡ refusal_number b → interval_number a ≡ interval_number b → a ≡ b

-- The number, and for 43 the interval's, are those of a refusal exactly if a test of the list gives this refusal, applies, and none before it does.
abbrev pub FluxDoorRefuses : Type 0
FluxDoorRefuses =
    (ticks : ℕ) (stamps : List ℕ) (bytes number : ℕ) (image result : List ℕ)
    → GivesFlux ticks stamps bytes number image result
    → ExactlyBy (lay_tests ticks stamps bytes) (λ f. (number ≡ refusal_number f) × (get_or result 1 0 ≡ interval_number f))

-- A refused capture leaves zeros in the whole image, and no number of cells.
abbrev pub RefusedFluxGivesZeros : Type 0
RefusedFluxGivesZeros =
    (ticks : ℕ) (stamps : List ℕ) (bytes number : ℕ) (image result : List ℕ)
    → GivesFlux ticks stamps bytes number image result
    → (number ≡ 0 → ⊥)
    → (image ≡ replicate bytes 0) × (get_or result 0 0 ≡ 0)

-- ---- a capture that comes as a stream

-- A refusal met within the stamps that have come stands, whatever follows them; and so many stamps are always refused. (A program that reads a stream
-- holds that many, and no more.)
pub record CaptureStands : Type 0 where
  pub same : (ticks : ℕ) (stamps more : List ℕ) (bytes : ℕ) (f : Refusal) → (f ≡ NoStamps → ⊥)
      → refusal (lay_tests ticks stamps bytes) ≡ refused f → refusal (lay_tests ticks (stamps ++ more) bytes) ≡ refused f
  pub enough : (ticks : ℕ) (stamps : List ℕ) (bytes : ℕ) → 4 * bytes < length stamps → refusal (lay_tests ticks stamps bytes) ≡ passed → ⊥

-- ---- a track that is timed

-- The places of the 1 cells among the k cells from cell p on, in their order.
unfoldable pub ones : (c : ℕ → ℕ) → (p k : ℕ) → List ℕ
ones c p zero = []
ones c p (suc k) = let rest = ones c (p + 1) k in cond (eqb (c p) 1) (p ∷ rest) rest

-- The stamps of an image's 1 cells at their nominal times: a nominal bit cell takes so many ticks and a cell of the image half of them, and the counter,
-- which runs over, stands at `start` when cell 0 comes.
abbrev pub nominal : (ticks start : ℕ) → (image : List ℕ) → List ℕ
nominal ticks start image = map (λ p. (start + ticks / 2 * p) % counter_run) (ones (cell image) 0 (8 * length image))

-- An even number of ticks in the range that is taken.
abbrev pub Halved : (ticks : ℕ) → Type 0
Halved ticks = (ticks % 2 ≡ 0) × (least_ticks ≤ ticks) × (ticks ≤ most_ticks)

-- The first cell is 1, and two 1 cells with none between them stand two, three or four apart.
pub record Paced (image : List ℕ) : Type 0 where
  pub first : cell image 0 ≡ 1
  pub apart : (i d : ℕ) → cell image i ≡ 1 → cell image (i + d) ≡ 1 → 1 ≤ d → ((e : ℕ) → 1 ≤ e → e < d → cell image (i + e) ≡ 0) → (2 ≤ d) × (d ≤ 4)

-- So many cells go up to the last 1.
abbrev pub UpToTheLast : (image : List ℕ) → (n : ℕ) → Type 0
UpToTheLast image n = (1 ≤ n) × (cell image (n - 1) ≡ 1) × ((i : ℕ) → n ≤ i → cell image i ≡ 0)

-- What comes back of an image: its very cells up to the last 1, behind which both have zeros.
pub record ComesBack (image : List ℕ) (number : ℕ) (captured result : List ℕ) : Type 0 where
  pub accepted : number ≡ 0
  pub counted : UpToTheLast image (get_or result 0 0)
  pub cells : (i : ℕ) → cell captured i ≡ cell image i

-- From any start of the counter, into any area that has room up to the last 1.
abbrev pub TimingsComeBack : Type 0
TimingsComeBack =
    (ticks start bytes : ℕ) (image : List ℕ)
    → Halved ticks
    → Paced image
    → ((i : ℕ) → cell image i ≡ 1 → i < 8 * bytes)
    → (number : ℕ) (captured result : List ℕ)
    → GivesFlux ticks (nominal ticks start image) bytes number captured result
    → ComesBack image number captured result

-- Every MFM track that `station_format` writes is such an image.
abbrev pub FormattedIsPaced : Type 0
FormattedIsPaced =
    (layout cylinder side : ℕ) (contents marks before image : List ℕ)
    → GivesFormat layout cylinder side contents marks before 0 image
    → (layout_of layout).mode ≡ Mfm
    → Paced image

-- Format, timing, flux and read: the image that was captured is the one that was written, and it reads as the very sectors and marks that went in.
abbrev pub CaptureReadsBack : Type 0
CaptureReadsBack =
    (layout cylinder side : ℕ) (contents marks before image : List ℕ)
    → Bytes contents
    → GivesFormat layout cylinder side contents marks before 0 image
    → (layout_of layout).mode ≡ Mfm
    → (ticks start : ℕ) → Halved ticks
    → (answer : ℕ) (captured result : List ℕ) → GivesFlux ticks (nominal ticks start image) (length image) answer captured result
    → (number : ℕ) (area records counts : List ℕ) → GivesRead layout cylinder side captured (layout_of layout).area_bytes number area records counts
    → (answer ≡ 0) × (captured ≡ image) × GivesBack (track_of layout cylinder side) contents marks number area records counts
