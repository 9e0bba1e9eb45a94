-- Demand 3: a rewrite is a fixed list of single-byte stores, and it may be cut after any of them. Said here of a request that is accepted: what
-- its steps do one after the other, how the image reads wherever they are cut, and that starting again ends as if nothing had been cut.
use Rattle.std.specs.Prelude.{List, ◌≡◌, ℕ, suc, ◌-◌, ◌*◌, ◌<◌, ◌≤◌, length, get_or, set, Result, Ok, Err}
use Rattle.std.proofs.lemmas.List.Edits.{sets}
use Rattle.cells.specs.Cells.{Bytes}
use Rattle.format.specs.Order.{Numbered}
use Rattle.format.specs.Outcomes.{Formats}
use Rattle.calls.specs.declared.Refusal.{Refusal}
use Rattle.calls.specs.Refusals.{checked_number}
use Rattle.layouts.specs.Layouts.{layout_of}
use Rattle.layouts.specs.Tracks.{track_of}
use Rattle.marks.specs.Marks.{mark_of}
use Rattle.read.specs.Outcomes.{Reads}
use Rattle.read.specs.declared.Reading.{Reading}
use Rattle.answers.specs.declared.Record.{Record}
use Rattle.request.specs.Refusals.{contents_tests}
use Rattle.rewrite.specs.Stores.{no_store, stores, store_count}
use Rattle.rewrite.specs.Outcomes.{Steps}
use Rattle.request.specs.Outcomes.{Requests}
use Rattle.verdicts.specs.Tests.{passed, refusal}
use Rattle.walk.specs.Events.{bads, foreigns}
use Rattle.walk.specs.Outcomes.{met}
use Rattle.promises.specs.Cuts.{cut}
use Rattle.promises.specs.Sectors.{sector_in, under_way, reads_back, ReadsSo}
use Rattle.rewrite.specs.declared.Plan.{Plan}
use Rattle.rewrite.specs.declared.Store.{Store}

-- ---- the words

-- The plan in hand after a step: the one that it handed back; a refused step leaves the plan as it was.
abbrev pub in_hand : Plan → Result Plan Refusal → Plan
in_hand plan (Ok next) = next
in_hand plan (Err f) = plan

-- j calls of `step` one after the other, the first with this plan on this image. Each is handed the plan last handed back, the same mark and
-- contents, and the image as the one before left it. At the end a plan is in hand, and an image is left.
pub data Ran (mark : ℕ) (contents : List ℕ) (plan : Plan) (image : List ℕ) : ℕ → Plan → List ℕ → Type 0 where
  begun : Ran mark contents plan image 0 plan image
  went : (j : ℕ) (held : Plan) (now : List ℕ) (answer : Result Plan Refusal) (after : List ℕ) → Ran mark contents plan image j held now
      → Steps held mark contents now answer after → Ran mark contents plan image (suc j) (in_hand held answer) after

-- A mark and contents that pass 5, 6 and 7.
abbrev pub Fit : (layout cylinder mark : ℕ) → List ℕ → Type 0
Fit layout cylinder mark contents = refusal (contents_tests (layout_of layout) cylinder mark contents) ≡ passed

-- ---- the steps

-- How many stores a rewrite by the plan makes: 2N + 7, or 2N + 6 in FM and at the image's end.
abbrev pub number : (layout : ℕ) → List ℕ → Plan → ℕ
number layout image plan = store_count (layout_of layout) plan.place (length image)

-- The plan with j stores made.
abbrev pub plan_at : Plan → ℕ → Plan
plan_at plan j = record { layout = plan.layout; place = plan.place; made = j }

module _ (layout mark : ℕ) (contents image : List ℕ) (plan : Plan) where
  -- The fixed list of stores, and the image with the first j of them made.
  abbrev pub list : List Store
  list = stores (layout_of layout) image plan.place (mark_of mark) contents

  abbrev pub after : ℕ → List ℕ
  after j = cut (layout_of layout) image plan.place (mark_of mark) contents j

  -- The steps of an accepted request, the plan being the request's: they make the list, one store each.
  pub record Stepwise : Type 0 where
    -- The list has that number of stores.
    pub counts : length list ≡ number layout image plan
    -- After j steps the image is the first j stores made, and the plan in hand says j: that can come about, and nothing else can.
    pub runs : (j : ℕ) → j ≤ number layout image plan → Ran mark contents plan image j (plan_at plan j) (after j)
    pub only : (j : ℕ) (held : Plan) (now : List ℕ) → j ≤ number layout image plan → Ran mark contents plan image j held now
        → (held ≡ plan_at plan j) × (now ≡ after j)
    -- None of the steps is refused, the last included: the step after j others makes the next store and counts it.
    pub makes : (j : ℕ) (held : Plan) (now : List ℕ) (answer : Result Plan Refusal) (next : List ℕ) → j < number layout image plan
        → Ran mark contents plan image j held now → Steps held mark contents now answer next
        → (answer ≡ Ok (plan_at plan (suc j))) × (next ≡ after (suc j))
    -- It changes at most the byte that it stores.
    pub changes : (j : ℕ) (held : Plan) (now : List ℕ) (answer : Result Plan Refusal) (next : List ℕ) → j < number layout image plan
        → Ran mark contents plan image j held now → Steps held mark contents now answer next
        → (length next ≡ length now) × ((i : ℕ) → (i ≡ (get_or list j no_store).byte → ⊥) → get_or next i 0 ≡ get_or now i 0)
    -- The step after the last is refused 12, and changes nothing.
    pub refuses : (held : Plan) (now : List ℕ) (answer : Result Plan Refusal) (next : List ℕ)
        → Ran mark contents plan image (number layout image plan) held now → Steps held mark contents now answer next
        → (checked_number answer ≡ 12) × (next ≡ now)

-- ---- a cut

-- What `read` answers, with another record for one sector.
abbrev pub with_record : Result Reading Refusal → (sector : ℕ) → Record → Result Reading Refusal
with_record (Ok reading) sector x =
    Ok (
    record {
      sectors = reading.sectors;
      records = set reading.records (sector - 1) x;
      bad = reading.bad;
      foreign = reading.foreign;
    }
    )
with_record (Err f) sector x = Err f

-- A rewrite was cut after j stores, and left the image `now`.
pub record Survives (layout cylinder side sector mark : ℕ) (contents image : List ℕ) (plan : Plan) (j : ℕ) (now : List ℕ) : Type 0 where
  -- Every other sector reads as before, its place and the sum of its doubtful clock cells included (02, Req 01 and 06), and both counts are as before.
  pub others : (x : ℕ) → (x ≡ sector → ⊥) → sector_in (track_of layout cylinder side) now x ≡ sector_in (track_of layout cylinder side) image x
  pub bad : bads (met (track_of layout cylinder side) now) ≡ bads (met (track_of layout cylinder side) image)
  pub foreign : foreigns (met (track_of layout cylinder side) now) ≡ foreigns (met (track_of layout cylinder side) image)
  -- The sector itself reads as before if no store was made; it is refused as open if some were made but not all; after the last it is the new
  -- one.
  pub unbegun : j ≡ 0 → sector_in (track_of layout cylinder side) now sector ≡ sector_in (track_of layout cylinder side) image sector
  pub opened : 0 < j → j < number layout image plan → ReadsSo (sector_in (track_of layout cylinder side) now sector) (under_way (layout_of layout).size)
  pub written : j ≡ number layout image plan
      → ReadsSo (sector_in (track_of layout cylinder side) now sector) (reads_back cylinder mark contents)
  -- Then none of its clock cells is doubtful (02, Req 06). Before, while the open mark stands, some can be: those of old cells, the one where new cells meet
  -- old ones, and, though all bytes are new, the first, which is coded as if the new mark stood there.
  pub faultless : j ≡ number layout image plan → (sector_in (track_of layout cylinder side) now sector).known.clocks ≡ 0
  -- Its mark is where it was, before, during and after (02, Req 01).
  pub placed : (sector_in (track_of layout cylinder side) now sector).known.place ≡ (sector_in (track_of layout cylinder side) image sector).known.place
  -- In the words of `read`: it answers what it answers of the first image, but for this one record, and leaves the same, but for this one slot.
  pub reads : (before answer : Result Reading Refusal) (area after : List ℕ)
      → Reads layout cylinder side image (layout_of layout).area_bytes before area
      → Reads layout cylinder side now (layout_of layout).area_bytes answer after
      → (answer ≡ with_record before sector (sector_in (track_of layout cylinder side) now sector).known)
      × (after ≡ sets area ((sector - 1) * (layout_of layout).size) (sector_in (track_of layout cylinder side) now sector).slot)

-- Starting again on the image `now` that a cut left of `image`: a new request for the sector, with a mark and contents of its own. It is accepted
-- exactly if they pass 5, 6 and 7, then with the plan that it gets on the first image too; and all the steps of an accepted one end at the image
-- that they, uncut, make of the first image.
pub record StartsAgain (layout cylinder side sector : ℕ) (plan : Plan) (image now : List ℕ) (mark : ℕ) (contents : List ℕ) : Type 0 where
  pub accepted : Fit layout cylinder mark contents → Requests layout cylinder side sector mark contents now (Ok plan)
  pub only : (new : Plan) → Requests layout cylinder side sector mark contents now (Ok new)
      → Fit layout cylinder mark contents × (new ≡ plan) × Requests layout cylinder side sector mark contents image (Ok plan)
  pub ends : (new held other : Plan) (end whole : List ℕ) → Requests layout cylinder side sector mark contents now (Ok new)
      → Ran mark contents new now (number layout now new) held end
      → Ran mark contents plan image (number layout image plan) other whole → end ≡ whole

-- ---- demand 3

-- A rewrite that may be cut: of every accepted request, on every image, and of every number j of steps up to all. (That the contents are bytes
-- is their type in the code; only the sector's new slot and its sum ask for it.)
pub record Demand3 : Type 0 where
  pub steps : (layout cylinder side sector mark : ℕ) (contents image : List ℕ) (plan : Plan)
      → Requests layout cylinder side sector mark contents image (Ok plan) → Stepwise layout mark contents image plan
  pub survives : (layout cylinder side sector mark : ℕ) (contents image : List ℕ) (plan : Plan)
      → Requests layout cylinder side sector mark contents image (Ok plan)
      → (j : ℕ) (held : Plan) (now : List ℕ) → j ≤ number layout image plan → Ran mark contents plan image j held now → Bytes contents
      → Survives layout cylinder side sector mark contents image plan j now
  pub again : (layout cylinder side sector mark : ℕ) (contents image : List ℕ) (plan : Plan)
      → Requests layout cylinder side sector mark contents image (Ok plan)
      → (j : ℕ) (held : Plan) (now : List ℕ) → j ≤ number layout image plan → Ran mark contents plan image j held now
      → (newMark : ℕ) (newContents : List ℕ) → StartsAgain layout cylinder side sector plan image now newMark newContents

-- ---- not empty

-- A request is accepted, with some plan.
pub record Accepted (layout cylinder side sector mark : ℕ) (contents image : List ℕ) : Type 0 where
  pub plan : Plan
  pub asked : Requests layout cylinder side sector mark contents image (Ok plan)

-- Demand 3 speaks of something: on a track that `format` wrote, in every layout, a request for any of its sectors with a mark and contents that pass
-- 5, 6 and 7 is accepted.
abbrev pub FormattedCanBeRewritten : Type 0
FormattedCanBeRewritten =
    (layout cylinder side : ℕ) (written marks before image : List ℕ)
    → Bytes written
    → Formats layout cylinder side written marks before (Ok _) image
    → (sector mark : ℕ) (contents : List ℕ) → Numbered (layout_of layout) sector → Fit layout cylinder mark contents
    → Accepted layout cylinder side sector mark contents image

-- ---- a useless version

-- A first step that makes all the stores, while later ones pretend: the contract of `step` does not allow it of an accepted request. (A step's
-- code has one store, so that no wrong program of its shape does this, and no edit can stand for it.)
abbrev pub NotAllAtOnce : Type 0
NotAllAtOnce =
    (layout cylinder side sector mark : ℕ) (contents image : List ℕ) (plan : Plan) (answer : Result Plan Refusal)
    → Requests layout cylinder side sector mark contents image (Ok plan)
    → Bytes contents
    → Steps plan mark contents image answer (after layout mark contents image plan (number layout image plan))
    → ⊥
