-- Demand 1, of every entry point: it gives the numbered refusals of the papers, when they apply and only then.
use Rattle.std.specs.Prelude.{List, ◌≡◌, ℕ, ◌≤◌, length, ⊤, Result, Err}
use Rattle.format.specs.Outcomes.{Formats}
use Rattle.format.specs.Refusals.{format_tests}
use Rattle.calls.specs.Refusals.{checked_number, refusal_number}
use Rattle.layouts.specs.Tracks.{track_of}
use Rattle.calls.specs.declared.Refusal.{Refusal}
use Rattle.read.specs.Records.{Sector}
use Rattle.answers.specs.Answers.{answer_number}
use Rattle.read.specs.Outcomes.{Reads, read_tests}
use Rattle.pick.specs.Picks.{IsPicked, pick_tests}
use Rattle.read.specs.declared.Reading.{Reading}
use Rattle.answers.specs.declared.Record.{Record}
use Rattle.pick.specs.declared.Choice.{Choice}
use Rattle.request.specs.Outcomes.{Requests}
use Rattle.rewrite.specs.Outcomes.{Steps}
use Rattle.request.specs.Refusals.{call_tests, request_tests}
use Rattle.rewrite.specs.Refusals.{step_tests}
use Rattle.rewrite.specs.declared.Plan.{Plan}
use Rattle.verdicts.specs.Tests.{Test, passed, refusal, ExactlyBy}
use Rattle.locate.specs.Outcomes.{Locates, locate_tests, locate_number}
use Rattle.locate.specs.declared.Located.{Located}
use Rattle.promises.specs.Sectors.{sector_in}

-- ---- numbers

-- No two cases share a number.
abbrev pub Apart : {A : Type 0} → (A → ℕ) → Type 0
Apart {A} number = (a b : A) → number a ≡ number b → a ≡ b

-- The numbers of the refused calls, and those of the answers, tell their cases apart.
abbrev pub NumbersApart : Type 0
NumbersApart = Apart refusal_number × Apart answer_number

-- ---- the tests of a call

-- The number that a call answers is that of a refusal exactly if a test of the list gives this refusal, applies, and none before it does.
abbrev pub RefusedBy : List (Test Refusal) → (number : ℕ) → Type 0
RefusedBy tests number = ExactlyBy tests (λ f. number ≡ refusal_number f)

-- The lists are the papers', in their order (01, "Refused calls"): 2, 3, 4, 1, 5, 6, 7, 8 of format;
abbrev pub FormatRefuses : Type 0
FormatRefuses =
    (layout cylinder side : ℕ) (contents marks before : List ℕ) (answer : Result ⊤ Refusal) (after : List ℕ)
    → Formats layout cylinder side contents marks before answer after
    → RefusedBy (format_tests layout cylinder side contents marks (length before)) (checked_number answer)

-- 2, 3, 4, 1, 5 of read;
abbrev pub ReadRefuses : Type 0
ReadRefuses =
    (layout cylinder side : ℕ) (image : List ℕ) (given : ℕ) (answer : Result Reading Refusal) (after : List ℕ)
    → Reads layout cylinder side image given answer after
    → RefusedBy (read_tests layout cylinder side (length image) given) (checked_number answer)

-- 2, 3, 4, 1, 9 of locate;
abbrev pub LocateRefuses : Type 0
LocateRefuses =
    (layout cylinder side sector : ℕ) (image : List ℕ) (answer : Result Located Refusal)
    → Locates layout cylinder side sector image answer
    → RefusedBy (locate_tests layout cylinder side (length image) sector) (locate_number answer)

-- 4, 9, 5 of the pick, of which it is said by the refusal itself, since its answers and refusals share numbers;
abbrev pub PickRefuses : Type 0
PickRefuses =
    (layout sector : ℕ) (first : List ℕ) (one : List Record) (second : List ℕ) (two : List Record) (answer : Result Choice Refusal)
    → IsPicked layout sector first one second two answer
    → ExactlyBy (pick_tests layout sector (length first) (length second)) (λ f. answer ≡ Err f)

-- 2, 3, 4, 1, 9, 5, 6, 7, 10, 11 of the request;
abbrev pub RequestRefuses : Type 0
RequestRefuses =
    (layout cylinder side sector mark : ℕ) (contents image : List ℕ) (answer : Result Plan Refusal)
    → Requests layout cylinder side sector mark contents image answer
    → RefusedBy (request_tests layout cylinder side sector mark contents image) (checked_number answer)

-- 4, 1, 5, 6, 13, 12 of the step.
abbrev pub StepRefuses : Type 0
StepRefuses =
    (plan : Plan) (mark : ℕ) (contents before : List ℕ) (answer : Result Plan Refusal) (after : List ℕ)
    → Steps plan mark contents before answer after
    → RefusedBy (step_tests plan mark contents before) (checked_number answer)

-- ---- refusal 10

-- Refusal 10 is what reading answers (01, "Refused calls", 10): a request that its tests before it pass is refused with it exactly if the number
-- that reading answers for the sector is 21, 22, 23 or 24.
abbrev pub Unreadable : Sector → Type 0
Unreadable sector = (21 ≤ answer_number sector.known.answer) × (answer_number sector.known.answer ≤ 24)

abbrev pub TenAsRead : Type 0
TenAsRead =
    (layout cylinder side sector mark : ℕ) (contents image : List ℕ) (answer : Result Plan Refusal)
    → Requests layout cylinder side sector mark contents image answer
    → refusal (call_tests layout cylinder side sector mark contents (length image)) ≡ passed
    → (checked_number answer ≡ 10 → Unreadable (sector_in (track_of layout cylinder side) image sector))
    × (Unreadable (sector_in (track_of layout cylinder side) image sector) → checked_number answer ≡ 10)
