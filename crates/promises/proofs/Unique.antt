-- The contract of every public function allows one outcome: a theorem for each, by the function's name. Those of station stand in UniqueDoors.antt.
use mathlib.Core.Bool.{Bool}
use mathlib.Core.List.{List}
use mathlib.Core.Path.{◌≡◌, sym, ap₂, ◌∙◌}
use Prim.Native.Nat.{ℕ}
use Rattle.std.specs.Prelude.{⊤, Option, Result}
use Rattle.cells.specs.Outcomes.{IsOctet, IsDataByte, IsReadByte, AreReadBytes, AreZeros}
use Rattle.coding.specs.Outcomes.{IsCoded}
use Rattle.cells.specs.declared.Mode.{Mode}
use Rattle.edc.specs.Outcomes.{IsByteEntered, IsBytesEntered, IsEdc}
use Rattle.format.specs.Outcomes.{Formats}
use Rattle.calls.specs.Outcomes.{IsTested, IsCheckedNumber, IsRefusalNumber, IsImageLength, IsAreaLength, IsMarkByte, IsControlRecord, IsSectorNumber}
use Rattle.layouts.specs.Outcomes.{IsLayout, IsLayoutOf, IsTrack, IsGapByte, IsLayoutNumber, IsTrackNumbers, IsTrackAndImage}
use Rattle.layouts.specs.declared.Layout.{Layout}
use Rattle.calls.specs.declared.Refusal.{Refusal}
use Rattle.marks.specs.Outcomes.{TellsBlock, IsString, AreMarkBytes, IsLastByte, IsLastBit, TellsStanding, IsRegisterAfter, IsMarkOf}
use Rattle.marks.specs.declared.Mark.{Mark}
use Rattle.marks.specs.declared.image.Image.{Image}
use Rattle.search.specs.declared.Kinds.{Kinds}
use Rattle.answers.specs.Outcomes.{AreUnread, IsFaultNumber, IsAnswerNumber, IsAnswerOf, TellsAnswer, IsAnswerAfter, TellsCarrying}
use Rattle.read.specs.Outcomes.{Reads}
use Rattle.search.specs.Outcomes.{IsMarkAt, IsFirstMark}
use Rattle.walk.specs.Outcomes.{IsRound, IsNext, IsWalk}
use Rattle.walk.specs.declared.Event.{Event}
use Rattle.walk.specs.declared.Walk.{Walk}
use Rattle.locate.specs.Outcomes.{Locates}
use Rattle.layouts.specs.declared.Track.{Track}
use Rattle.pick.specs.Picks.{IsChosen, IsPicked, IsStretch}
use Rattle.file.specs.Contents.{Content}
use Rattle.file.specs.Outcomes.{IsRefusalNumber as IsFileRefusalNumber, IsHead, IsWhole, IsRead, Writes}
use Rattle.flux.specs.Outcomes.{IsRefusalNumber as IsFluxRefusalNumber, IsIntervalNumber, Lays}
use Rattle.flux.specs.declared.Refusal.{Refusal as FluxRefusal}
use Rattle.file.specs.declared.Refusal.{Refusal as FileRefusal}
use Rattle.file.specs.declared.Sections.{Sections}
use Rattle.answers.specs.declared.Record.{Record}
use Rattle.answers.specs.declared.Fault.{Fault}
use Rattle.answers.specs.declared.Answer.{Answer}
use Rattle.read.specs.declared.Reading.{Reading}
use Rattle.rewrite.specs.Outcomes.{CountsStores, Steps}
use Rattle.request.specs.Outcomes.{Requests}
use Rattle.rewrite.specs.declared.Plan.{Plan}
use Rattle.promises.specs.Unique.{Unique}

-- A relation that gives the outcome as a value.
pub by_value : {A : Type 0} (v : A) → Unique (λ x. x ≡ v)
by_value v x y p q = p ∙ sym q

-- An answer, and what an area holds at exit.
pub by_values : {A B : Type 0} (v : A) (w : B) → Unique (λ (o : A × B). (o.0 ≡ v) × (o.1 ≡ w))
by_values v w x y p q = ap₂ (λ a b. (a, b)) (p.0 ∙ sym q.0) (p.1 ∙ sym q.1)

-- ---- cells

pub octet : (image : List ℕ) (place : ℕ) → Unique (IsOctet image place)
octet image place = by_value _

pub data_byte : (image : List ℕ) (place : ℕ) → Unique (IsDataByte image place)
data_byte image place = by_value _

pub read_byte : (mode : Mode) (before : ℕ) (image : List ℕ) (place : ℕ) → Unique (IsReadByte mode before image place)
read_byte mode before image place x y p q = p.0 ∙ sym q.0

pub read_bytes : (mode : Mode) (before : ℕ) (image : List ℕ) (place room : ℕ)
    → Unique (λ (o : ℕ × List ℕ). AreReadBytes mode before image place room o.0 o.1)
read_bytes mode before image place room x y p q = by_values _ _ x y (p.clocks, p.bytes) (q.clocks, q.bytes)

pub clear : (room : ℕ) → Unique (AreZeros room)
clear room = by_value _

pub coded : (mode : Mode) (before byte : ℕ) → Unique (IsCoded mode before byte)
coded mode before byte = by_value _

-- ---- edc

pub byte_entered : (register byte : ℕ) → Unique (IsByteEntered register byte)
byte_entered register byte = by_value _

pub bytes_entered : (register : ℕ) (bytes : List ℕ) → Unique (IsBytesEntered register bytes)
bytes_entered register bytes = by_value _

pub edc : (bytes : List ℕ) → Unique (IsEdc bytes)
edc bytes = by_value _

-- ---- marks

-- fm_string and mfm_string
pub string : (mode : Mode) (mark : Mark) → Unique (IsString mode mark)
string mode mark = by_value _

pub mark_bytes : (mode : Mode) → Unique (AreMarkBytes mode)
mark_bytes mode x y p q = p.0 ∙ sym q.0

pub last_byte : (mode : Mode) (mark : Mark) → Unique (IsLastByte mode mark)
last_byte mode mark = by_value _

pub last_bit_lem : (mark : Mark) → Unique (IsLastBit mark)
last_bit_lem mark = by_value _

pub stands : (mode : Mode) (mark : Mark) (image : List ℕ) (place : ℕ) → Unique (TellsStanding mode mark image place)
stands mode mark image place = by_value _

pub register_after : (mode : Mode) (mark : Mark) → Unique (IsRegisterAfter mode mark)
register_after mode mark = by_value _

pub mark_of_lem : (byte : ℕ) → Unique (IsMarkOf byte)
mark_of_lem byte = by_value _

pub is_block : (mark : Mark) → Unique (TellsBlock mark)
is_block mark = by_value _

-- ---- search

pub mark_at : (mode : Mode) (kinds : Kinds) (image : List ℕ) (place : ℕ) → Unique (IsMarkAt mode kinds image place)
mark_at mode kinds image place = by_value _

pub find : (mode : Mode) (kinds : Kinds) (image : List ℕ) (from to : ℕ) → Unique (IsFirstMark mode kinds image from to)
find mode kinds image from to = by_value _

-- ---- calls

pub refusal_number : (refusal : Refusal) → Unique (IsRefusalNumber refusal)
refusal_number refusal = by_value _

pub checked_number_lem : {T : Type 0} (answer : Result T Refusal) → Unique (IsCheckedNumber answer)
checked_number_lem answer = by_value _

pub tested : (applies : Bool) (gives : Refusal) → Unique (IsTested applies gives)
tested applies gives = by_value _

pub image_length : (length : ℕ) → Unique (IsImageLength length)
image_length length = by_value _

pub area_length : (wanted given : ℕ) → Unique (IsAreaLength wanted given)
area_length wanted given = by_value _

pub mark_byte : (mark : ℕ) → Unique (IsMarkByte mark)
mark_byte mark = by_value _

pub control_record : (cylinder mark first : ℕ) → Unique (IsControlRecord cylinder mark first)
control_record cylinder mark first = by_value _

pub sector_number : (sectors sector : ℕ) → Unique (IsSectorNumber sectors sector)
sector_number sectors sector = by_value _

-- ---- layouts

-- Layout0::layout to Layout3::layout
pub layout : (l : Layout) → Unique (IsLayout l)
layout l = by_value _

pub gap_byte : (mode : Mode) → Unique (IsGapByte mode)
gap_byte mode = by_value _

pub layout_of_lem : (layout : ℕ) → Unique (IsLayoutOf layout)
layout_of_lem layout = by_value _

pub track_of : (layout cylinder side : ℕ) → Unique (IsTrack layout cylinder side)
track_of layout cylinder side = by_value _

pub layout_number : (layout : ℕ) → Unique (IsLayoutNumber layout)
layout_number layout = by_value _

pub track_numbers : (layout cylinder side : ℕ) → Unique (IsTrackNumbers layout cylinder side)
track_numbers layout cylinder side = by_value _

pub track_and_image : (layout cylinder side length : ℕ) → Unique (IsTrackAndImage layout cylinder side length)
track_and_image layout cylinder side length = by_value _

-- ---- format

pub format : (layout cylinder side : ℕ) (contents marks before : List ℕ)
    → Unique (λ (o : Result ⊤ Refusal × List ℕ). Formats layout cylinder side contents marks before o.0 o.1)
format layout cylinder side contents marks before x y p q = by_values _ _ x y (p.answers, p.leaves) (q.answers, q.leaves)

-- ---- walk

pub next_round : (t : Track) (image : List ℕ) (place : ℕ) → Unique (IsRound t image place)
next_round t image place = by_value _

pub met : (t : Track) (image : Image) → Unique (IsWalk t image)
met t image = by_value _

-- the walk's `next`: what it gives, and the walk at exit
pub next : (w : Walk) → Unique (λ (o : Option Event × Walk). IsNext w o.0 o.1)
next w x y p q = p.whole ∙ sym q.whole

pub locate : (layout cylinder side sector : ℕ) (image : List ℕ) → Unique (Locates layout cylinder side sector image)
locate layout cylinder side sector image = by_value _

-- ---- answers

pub unread_records : Unique AreUnread
unread_records = by_value _

pub fault_number : (fault : Fault) → Unique (IsFaultNumber fault)
fault_number fault = by_value _

pub answer_number : (answer : Answer) → Unique (IsAnswerNumber answer)
answer_number answer = by_value _

pub answer_of_lem : (number : ℕ) → Unique (IsAnswerOf number)
answer_of_lem number = by_value _

pub is_answer : (number : ℕ) → Unique (TellsAnswer number)
is_answer number = by_value _

pub answer_after : (cylinder : ℕ) (mark : Mark) (first : ℕ) (right : Bool) → Unique (IsAnswerAfter cylinder mark first right)
answer_after cylinder mark first right = by_value _

pub carries_bytes : (answer : Answer) → Unique (TellsCarrying answer)
carries_bytes answer = by_value _

-- ---- read

pub read : (layout cylinder side : ℕ) (image : List ℕ) (given : ℕ)
    → Unique (λ (o : Result Reading Refusal × List ℕ). Reads layout cylinder side image given o.0 o.1)
read layout cylinder side image given x y p q = by_values _ _ x y (p.answers, p.leaves) (q.answers, q.leaves)

-- ---- pick

pub choose : (layout sector first second : ℕ) (one two : Record) → Unique (IsChosen layout sector first second one two)
choose layout sector first second one two = by_value _

pub picked : (layout sector : ℕ) (first : List ℕ) (one : List Record) (second : List ℕ) (two : List Record) → Unique (IsPicked layout sector first one second two)
picked layout sector first one second two = by_value _

pub pick : (layout sector : ℕ) (first : List ℕ) (one : List Record) (second : List ℕ) (two : List Record) → Unique (IsStretch layout sector first one second two)
pick layout sector first one second two = by_value _

-- ---- rewrite

pub stores_in_all : (plan : Plan) (bytes : ℕ) → Unique (CountsStores plan bytes)
stores_in_all plan bytes = by_value _

pub step : (plan : Plan) (mark : ℕ) (contents before : List ℕ)
    → Unique (λ (o : Result Plan Refusal × List ℕ). Steps plan mark contents before o.0 o.1)
step plan mark contents before x y p q = by_values _ _ x y (p.answers, p.leaves) (q.answers, q.leaves)

-- ---- request

pub request : (layout cylinder side sector mark : ℕ) (contents image : List ℕ) → Unique (Requests layout cylinder side sector mark contents image)
request layout cylinder side sector mark contents image = by_value _

-- ---- flux

-- u8::from, interval_number and lay of the flux timings
pub flux_refusal_number : (refusal : FluxRefusal) → Unique (IsFluxRefusalNumber refusal)
flux_refusal_number refusal = by_value _

pub flux_interval_number : (refusal : FluxRefusal) → Unique (IsIntervalNumber refusal)
flux_interval_number refusal = by_value _

pub flux_lay : (ticks : ℕ) (stamps : List ℕ) (bytes : ℕ) → Unique (λ (o : Result ℕ FluxRefusal × List ℕ). Lays ticks stamps bytes o.0 o.1)
flux_lay ticks stamps bytes x y p q = by_values _ _ x y (p.answers, p.leaves) (q.answers, q.leaves)

-- ---- file

-- the number of a refusal, head, whole, read and write of the file
pub file_refusal_number : (refusal : FileRefusal) → Unique (IsFileRefusalNumber refusal)
file_refusal_number refusal = by_value _

pub file_head : (file : List ℕ) → Unique (IsHead file)
file_head file = by_value _

pub file_whole : (head : Result Sections FileRefusal) (bytes : ℕ) → Unique (IsWhole head bytes)
file_whole head bytes = by_value _

pub file_read : (file : List ℕ) → Unique (IsRead file)
file_read file = by_value _

pub file_write : (content : Content) (room : ℕ) → Unique (λ (o : Result ℕ FileRefusal × List ℕ). Writes content room o.0 o.1)
file_write content room x y p q = by_values _ _ x y (p.answers, p.leaves) (q.answers, q.leaves)
