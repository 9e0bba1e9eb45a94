-- The file of a read cartridge (02, Req 03), of the exported functions: each refusal when it applies and only then, zeros where one is given, and one
-- file for each content.
use Rattle.std.specs.Prelude.{List, [], ◌∷◌, ◌++◌, ◌≡◌, ℕ, ◌+◌, ◌*◌, ◌≤◌, length, get_or, take, replicate, Err}
use Rattle.cells.specs.Cells.{Bytes}
use Rattle.layouts.specs.Layouts.{most_sectors}
use Rattle.file.specs.Contents.{Content, longest_label, most_tracks, track_width}
use Rattle.file.specs.Outcomes.{file_tests, head_answer, Fits}
use Rattle.file.specs.Refusals.{refusal_number, write_tests}
use Rattle.file.specs.Sections.{count_width, encoded, content_at}
use Rattle.file.specs.declared.Refusal.{Refusal}
use Rattle.file.specs.declared.Refusal.TheVariants.{PastEnd}
use Rattle.file.specs.declared.Sections.{Sections}
use Rattle.station.specs.Files.{GivesFileRead, GivesFileWrite}
use Rattle.verdicts.specs.Tests.{Test, ExactlyBy}
use Rattle.promises.specs.Refusing.{Apart}

-- ---- demand 1, of the file

-- The numbers 31 to 36 tell the refusals apart.
abbrev pub FileNumbersApart : Type 0
FileNumbersApart = Apart refusal_number

-- The number that a call answers is that of a refusal exactly if a test of the list gives this refusal, applies, and none before it does.
abbrev pub FileRefusedBy : List (Test Refusal) → (number : ℕ) → Type 0
FileRefusedBy tests number = ExactlyBy tests (λ f. number ≡ refusal_number f)

-- Each refusal of both functions, when it applies and only then.
pub record FileDoorsRefuse : Type 0 where
  pub read : (file : List ℕ) (number : ℕ) (sections : List ℕ) → GivesFileRead file number sections → FileRefusedBy (file_tests file) number
  pub write : (content : Content) (room number : ℕ) (area written : List ℕ) → GivesFileWrite content room number area written
      → FileRefusedBy (write_tests content room) number

-- A refused file gives zeros for all sections; a refused writing leaves zeros in the whole area, and no length.
pub record RefusedFileGivesZeros : Type 0 where
  pub read : (file : List ℕ) (number : ℕ) (sections : List ℕ) → GivesFileRead file number sections → (number ≡ 0 → ⊥) → sections ≡ replicate 8 0
  pub write : (content : Content) (room number : ℕ) (area written : List ℕ) → GivesFileWrite content room number area written → (number ≡ 0 → ⊥)
      → (area ≡ replicate room 0) × (written ≡ 0 ∷ [])

-- ---- what is in a file

-- The sections that eight numbers say: place and count of label, tracks, answers and data.
abbrev pub numbered_sections : List ℕ → Sections
numbered_sections numbers =
    record {
      label = record { place = get_or numbers 0 0; count = get_or numbers 1 0 };
      tracks = record { place = get_or numbers 2 0; count = get_or numbers 3 0 };
      answers = record { place = get_or numbers 4 0; count = get_or numbers 5 0 };
      «data» = record { place = get_or numbers 6 0; count = get_or numbers 7 0 };
    }

-- The bytes that stand in a file where these eight numbers say.
abbrev pub content_by : (sections file : List ℕ) → Content
content_by sections file = content_at (numbered_sections sections) file

-- What was written: an area that holds the file of the content, so many bytes long, and zeros behind it.
pub record HoldsFile (content : Content) (room : ℕ) (area written : List ℕ) : Type 0 where
  pub long : written ≡ length (encoded content) ∷ []
  pub file : take (length (encoded content)) area ≡ encoded content
  pub zeros : (i : ℕ) → length (encoded content) ≤ i → get_or area i 0 ≡ 0
  pub whole : length area ≡ room

abbrev pub WritingLeavesTheFile : Type 0
WritingLeavesTheFile =
    (content : Content) (room : ℕ) (area written : List ℕ) → GivesFileWrite content room 0 area written → HoldsFile content room area written

-- What is written reads back as the sections that went in, byte for byte.
abbrev pub WrittenReadsBack : Type 0
WrittenReadsBack =
    (content : Content) (room : ℕ) (area written : List ℕ) (number : ℕ) (sections : List ℕ)
    → GivesFileWrite content room 0 area written
    → GivesFileRead (take (get_or written 0 0) area) number sections
    → (number ≡ 0) × (content_by sections (take (get_or written 0 0) area) ≡ content)

-- A file that is read is the file of this content and of no other, and writing it gives the very file.
pub record IsFileOf (content : Content) (file : List ℕ) : Type 0 where
  pub fits : Fits content
  pub same : encoded content ≡ file
  pub only : (other : Content) → Fits other → encoded other ≡ file → other ≡ content
  pub again : (room number : ℕ) (area written : List ℕ) → length file ≤ room → GivesFileWrite content room number area written
      → (number ≡ 0) × (written ≡ length file ∷ []) × (take (length file) area ≡ file)

abbrev pub ReadIsAFile : Type 0
ReadIsAFile =
    (file : List ℕ) (sections : List ℕ) → Bytes file → GivesFileRead file 0 sections → IsFileOf (content_by sections file) file

-- Two contents with the same file are equal.
abbrev pub OneContent : Type 0
OneContent = (one two : Content) → Fits one → Fits two → encoded one ≡ encoded two → one ≡ two

-- ---- a file that comes as a stream

-- No head is longer: four counts, the longest label, the most tracks, and an answer for each sector that these can have.
abbrev pub longest_head : ℕ
longest_head = 4 * count_width + longest_label + track_width * most_tracks + most_tracks * most_sectors

-- `head` judges a file by what stands before its data. Where bytes have come that are not too few for it, those that follow change nothing; and so many
-- are never too few. (A program that reads a stream holds that many bytes, and no whole file.)
pub record HeadStands : Type 0 where
  pub same : (file more : List ℕ) → (head_answer file ≡ Err PastEnd → ⊥) → head_answer (file ++ more) ≡ head_answer file
  pub enough : (file : List ℕ) → longest_head ≤ length file → head_answer file ≡ Err PastEnd → ⊥
