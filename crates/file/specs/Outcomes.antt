-- What each public function of this crate promises.
use Rattle.std.specs.Prelude.{List, ◌++◌, ◌≡◌, ℕ, ◌-◌, length, replicate, Result, Ok, Err}
use Rattle.verdicts.specs.Tests.{Test, passed, refusal, by}
use Rattle.file.specs.declared.Refusal.{Refusal}
use Rattle.file.specs.declared.Sections.{Sections}
use Rattle.file.specs.Contents.{Content}
use Rattle.file.specs.Sections.{encoded, sections_in}
use Rattle.file.specs.Refusals.{refusal_number, head_tests, whole_tests, fit_tests, write_tests}

-- `u8::from` gives a refusal the papers' number.
abbrev pub IsRefusalNumber : Refusal → ℕ → Type 0
IsRefusalNumber f number = number ≡ refusal_number f

-- ---- reading

-- `head` answers where the sections are, or the first refusal of a file up to the count of its data. The data need not be there yet.
unfoldable pub head_answer : List ℕ → Result Sections Refusal
head_answer file = by (refusal (head_tests file)) (Ok (sections_in file)) Err

abbrev pub IsHead : List ℕ → Result Sections Refusal → Type 0
IsHead file answer = answer ≡ head_answer file

-- `whole` answers the same of a file of so many bytes whose head was judged: the data's length is judged too, and what is left over.
abbrev pub whole_answer : Result Sections Refusal → (bytes : ℕ) → Result Sections Refusal
whole_answer (Err f) bytes = Err f
whole_answer (Ok s) bytes = by (refusal (whole_tests s bytes)) (Ok s) Err

abbrev pub IsWhole : Result Sections Refusal → (bytes : ℕ) → Result Sections Refusal → Type 0
IsWhole head bytes answer = answer ≡ whole_answer head bytes

-- The refusals of reading a file, in the papers' order.
abbrev pub file_tests : List ℕ → List (Test Refusal)
file_tests file = head_tests file ++ whole_tests (sections_in file) (length file)

-- `read` answers where the sections are, or the first refusal.
unfoldable pub file_answer : List ℕ → Result Sections Refusal
file_answer file = by (refusal (file_tests file)) (Ok (sections_in file)) Err

abbrev pub IsRead : List ℕ → Result Sections Refusal → Type 0
IsRead file answer = answer ≡ file_answer file

-- ---- writing

-- The content has a file: none of 32, 33 and 34 applies.
abbrev pub Fits : Content → Type 0
Fits content = refusal (fit_tests content) ≡ passed

-- What `write` answers: the bytes of the file, or the first refusal.
unfoldable pub write_answer : Content → (room : ℕ) → Result ℕ Refusal
write_answer content room = by (refusal (write_tests content room)) (Ok (length (encoded content))) Err

-- What `write` leaves in an area of so many bytes: the file and zeros behind it, or zeros alone. What the area held before is not named.
unfoldable pub write_area : Content → (room : ℕ) → List ℕ
write_area content room =
    by (refusal (write_tests content room)) (encoded content ++ replicate (room - length (encoded content)) 0) (λ f. replicate room 0)

-- `write` answers this, and leaves this.
pub record Writes (content : Content) (room : ℕ) (answer : Result ℕ Refusal) (after : List ℕ) : Type 0 where
  pub answers : answer ≡ write_answer content room
  pub leaves : after ≡ write_area content room
