-- The file, of the exported functions: they answer by their tests, and what they leave is what the definitions of the file say.
use mathlib.Core.Path.{◌≡◌, refl, sym, ap, subst, ◌∙◌}
use mathlib.Core.List.{List, [], ◌∷◌, ◌++◌}
use Prim.Native.Nat.{ℕ, zero, suc, ◌+◌, ◌-◌, ◌≤◌}
use native.Mathlib.Omega.{arith}
use Rattle.std.proofs.lemmas.Bool.Decides.{nat_tests}
use lib.ListN.{length, length-append, length-replicate, get_or, take, replicate}
use lib.Seq.{take-append_seam, get_or-append-add}
use Rattle.std.specs.Prelude.{Ok, Err}
use Rattle.verdicts.specs.Tests.{Verdict, passed, refused, refusal, by}
use Rattle.verdicts.proofs.Tests.{append_passed, exactly, by_map, by_passed}
use Rattle.file.specs.Contents.{Content}
use Rattle.file.specs.Outcomes.{file_tests, file_answer, Fits, write_answer, write_area}
use Rattle.file.specs.Refusals.{refusal_number, write_tests}
use Rattle.file.specs.Sections.{encoded, sections_in, content_at}
use Rattle.file.specs.declared.Refusal.{Refusal}
use Rattle.file.specs.declared.Refusal.TheVariants.{PastEnd, LabelOrTracks, AnswerBytes, DataCount, LeftOver, AreaLength}
use Rattle.file.specs.declared.Sections.{Sections}
use Rattle.file.proofs.Fitting.{fitting, writing_fits, room_enough}
use Rattle.station.specs.Numbers.{number_of}
use Rattle.station.specs.Files.{section_numbers, written_length, GivesFileRead, GivesFileWrite}
use Rattle.promises.specs.Files.{FileNumbersApart, FileDoorsRefuse, RefusedFileGivesZeros}
use Rattle.promises.specs.Files.{content_by, HoldsFile, WritingLeavesTheFile, WrittenReadsBack, IsFileOf, ReadIsAFile, OneContent}
use Rattle.promises.proofs.filing.Writing.{fits_so, same_content, written_reads}
use Rattle.promises.proofs.filing.Reading.{known, found_fits, found_again}

-- ---- the numbers

refusal_of : ℕ → Refusal
refusal_of n = get_or (PastEnd ∷ LabelOrTracks ∷ AnswerBytes ∷ DataCount ∷ LeftOver ∷ AreaLength ∷ []) (n - 31) PastEnd

back : (f : Refusal) → refusal_of (refusal_number f) ≡ f
unfolding refusal_of
back PastEnd = refl
back LabelOrTracks = refl
back AnswerBytes = refl
back DataCount = refl
back LeftOver = refl
back AreaLength = refl

pub file_numbers_apart : FileNumbersApart
file_numbers_apart a b e = sym (back a) ∙ ap refusal_of e ∙ back b

-- 0 is none of them.
no_zero : (f : Refusal) → 0 ≡ refusal_number f → ⊥
no_zero PastEnd e = absurd (omega arith)
no_zero LabelOrTracks e = absurd (omega arith)
no_zero AnswerBytes e = absurd (omega arith)
no_zero DataCount e = absurd (omega arith)
no_zero LeftOver e = absurd (omega arith)
no_zero AreaLength e = absurd (omega arith)

-- The number of an answer is its verdict's.
read_number : (file : List ℕ) → number_of refusal_number (file_answer file) ≡ by (refusal (file_tests file)) 0 refusal_number
unfolding file_answer
read_number file = by_map (number_of refusal_number) (refusal (file_tests file)) (Ok (sections_in file)) Err

write_number : (content : Content) (room : ℕ) → number_of refusal_number (write_answer content room) ≡ by (refusal (write_tests content room)) 0 refusal_number
unfolding write_answer
write_number content room = by_map (number_of refusal_number) (refusal (write_tests content room)) (Ok (length (encoded content))) Err

pub file_doors_refuse : FileDoorsRefuse
file_doors_refuse =
    record {
      read = λ file number sections p. exactly 0 refusal_number no_zero file_numbers_apart _ number (p.numbered ∙ read_number file);
      write = λ content room number area long p.
          exactly 0 refusal_number no_zero file_numbers_apart _ number (p.numbered ∙ write_number content room);
    }

pub refused_file_gives_zeros : RefusedFileGivesZeros
unfolding file_answer write_answer write_area by
refused_file_gives_zeros =
    record {
      read = λ file number sections p h. reads (refusal (file_tests file)) (sections_in file) number sections p.numbered p.placed h;
      write = λ content room number area long p h.
          writes (refusal (write_tests content room)) content room number area long p.numbered p.leaves p.counted h;
    }
  where
    reads : (v : Verdict Refusal) (s : Sections) (number : ℕ) (sections : List ℕ) → number ≡ number_of refusal_number (by v (Ok s) Err)
        → sections ≡ section_numbers (by v (Ok s) Err) → (number ≡ 0 → ⊥) → sections ≡ replicate 8 0
    reads passed s number sections n e h = absurd (h n)
    reads (refused f) s number sections n e h = e

    writes : (v : Verdict Refusal) (content : Content) (room number : ℕ) (area long : List ℕ)
        → number ≡ number_of refusal_number (by v (Ok (length (encoded content))) Err)
        → area ≡ by v (encoded content ++ replicate (room - length (encoded content)) 0) (λ f. replicate room 0)
        → long ≡ written_length (by v (Ok (length (encoded content))) Err)
        → (number ≡ 0 → ⊥) → (area ≡ replicate room 0) × (long ≡ 0 ∷ [])
    writes passed content room number area long n a l h = absurd (h n)
    writes (refused f) content room number area long n a l h = (a, l)

-- ---- what is written

-- Zeros, and nothing behind them.
zero_at : (n i : ℕ) → ◌≡◌ {A = ℕ} (get_or (replicate n 0) i 0) 0
zero_at zero i = refl
zero_at (suc n) zero = refl
zero_at (suc n) (suc i) = zero_at n i

-- A writing that its tests pass leaves the file.
module _ (content : Content) (room : ℕ) (h : refusal (write_tests content room) ≡ passed) where
  left : (area : List ℕ) → area ≡ write_area content room → area ≡ encoded content ++ replicate (room - length (encoded content)) 0
  unfolding write_area by
  left area e = e ∙ rw h

  long : (count : List ℕ) → count ≡ written_length (write_answer content room) → count ≡ length (encoded content) ∷ []
  unfolding write_answer by
  long count e = e ∙ rw h

  holds : (area count : List ℕ) → area ≡ write_area content room → count ≡ written_length (write_answer content room) → HoldsFile content room area count
  holds area count e l =
      let n = length (encoded content) in
      let a = left area e in
      record {
        long = long count l;
        file = rw a (take-append_seam (encoded content) (replicate (room - n) 0));
        zeros = λ i h.
            let at : n + (i - n) ≡ i = omega arith in
            rw (a, ← at) (get_or-append-add (encoded content) (replicate (room - n) 0) (i - n) 0 ∙ zero_at (room - n) (i - n));
        whole =
            let zeros : List ℕ = replicate (room - n) 0 in
            let count : length zeros ≡ room - n = length-replicate (room - n) 0 in
            rw a (length-append (encoded content) zeros ∙ omega (arith, count, room_enough content room h));
      }

written_passes : (content : Content) (room number : ℕ) (area count : List ℕ) → GivesFileWrite content room number area count → number ≡ 0
    → refusal (write_tests content room) ≡ passed
written_passes content room number area count p e =
    by_passed 0 refusal_number no_zero file_numbers_apart _ number (p.numbered ∙ write_number content room) e

pub writing_leaves_the_file : WritingLeavesTheFile
writing_leaves_the_file content room area count p =
    holds content room (written_passes content room 0 area count p refl) area count p.leaves p.counted

-- ---- what is read

-- A file that its tests pass gives its sections.
module _ (file : List ℕ) (h : refusal (file_tests file) ≡ passed) where
  found : file_answer file ≡ Ok (sections_in file)
  unfolding file_answer by
  found = rw h

  by_numbers : (sections : List ℕ) → sections ≡ section_numbers (file_answer file) → content_by sections file ≡ content_at (sections_in file) file
  by_numbers sections e = ap (λ (l : List ℕ). content_by l file) (e ∙ ap section_numbers found)

pub written_reads_back : WrittenReadsBack
written_reads_back content room area count number sections p =
    let h = written_passes content room 0 area count p refl in
    let held = holds content room h area count p.leaves p.counted in
    let f = fitting content (writing_fits content room h) in
    let same : take (get_or count 0 0) area ≡ encoded content = ap (λ (l : List ℕ). take (get_or l 0 0) area) held.long ∙ held.file in
    subst (λ (file : List ℕ). GivesFileRead file number sections → (number ≡ 0) × (content_by sections file ≡ content)) (sym same)
    (λ q. (
      q.numbered ∙ ap (number_of refusal_number) (found (encoded content) (written_reads content f)),
      by_numbers (encoded content) (written_reads content f) sections q.placed ∙ same_content content f,
    ))

pub one_content : OneContent
one_content one two h k e =
    sym (same_content one (fitting one h)) ∙ ap (λ (file : List ℕ). content_at (sections_in file) file) e ∙ same_content two (fitting two k)

-- A content that fits, and an area that is long enough.
room_passes : (content : Content) (room : ℕ) → Fits content → length (encoded content) ≤ room → refusal (write_tests content room) ≡ passed
unfolding write_tests refusal
room_passes content room fits enough = grind (arith, nat_tests, append_passed {F = Refusal})

by_zero : (v : Verdict Refusal) → v ≡ passed → by v 0 refusal_number ≡ 0
unfolding by
by_zero v e = rw e

pub read_is_a_file : ReadIsAFile
read_is_a_file file sections small p =
    let h : refusal (file_tests file) ≡ passed =
    by_passed 0 refusal_number no_zero file_numbers_apart _ 0 (p.numbered ∙ read_number file) refl in
    let k = known file h in
    let content = content_at (sections_in file) file in
    let fits = fits_so content (found_fits file k) in
    let same = found_again file k small in
    subst (λ (x : Content). IsFileOf x file) (sym (by_numbers file h sections p.placed))
    (record {
      fits = fits;
      same = same;
      only = λ other ok e. one_content other content ok fits (e ∙ sym same);
      again = λ room number area count enough q.
          let passes = room_passes content room fits (rw same enough) in
          let left = holds content room passes area count q.leaves q.counted in (
            q.numbered ∙ write_number content room ∙ by_zero _ passes,
            left.long ∙ ap (λ (l : List ℕ). length l ∷ []) same,
            subst (λ (l : List ℕ). take (length l) area ≡ l) same left.file,
          );
    })
