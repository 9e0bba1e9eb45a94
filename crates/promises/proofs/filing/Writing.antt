-- The file of a content that fits is read, and its sections hold the very content.
use mathlib.Core.Path.{◌≡◌, refl, sym, ap, ◌∙◌}
use mathlib.Core.List.{List, [], ◌++◌, append_assoc, append-nil}
use Prim.Native.Nat.{ℕ, ◌+◌, ◌*◌, ◌<◌, ◌≤◌, ◌/◌}
use native.Mathlib.Nat.{div-one}
use native.Mathlib.Omega.{arith}
use Rattle.std.proofs.lemmas.Bool.Decides.{nat_tests}
use lib.ListN.{length, length-append}
use Rattle.verdicts.specs.Tests.{passed, refusal}
use Rattle.verdicts.proofs.Tests.{append_passed}
use Rattle.file.specs.Contents.{Content, track_width}
use Rattle.file.specs.Outcomes.{file_tests, Fits}
use Rattle.file.specs.Refusals.{label_tests, tracks_tests, answers_tests, data_tests, head_tests, whole_tests, fit_tests}
use Rattle.file.specs.Sections.{counted, encoded, end, held, label_in, tracks_in, answers_in, data_in, sections_in, content_at}
use Rattle.file.specs.declared.Refusal.{Refusal}
use Rattle.file.proofs.Asking.{list_whole}
use Rattle.file.proofs.Fitting.{Fitting, answers_few, data_few}
use Rattle.file.proofs.Putting.{length_counted, length_encoded, encoded_on}
use Rattle.promises.proofs.filing.Counts.{joined, count_of, held_of, end_of}

pub fits_so : (content : Content) → Fitting content → Fits content
unfolding fit_tests refusal
fits_so content f = grind (arith, nat_tests)

module _ (content : Content) (f : Fitting content) where
  abbrev file : List ℕ
  file = encoded content

  abbrev label : List ℕ
  label = content.label

  abbrev tracks : List ℕ
  tracks = content.tracks

  abbrev answers : List ℕ
  answers = content.answers

  abbrev contents : List ℕ
  contents = content.«data»

  -- How long they are.
  three : length tracks ≡ track_width * (length tracks / track_width)
  three = list_whole tracks f.list

  single : (l : List ℕ) → length l ≡ 1 * (length l / 1)
  single l = sym (ap (λ (k : ℕ). 1 * k) (div-one (length l)) ∙ omega arith)

  small : (l : List ℕ) → length l ≤ 3993600 → length l / 1 < 4294967296
  small l h = rw (div-one (length l)) (omega arith)

  few_tracks : length tracks / track_width < 4294967296
  few_tracks = omega (arith, f.tracks)

  -- ---- the sections, one behind the other

  -- the label
  label_same : file ≡ joined [] (length label / 1) label (counted track_width tracks ++ (counted 1 answers ++ counted 1 contents))
  label_same = encoded_on content

  label_held : held 1 (label_in file) file ≡ label
  unfolding label_in
  label_held = held_of file [] (length label / 1) 1 label _ label_same 0 refl (small label (omega (arith, f.label))) (single label)

  label_count : (label_in file).count ≡ length label
  unfolding label_in
  label_count =
      count_of file [] (length label / 1) 1 label _ label_same 0 refl (small label (omega (arith, f.label))) (single label) ∙ div-one (length label)

  label_end : end 1 (label_in file) ≡ 4 + length label
  unfolding label_in
  label_end = end_of file [] (length label / 1) 1 label _ label_same 0 refl (small label (omega (arith, f.label))) (single label)

  -- the tracks
  tracks_same : file ≡ joined (counted 1 label) (length tracks / track_width) tracks (counted 1 answers ++ counted 1 contents)
  tracks_same = encoded_on content

  tracks_at : end 1 (label_in file) ≡ length (counted 1 label)
  tracks_at = label_end ∙ sym (length_counted 1 label)

  tracks_held : held track_width (tracks_in file) file ≡ tracks
  unfolding tracks_in
  tracks_held = held_of file (counted 1 label) (length tracks / track_width) track_width tracks _ tracks_same _ tracks_at few_tracks three

  tracks_count : (tracks_in file).count ≡ length tracks / track_width
  unfolding tracks_in
  tracks_count = count_of file (counted 1 label) (length tracks / track_width) track_width tracks _ tracks_same _ tracks_at few_tracks three

  tracks_end : end track_width (tracks_in file) ≡ 8 + length label + length tracks
  unfolding tracks_in
  tracks_end =
      end_of file (counted 1 label) (length tracks / track_width) track_width tracks _ tracks_same _ tracks_at few_tracks three
      ∙ omega (arith, label_end)

  -- the answers
  abbrev before_answers : List ℕ
  before_answers = counted 1 label ++ counted track_width tracks

  answers_same : file ≡ joined before_answers (length answers / 1) answers (counted 1 contents)
  unfolding encoded
  answers_same = append_assoc before_answers (counted 1 answers) (counted 1 contents)

  answers_at : end track_width (tracks_in file) ≡ length before_answers
  answers_at =
      tracks_end
      ∙ sym (length-append (counted 1 label) (counted track_width tracks) ∙ rw (length_counted 1 label, length_counted track_width tracks) (omega arith))

  answers_small : length answers / 1 < 4294967296
  answers_small = small answers (omega (arith, answers_few content f))

  answers_held : held 1 (answers_in file) file ≡ answers
  unfolding answers_in
  answers_held = held_of file before_answers (length answers / 1) 1 answers _ answers_same _ answers_at answers_small (single answers)

  answers_count : (answers_in file).count ≡ length answers
  unfolding answers_in
  answers_count =
      count_of file before_answers (length answers / 1) 1 answers _ answers_same _ answers_at answers_small (single answers) ∙ div-one (length answers)

  answers_end : end 1 (answers_in file) ≡ 12 + length label + length tracks + length answers
  unfolding answers_in
  answers_end =
      end_of file before_answers (length answers / 1) 1 answers _ answers_same _ answers_at answers_small (single answers)
      ∙ omega (arith, tracks_end)

  -- the data
  abbrev before_data : List ℕ
  before_data = before_answers ++ counted 1 answers

  data_same : file ≡ joined before_data (length contents / 1) contents []
  unfolding encoded
  data_same = ap (λ (l : List ℕ). before_data ++ l) (sym (append-nil (counted 1 contents)))

  data_at : end 1 (answers_in file) ≡ length before_data
  data_at =
      answers_end
      ∙ sym (length-append before_answers (counted 1 answers) ∙ rw (← answers_at, length_counted 1 answers, tracks_end) (omega arith))

  data_held : held 1 (data_in file) file ≡ contents
  unfolding data_in
  data_held = held_of file before_data (length contents / 1) 1 contents _ data_same _ data_at (small contents (data_few content f)) (single contents)

  data_count : (data_in file).count ≡ length contents
  unfolding data_in
  data_count =
      count_of file before_data (length contents / 1) 1 contents _ data_same _ data_at (small contents (data_few content f)) (single contents)
      ∙ div-one (length contents)

  data_end : end 1 (data_in file) ≡ length file
  unfolding data_in
  data_end =
      end_of file before_data (length contents / 1) 1 contents _ data_same _ data_at (small contents (data_few content f)) (single contents)
      ∙ omega (arith, answers_end, length_encoded content)

  -- ---- what is read

  pub same_content : content_at (sections_in file) file ≡ content
  same_content = rw (label_held, tracks_held, answers_held, data_held)

  -- No test applies.
  long : length file ≡ 16 + length label + length tracks + length answers + length contents
  long = length_encoded content

  label_passes : refusal (label_tests file) ≡ passed
  unfolding label_tests refusal
  label_passes = grind (arith, nat_tests, long, label_count, label_end, f.label)

  tracks_pass : refusal (tracks_tests file) ≡ passed
  unfolding tracks_tests refusal
  tracks_pass = grind (arith, nat_tests, long, label_end, tracks_count, tracks_end, tracks_held, f.tracks, f.list)

  answers_pass : refusal (answers_tests file) ≡ passed
  unfolding answers_tests refusal
  answers_pass = grind (arith, nat_tests, long, tracks_end, answers_count, answers_end, answers_held, tracks_held, f.answers, f.numbers)

  data_passes : refusal (data_tests file) ≡ passed
  unfolding data_tests refusal
  data_passes = grind (arith, nat_tests, long, answers_end, data_count, tracks_held, answers_held, f.«data»)

  pub written_reads : refusal (file_tests file) ≡ passed
  unfolding head_tests whole_tests refusal
  written_reads = grind (arith, nat_tests, append_passed {F = Refusal}, label_passes, tracks_pass, answers_pass, data_passes, data_end)
