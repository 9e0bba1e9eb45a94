-- A file that is read is the file of what its sections hold.
use mathlib.Core.Path.{◌≡◌, sym, ap, ◌∙◌}
use mathlib.Core.Bool.{true}
use mathlib.Core.List.{List, [], ◌++◌, append-nil}
use Prim.Native.Nat.{ℕ, ◌*◌, ◌≤◌, ◌/◌}
use native.Mathlib.Nat.{div-one}
use native.Mathlib.Omega.{arith}
use Rattle.std.proofs.lemmas.Bool.Decides.{nat_tests}
use lib.ListN.{length, drop, drop_of_length-le}
use Rattle.cells.specs.Cells.{Bytes}
use Rattle.verdicts.specs.Tests.{passed, refusal}
use Rattle.answers.specs.Answers.{is_answer}
use Rattle.file.specs.Contents.{Content, track_width, entries, is_track_list, sectors_of, all, carried_bytes}
use Rattle.file.specs.Outcomes.{file_tests}
use Rattle.file.specs.Refusals.{label_tests, tracks_tests, answers_tests, data_tests, head_tests, whole_tests}
use Rattle.file.specs.Sections.{counted, encoded, end, held, label_in, tracks_in, answers_in, data_in, sections_in, content_at}
use Rattle.file.proofs.Fitting.{Fitting}
use Rattle.file.proofs.Opening.{held_whole}
use Rattle.file.proofs.Putting.{encoded_on}
use Rattle.promises.proofs.filing.Counts.{taken_apart}

-- What is known of a file that is read.
pub record Known (file : List ℕ) : Type 0 where
  pub label : (label_in file).count ≤ 80
  pub «label-there» : end 1 (label_in file) ≤ length file
  pub tracks : (tracks_in file).count ≤ 150
  pub «tracks-there» : end track_width (tracks_in file) ≤ length file
  pub list : is_track_list (held track_width (tracks_in file) file) ≡ true
  pub answers : (answers_in file).count ≡ sectors_of (entries (held track_width (tracks_in file) file))
  pub «answers-there» : end 1 (answers_in file) ≤ length file
  pub numbers : all is_answer (held 1 (answers_in file) file) ≡ true
  pub «data» : (data_in file).count ≡ carried_bytes (entries (held track_width (tracks_in file) file)) (held 1 (answers_in file) file)
  pub ends : end 1 (data_in file) ≡ length file

pub known : (file : List ℕ) → refusal (file_tests file) ≡ passed → Known file
unfolding head_tests label_tests tracks_tests answers_tests data_tests whole_tests refusal
known file h =
    record {
      label = grind (arith, nat_tests);
      «label-there» = grind (arith, nat_tests);
      tracks = grind (arith, nat_tests);
      «tracks-there» = grind (arith, nat_tests);
      list = grind (arith, nat_tests);
      answers = grind (arith, nat_tests);
      «answers-there» = grind (arith, nat_tests);
      numbers = grind (arith, nat_tests);
      «data» = grind (arith, nat_tests);
      ends = grind (arith, nat_tests);
    }

one_each : (n : ℕ) → 1 * n / 1 ≡ n
one_each n = div-one (1 * n) ∙ omega arith

three_each : (n : ℕ) → 3 * n / 3 ≡ n
three_each n = omega arith

module _ (file : List ℕ) (k : Known file) where
  abbrev content : Content
  content = content_at (sections_in file) file

  label_long : length content.label ≡ 1 * (label_in file).count
  label_long = held_whole 1 (label_in file) file k.«label-there»

  tracks_long : length content.tracks ≡ 3 * (tracks_in file).count
  tracks_long = held_whole 3 (tracks_in file) file k.«tracks-there»

  answers_long : length content.answers ≡ 1 * (answers_in file).count
  answers_long = held_whole 1 (answers_in file) file k.«answers-there»

  data_long : length content.«data» ≡ 1 * (data_in file).count
  data_long = held_whole 1 (data_in file) file (omega (arith, k.ends))

  pub found_fits : Fitting content
  found_fits =
      record {
        label = omega (arith, label_long, k.label);
        tracks = rw (tracks_long, three_each (tracks_in file).count) k.tracks;
        list = k.list;
        answers = answers_long ∙ omega arith ∙ k.answers;
        numbers = k.numbers;
        «data» = data_long ∙ omega arith ∙ k.«data»;
      }

  pub found_again : Bytes file → encoded content ≡ file
  unfolding encoded label_in tracks_in answers_in data_in
  found_again small =
      let one = taken_apart file 0 1 small k.«label-there» (one_each _) in
      let two = taken_apart file (end 1 (label_in file)) 3 small k.«tracks-there» (three_each _) in
      let three = taken_apart file (end 3 (tracks_in file)) 1 small k.«answers-there» (one_each _) in
      let four = taken_apart file (end 1 (answers_in file)) 1 small (omega (arith, k.ends)) (one_each _) in
      let none : drop (end 1 (data_in file)) file ≡ [] = drop_of_length-le file {i = end 1 (data_in file)} (omega (arith, k.ends)) in
      encoded_on content
      ∙ sym
      (one
      ∙ ap (λ (l : List ℕ). counted 1 content.label ++ l)
      (two
      ∙ ap (λ (l : List ℕ). counted 3 content.tracks ++ l)
      (three
      ∙ ap (λ (l : List ℕ). counted 1 content.answers ++ l)
      (four ∙ ap (λ (l : List ℕ). counted 1 content.«data» ++ l) none ∙ append-nil (counted 1 content.«data»)))))
