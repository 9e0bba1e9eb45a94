-- Laws of the answers, as the code goes over them: what all ask is what those that are left ask, with what went before.
use mathlib.Core.Path.{◌≡◌, refl, sym, ap, ◌∙◌}
use mathlib.Core.Bool.{Bool, cond, ◌&&◌}
use mathlib.Core.List.{List, [], ◌∷◌, ◌++◌}
use Prim.Native.Nat.{ℕ, ◌+◌, ◌*◌, ◌≤◌}
use native.Mathlib.Nat.{add-zero, le_trans, mul-le-mul_right, mul-le-mul_left}
use native.Mathlib.Omega.{arith}
use borrow.Author.Rules.{rules}
use lib.ListN.{length, length-append, take-append-drop, take, drop}
use Rattle.std.specs.Prelude.{Option, Some, None}
use Rattle.layouts.specs.Layouts.{layout_of}
use Rattle.layouts.proofs.Layouts.{every_layout, sectors_few}
use Rattle.answers.specs.Answers.{is_answer}
use Rattle.file.specs.Contents.{Entry, all, carrying, carried_bytes}
use Rattle.file.proofs.Asking.{entries_next, entries_none}

-- How many carry bytes, behind so many that do, where those before were right or not.
abbrev pub carrying_from : (right : Bool) → (found : ℕ) → List ℕ → Option ℕ
carrying_from right found answers = cond (right && all is_answer answers) (Some (found + carrying answers)) None

-- What the answers of tracks ask, behind so many bytes.
abbrev pub bytes_from : (bytes : ℕ) → List Entry → List ℕ → Option ℕ
bytes_from bytes list answers = cond (all is_answer answers) (Some (bytes + carried_bytes list answers)) None

pub bytes_end : (bytes : ℕ) (list : List Entry) (answers : List ℕ) → list ≡ [] → length answers ≡ 0 → bytes_from bytes list answers ≡ Some bytes
unfolding all carried_bytes
bytes_end bytes [] [] e h = rw (add-zero bytes)
bytes_end bytes (x ∷ list) answers e h = absurd (omega (arith, ap length e))
bytes_end bytes [] (x ∷ answers) e h = absurd (omega arith)

-- Of two lists, one behind the other.
all_append : (test : ℕ → Bool) (xs ys : List ℕ) → all test (xs ++ ys) ≡ (all test xs && all test ys)
unfolding all
all_append test [] ys = refl
all_append test (x ∷ xs) ys = grind (arith, all_append test xs ys)

-- Those of a track, and those behind.
pub all_parts : (n : ℕ) (l : List ℕ) → (all is_answer (take n l) && all is_answer (drop n l)) ≡ all is_answer l
all_parts n l = sym (all_append is_answer (take n l) (drop n l)) ∙ ap (all is_answer) (take-append-drop n l)

-- ---- how many bytes these are at most

pub carrying_few : (answers : List ℕ) → carrying answers ≤ length answers
unfolding carrying
carrying_few [] = omega arith
carrying_few (x ∷ answers) = grind (arith, carrying_few answers)

pub size_few : (n : ℕ) → (layout_of n).size ≤ 1024
size_few = every_layout (λ l. l.size ≤ 1024) (search rules) (search rules) (search rules) (search rules)

-- An answer carries at most 1,024 bytes.
product : (x y size : ℕ) → x ≤ y → size ≤ 1024 → x * size ≤ y * 1024
product x y size h k = le_trans (mul-le-mul_right size h) (mul-le-mul_left y k)

pub track_few : (n size : ℕ) → n ≤ 26 → size ≤ 1024 → n * size ≤ 26624
track_few n size h k = product n 26 size h k

pub carried_most : (list : List Entry) (answers : List ℕ) → carried_bytes list answers ≤ 1024 * length answers
unfolding carried_bytes
carried_most [] answers = omega arith
carried_most (e ∷ more) answers =
    let s = (layout_of e.layout).sectors in
    let parts : length (take s answers) + length (drop s answers) ≡ length answers =
    sym (length-append (take s answers) (drop s answers)) ∙ ap length (take-append-drop s answers) in
    let own = take s answers in
    let here = product (carrying own) (length own) (layout_of e.layout).size (carrying_few own) (size_few e.layout) in
    omega (arith, parts, here, carried_most more (drop s answers))

-- ---- what the code takes, track by track

pub ruleset each_track = (entries_next, entries_none, sectors_few, size_few, carrying_few, track_few, all_parts, bytes_end)
