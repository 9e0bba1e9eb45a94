-- A count in four bytes and back, and a section behind its count: where it lies in a file that is put together, and how a file is taken apart there.
use mathlib.Core.Path.{◌≡◌, sym, ap, ap₂, ◌∙◌}
use mathlib.Core.List.{List, [], ◌∷◌, ◌++◌}
use Prim.Native.Nat.{ℕ, zero, suc, ◌+◌, ◌*◌, ◌<◌, ◌≤◌, ◌/◌, ◌%◌}
use native.Mathlib.Nat.{add-zero, div-div-eq-div-mul, mod-eq_of_lt}
use native.Mathlib.Omega.{arith}
use lib.ListN.{length, get_or, take, drop, take-append-drop}
use lib.Seq.{get_or-append-add, drop-append-add, take_at, drop-cons, drop-drop}
use Rattle.cells.specs.Cells.{Bytes}
use Rattle.file.proofs.Opening.{held_whole}
use Rattle.file.specs.Sections.{four_bytes, counted, count_at, section_at, end, held}

-- ---- numbers

-- Below the fourth power of 256 a number is what its four bytes say.
four_digits : (n a b c x y z : ℕ) → n ≡ 256 * a + x → a ≡ 256 * b + y → b ≡ 256 * c + z → c * 16777216 + z * 65536 + y * 256 + x ≡ n
four_digits n a b c x y z e f g = omega arith

digit : (n : ℕ) → n ≡ 256 * (n / 256) + n % 256
digit n = omega arith

four_back : (n : ℕ) → n < 4294967296 → n / 16777216 % 256 * 16777216 + n / 65536 % 256 * 65536 + n / 256 % 256 * 256 + n % 256 ≡ n
four_back n h =
    let two : n / 65536 ≡ n / 256 / 256 = sym (div-div-eq-div-mul n 256 256) in
    let three : n / 16777216 ≡ n / 256 / 256 / 256 = sym (div-div-eq-div-mul n 256 65536) ∙ sym (div-div-eq-div-mul (n / 256) 256 256) in
    let a : n / 256 < 16777216 = omega arith in
    let b : n / 256 / 256 < 65536 = omega (arith, a) in
    let c : n / 256 / 256 / 256 < 256 = omega (arith, b) in
    rw (two, three, mod-eq_of_lt c) (four_digits n (n / 256) (n / 256 / 256) (n / 256 / 256 / 256) _ _ _ (digit n) (digit (n / 256)) (digit (n / 256 / 256)))

-- Four bytes are those of the number that they say.
bytes_back : (a b c d : ℕ) → a < 256 → b < 256 → c < 256 → d < 256 → four_bytes (a * 16777216 + b * 65536 + c * 256 + d) ≡ a ∷ b ∷ c ∷ d ∷ []
unfolding four_bytes
bytes_back a b c d ha hb hc hd =
    let one : (a * 16777216 + b * 65536 + c * 256 + d) / 16777216 % 256 ≡ a = omega arith in
    let two : (a * 16777216 + b * 65536 + c * 256 + d) / 65536 % 256 ≡ b = omega arith in
    let three : (a * 16777216 + b * 65536 + c * 256 + d) / 256 % 256 ≡ c = omega arith in
    let four : (a * 16777216 + b * 65536 + c * 256 + d) % 256 ≡ d = omega arith in
    rw (one, two, three, four)

-- ---- putting together

-- A section between what stands before it and after it.
abbrev pub joined : (before : List ℕ) → (n : ℕ) → (bytes after : List ℕ) → List ℕ
joined before n bytes after = before ++ ((four_bytes n ++ bytes) ++ after)

count_there : (before : List ℕ) (n : ℕ) (bytes after : List ℕ) → n < 4294967296 → count_at (joined before n bytes after) (length before) ≡ n
unfolding count_at four_bytes
count_there before n bytes after small =
    let at : (k : ℕ) → get_or (joined before n bytes after) (length before + k) 0 ≡ get_or ((four_bytes n ++ bytes) ++ after) k 0 =
    λ k. get_or-append-add before _ k 0 in
    let first : get_or (joined before n bytes after) (length before) 0 ≡ n / 16777216 % 256 =
    sym (ap (λ (k : ℕ). get_or (joined before n bytes after) k 0) (add-zero (length before))) ∙ at 0 in
    rw (first, at 1, at 2, at 3) (four_back n small)

-- Where it lies in such a file: its count, its bytes, and its end.
module _ (file before : List ℕ) (n width : ℕ) (bytes after : List ℕ) (same : file ≡ joined before n bytes after) (place : ℕ)
    (at : place ≡ length before) (small : n < 4294967296) (long : length bytes ≡ width * n) where
  pub count_of : count_at file place ≡ n
  count_of = ap₂ count_at same at ∙ count_there before n bytes after small

  pub held_of : held width (section_at file place) file ≡ bytes
  unfolding four_bytes
  held_of =
      ap (λ (k : ℕ). take (width * k) (drop (place + 4) file)) count_of
      ∙ ap₂ (λ (k : ℕ) (l : List ℕ). take (width * n) (drop (k + 4) l)) at same
      ∙ ap (take (width * n)) (drop-append-add before ((four_bytes n ++ bytes) ++ after) 4)
      ∙ take_at bytes after (width * n) long

  pub end_of : end width (section_at file place) ≡ place + 4 + length bytes
  end_of = ap (λ (k : ℕ). place + 4 + width * k) count_of ∙ ap (λ (k : ℕ). place + 4 + k) (sym long)

-- ---- taking apart

byte_at : (l : List ℕ) (i : ℕ) → Bytes l → get_or l i 0 < 256
byte_at [] i h = omega arith
byte_at (x ∷ l) zero h = h.0
byte_at (x ∷ l) (suc i) h = byte_at l i h.1

-- The four bytes at a place are those of the count there.
abbrev four_at : List ℕ → ℕ → List ℕ
four_at file p = get_or file p 0 ∷ get_or file (p + 1) 0 ∷ get_or file (p + 2) 0 ∷ get_or file (p + 3) 0 ∷ []

count_bytes : (file : List ℕ) (p : ℕ) → Bytes file → four_bytes (count_at file p) ≡ four_at file p
unfolding count_at
count_bytes file p small = bytes_back _ _ _ _ (byte_at file p small) (byte_at file (p + 1) small) (byte_at file (p + 2) small) (byte_at file (p + 3) small)

four_off : (file : List ℕ) (p : ℕ) → p + 4 ≤ length file → drop p file ≡ four_at file p ++ drop (p + 4) file
four_off file p enough =
    let one : suc p ≡ p + 1 = omega arith in
    let two : suc (p + 1) ≡ p + 2 = omega arith in
    let three : suc (p + 2) ≡ p + 3 = omega arith in
    let four : suc (p + 3) ≡ p + 4 = omega arith in
    let cell : (i : ℕ) → i < p + 4 → drop i file ≡ get_or file i 0 ∷ drop (suc i) file = λ i k. drop-cons file i 0 (omega arith) in
    cell p (omega arith) ∙ rw (one, cell (p + 1) (omega arith), two, cell (p + 2) (omega arith), three, cell (p + 3) (omega arith), four)

-- The count at a place, the section behind it, and what follows that.
pub taken_apart : (file : List ℕ) (p width : ℕ) → Bytes file → end width (section_at file p) ≤ length file
    → (width * count_at file p) / width ≡ count_at file p
    → drop p file ≡ counted width (held width (section_at file p) file) ++ drop (end width (section_at file p)) file
taken_apart file p width small there whole =
    let n = count_at file p in
    let own = held width (section_at file p) file in
    let others = drop (end width (section_at file p)) file in
    let rest : drop (p + 4) file ≡ own ++ others = sym (take-append-drop (width * n) (drop (p + 4) file)) ∙ rw (drop-drop (width * n) (p + 4) file) in
    let long : length own ≡ width * n = held_whole width (section_at file p) file there in
    let number : four_bytes (length own / width) ≡ four_at file p = ap four_bytes (ap (λ (k : ℕ). k / width) long ∙ whole) ∙ count_bytes file p small in
    four_off file p (omega arith) ∙ ap (λ (l : List ℕ). four_at file p ++ l) rest ∙ ap (λ (l : List ℕ). (l ++ own) ++ others) (sym number)
