-- Data bytes one behind the other: how a loop over them goes on, and what they are past the image's end. And lists of bytes: what is put
-- together of them and cut out of them is such a list.
use Rattle.std.proofs.Common.{◌≡◌, ℕ, zero, suc, ◌+◌, ◌-◌, ◌*◌, ◌/◌, ◌%◌, ◌<◌, ◌≤◌, List, [], ◌∷◌, ◌++◌, length, get_or, take, drop, set, replicate, sym, refl, ap, ◌∙◌, ap₂, suc-add, zero-add, add-one, arith, lit<}
use native.Mathlib.Nat.{zero-div}
use lib.ListN.{get_or-eq_default}
use lib.Seq.{sets}
use Rattle.cells.proofs.Stores.{sets_whole}
use Rattle.cells.specs.Cells.{Byte, Bytes, cell, data_byte, data_bytes}

-- A place is that of its byte and the cells into it.
pub whole : (place : ℕ) → 8 * (place / 8) + place % 8 ≡ place
whole place = omega arith

module _ (c : ℕ → ℕ) where
  pub length_data : (p k : ℕ) → length (data_bytes c p k) ≡ k
  unfolding data_bytes
  length_data p zero = refl
  length_data p (suc k) = ap suc (length_data (p + 16) k)

  -- n bytes, and m behind them
  pub data_append : (p n m : ℕ) → data_bytes c p (n + m) ≡ data_bytes c p n ++ data_bytes c (p + 16 * n) m
  unfolding data_bytes
  data_append p zero m =
      let e : p + 16 * 0 ≡ p = omega arith in
      rw (zero-add m, e)
  data_append p (suc n) m =
      let e : p + 16 * suc n ≡ p + 16 + 16 * n = omega arith in
      rw (suc-add n m, e, data_append (p + 16) n m)

  -- one of n bytes
  pub data_at : (p n i : ℕ) → i < n → get_or (data_bytes c p n) i 0 ≡ data_byte c (p + 16 * i)
  unfolding data_bytes
  data_at p zero i h = absurd (omega arith)
  data_at p (suc n) zero h = ap (data_byte c) (omega arith)
  data_at p (suc n) (suc i) h = data_at (p + 16) n i (omega arith) ∙ ap (data_byte c) (omega arith)

  -- what is left of n bytes at byte i, whose first cell is q
  pub data_step : (q i n : ℕ) → i < n → data_bytes c q (n - i) ≡ data_byte c q ∷ data_bytes c (q + 16) (n - (i + 1))
  unfolding data_bytes
  data_step q i n h =
      let e : n - i ≡ suc (n - (i + 1)) = omega arith in
      rw e

  pub data_end : (q i n : ℕ) → n ≤ i → data_bytes c q (n - i) ≡ []
  unfolding data_bytes
  data_end q i n h =
      let e : n - i ≡ 0 = omega arith in
      rw e

  -- byte i is stored as b; q is its first cell, and q' that of the next
  pub fill_turn : (q q' i n b : ℕ) (bytes : List ℕ) → i < n → b ≡ data_byte c q → q' ≡ q + 16
      → sets bytes i (data_bytes c q (n - i)) ≡ sets (set bytes i b) (i + 1) (data_bytes c q' (n - (i + 1)))
  fill_turn q q' i n b bytes h e f = rw (data_step q i n h, ← e, f, add-one i)

  -- an area in which nothing is left to store holds them all
  pub fill_whole : (place q i n : ℕ) (bytes₀ bytes : List ℕ) → n ≡ length bytes₀ → n ≤ i
      → sets bytes₀ 0 (data_bytes c place n) ≡ sets bytes i (data_bytes c q (n - i)) → bytes ≡ data_bytes c place n
  fill_whole place q i n bytes₀ bytes m h e =
      sym (sym (sets_whole bytes₀ (data_bytes c place n) (length_data place n ∙ m)) ∙ e ∙ rw (data_end q i n h))

-- ---- past the end

pub cell_past : (s : List ℕ) (i : ℕ) → 8 * length s ≤ i → cell s i ≡ 0
unfolding cell
cell_past s i h =
    let e : length s ≤ i / 8 = omega arith in
    rw (get_or-eq_default s 0 e, zero-div)

byte_past : (s : List ℕ) (q : ℕ) → 8 * length s ≤ q → data_byte (cell s) q ≡ 0
unfolding data_byte
byte_past s q h =
    rw (
      cell_past s (q + 1) (omega arith),
      cell_past s (q + 3) (omega arith),
      cell_past s (q + 5) (omega arith),
      cell_past s (q + 7) (omega arith),
      cell_past s (q + 9) (omega arith),
      cell_past s (q + 11) (omega arith),
      cell_past s (q + 13) (omega arith),
      cell_past s (q + 15) (omega arith),
    )

zeros_past : (s : List ℕ) (q k : ℕ) → 8 * length s ≤ q → data_bytes (cell s) q k ≡ replicate k 0
unfolding data_bytes
zeros_past s q zero h = refl
zeros_past s q (suc k) h = ap₂ ◌∷◌ (byte_past s q h) (zeros_past s (q + 16) k (omega arith))

-- Past the end it is all one from where the bytes are taken.
pub stays : (s : List ℕ) (q q' k : ℕ) → 8 * length s ≤ q → 8 * length s ≤ q' → data_bytes (cell s) q k ≡ data_bytes (cell s) q' k
stays s q q' k h h' = zeros_past s q k h ∙ sym (zeros_past s q' k h')

-- ---- lists of bytes

pub bytes_append : (xs ys : List ℕ) → Bytes xs → Bytes ys → Bytes (xs ++ ys)
bytes_append [] ys f g = g
bytes_append (x ∷ xs) ys f g = (f.0, bytes_append xs ys f.1 g)

pub bytes_take : (k : ℕ) (xs : List ℕ) → Bytes xs → Bytes (take k xs)
bytes_take zero xs f = tt
bytes_take (suc k) [] f = tt
bytes_take (suc k) (x ∷ xs) f = (f.0, bytes_take k xs f.1)

pub bytes_drop : (k : ℕ) (xs : List ℕ) → Bytes xs → Bytes (drop k xs)
bytes_drop zero xs f = f
bytes_drop (suc k) [] f = tt
bytes_drop (suc k) (x ∷ xs) f = bytes_drop k xs f.1

-- Past the end of a list stands 0, a byte too.
pub byte_at : (xs : List ℕ) (i : ℕ) → Bytes xs → Byte (get_or xs i 0)
byte_at [] i f = lit< tt
byte_at (x ∷ xs) zero f = f.0
byte_at (x ∷ xs) (suc i) f = byte_at xs i f.1
