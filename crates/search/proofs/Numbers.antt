-- Image bytes joined to one word: shifted down to where a place begins, it holds the octets from there on; and octets that make the same
-- word as other bytes are those bytes.
use mathlib.Core.Path.{◌≡◌, refl, ap, ◌∙◌}
use mathlib.Core.Bool.{Bool}
use mathlib.Core.List.{List, [], ◌∷◌, ◌++◌}
use mathlib.Core.Logic.{⊎_elim}
use Prim.Native.Nat.{ℕ, zero, suc, ◌+◌, ◌-◌, ◌*◌, ◌/◌, ◌%◌, ◌^◌, ◌<◌, ◌≤◌}
use native.Mathlib.Nat.{add-zero, zero-add, mod-one, eq-or-lt_of_le, le_of_suc-le-suc}
use native.Mathlib.Omega.{arith}
use lib.Dec.{T, ltb, ltb→lt}
use lib.ListN.{length, get_or, take, drop}
use Rattle.std.proofs.Common.{get_or-take, get_or-drop}
use lib.Pow.{mod-pow-add}
use Rattle.std.specs.Int.{w64, from_be_bytes}
use Rattle.cells.specs.Cells.{cell, octet}
use Rattle.cells.proofs.Joined.{octet_read}
use Rattle.cells.proofs.Table.{all, all_at}
use Rattle.search.specs.Aids.{word_at}
use Rattle.marks.proofs.Spelling.{Stand}

-- The k octets from p on, as one number, the first of them the highest.
unfoldable pub octets : (ℕ → ℕ) → ℕ → ℕ → ℕ
octets c p zero = 0
octets c p (suc k) = octets c p k * 256 + octet c (p + 8 * k)

-- ---- how the code makes a word of bytes

pub eight_joined : (s : List ℕ) (at : ℕ) → at + 8 ≤ length s → from_be_bytes w64 (take 8 (drop at s)) ≡ word_at s at 8
unfolding word_at
eight_joined s at h =
    worth
    ∙ rw (each 0 (omega arith), each 1 (omega arith), each 2 (omega arith), each 3 (omega arith), each 4 (omega arith), each 5 (omega arith), each 6 (omega arith), each 7 (omega arith))
    (simp add-zero (omega arith))
  where
    each : (i : ℕ) → i < 8 → get_or (take 8 (drop at s)) i 0 ≡ get_or s (at + i) 0
    each i l = rw (get_or-take, get_or-drop)

    worth : from_be_bytes w64 (take 8 (drop at s))
        ≡ get_or (take 8 (drop at s)) 0 0 * 256 ^ 7 + get_or (take 8 (drop at s)) 1 0 * 256 ^ 6 + get_or (take 8 (drop at s)) 2 0 * 256 ^ 5
        + get_or (take 8 (drop at s)) 3 0 * 256 ^ 4 + get_or (take 8 (drop at s)) 4 0 * 256 ^ 3 + get_or (take 8 (drop at s)) 5 0 * 256 ^ 2
        + get_or (take 8 (drop at s)) 6 0 * 256 ^ 1 + get_or (take 8 (drop at s)) 7 0
    worth = refl

-- ---- the window over a word

-- One byte more: above the lowest octet the window is as before, and that octet lies in the last two bytes.
above : (j z b : ℕ) → z < 256 → 0 < b → b ≤ 8 → (j * 256 + z) / 2 ^ b / 2 ^ 8 ≡ j / 2 ^ b
above j z zero h l u = absurd (omega arith)
above j z (suc zero) h l u = omega arith
above j z (suc (suc zero)) h l u = omega arith
above j z (suc (suc (suc zero))) h l u = omega arith
above j z (suc (suc (suc (suc zero)))) h l u = omega arith
above j z (suc (suc (suc (suc (suc zero))))) h l u = omega arith
above j z (suc (suc (suc (suc (suc (suc zero)))))) h l u = omega arith
above j z (suc (suc (suc (suc (suc (suc (suc zero))))))) h l u = omega arith
above j z (suc (suc (suc (suc (suc (suc (suc (suc zero)))))))) h l u = omega arith
above j z (suc (suc (suc (suc (suc (suc (suc (suc (suc b))))))))) h l u = absurd (omega arith)

lowest : (j y z b : ℕ) → y < 256 → z < 256 → 0 < b → b ≤ 8 → ((j * 256 + y) * 256 + z) / 2 ^ b % 2 ^ 8 ≡ (y * 256 + z) / 2 ^ b % 256
lowest j y z zero g h l u = absurd (omega arith)
lowest j y z (suc zero) g h l u = omega arith
lowest j y z (suc (suc zero)) g h l u = omega arith
lowest j y z (suc (suc (suc zero))) g h l u = omega arith
lowest j y z (suc (suc (suc (suc zero)))) g h l u = omega arith
lowest j y z (suc (suc (suc (suc (suc zero))))) g h l u = omega arith
lowest j y z (suc (suc (suc (suc (suc (suc zero)))))) g h l u = omega arith
lowest j y z (suc (suc (suc (suc (suc (suc (suc zero))))))) g h l u = omega arith
lowest j y z (suc (suc (suc (suc (suc (suc (suc (suc zero)))))))) g h l u = omega arith
lowest j y z (suc (suc (suc (suc (suc (suc (suc (suc (suc b))))))))) g h l u = absurd (omega arith)

-- The bytes from index i on, without the last b cells: their lower part is the octets from the cell that lies b cells before byte i + 1.
module _ (s : List ℕ) (bytes : (j : ℕ) → get_or s j 0 < 256) (i b p : ℕ) (low : 0 < b) (high : b ≤ 8) (place : p + b ≡ 8 * (i + 1)) where
  pub window : (k : ℕ) → word_at s i (suc k) / 2 ^ b % 2 ^ (8 * k) ≡ octets (cell s) p k
  unfolding word_at octets
  window zero = mod-one _
  window (suc k) =
      let wide : 8 * suc k ≡ 8 * k + 8 = omega arith in
      let at : (p + 8 * k) / 8 ≡ i + k = omega arith in
      let next : (p + 8 * k) / 8 + 1 ≡ i + suc k = omega arith in
      let shift : 8 - (p + 8 * k) % 8 ≡ b = omega arith in
      let up = above (word_at s i (suc k)) (get_or s (i + suc k) 0) b (bytes (i + suc k)) low high in
      let down = lowest (word_at s i k) (get_or s (i + k) 0) (get_or s (i + suc k) 0) b (bytes (i + k)) (bytes (i + suc k)) low high in
      let here =
      octet_read s (p + 8 * k) (get_or s (i + k) 0) (get_or s (i + suc k) 0) ((get_or s (i + k) 0 * 256 + get_or s (i + suc k) 0) / 2 ^ b % 256)
      (bytes (i + k)) (bytes (i + suc k)) (rw at refl) (rw next refl) (rw shift refl) in
      ap (λ (w : ℕ). word_at s i (suc (suc k)) / 2 ^ b % 2 ^ w) wide
      ∙ mod-pow-add (word_at s i (suc (suc k)) / 2 ^ b) (8 * k) 8
      ∙ rw (up, down, ← here, window k)

-- ---- numbers and bytes

-- A number's last digit and the others.
digit : (x y a b : ℕ) → a < 256 → b < 256 → x * 256 + a ≡ y * 256 + b → (x ≡ y) × (a ≡ b)
digit x y a b h l e = (omega arith, omega arith)

octet_lt : (c : ℕ → ℕ) → ((i : ℕ) → c i < 2) → (p : ℕ) → octet c p < 256
unfolding octet
octet_lt c bit p =
    omega (arith, bit p, bit (p + 1), bit (p + 2), bit (p + 3), bit (p + 4), bit (p + 5), bit (p + 6), bit (p + 7))

-- What stands, octet by octet.
stand_each : (c : ℕ → ℕ) (p : ℕ) (bs : List ℕ) → Stand c p bs → (j : ℕ) → j < length bs → octet c (p + 8 * j) ≡ get_or bs j 0
stand_each c p [] s j h = absurd (omega arith)
stand_each c p (b ∷ bs) s zero h = rw add-zero s.0
stand_each c p (b ∷ bs) s (suc j) h =
    let e : p + 8 * suc j ≡ p + 8 + 8 * j = omega arith in
    rw e (stand_each c (p + 8) bs s.1 j (omega arith))

each_stand : (c : ℕ → ℕ) (p : ℕ) (bs : List ℕ) → ((j : ℕ) → j < length bs → octet c (p + 8 * j) ≡ get_or bs j 0) → Stand c p bs
each_stand c p [] h = tt
each_stand c p (b ∷ bs) h = (
  rw add-zero at (h 0 (omega arith)),
  each_stand c (p + 8) bs (λ j l. let e : p + 8 + 8 * j ≡ p + 8 * suc j = omega arith in rw e (h (suc j) (omega arith))),
)

-- The numbers in a list are bytes.
abbrev pub small : List ℕ → ℕ → Bool
small bs j = ltb (get_or bs j 0) 256

module _ (c : ℕ → ℕ) (p : ℕ) (bs : List ℕ) where
  -- Octets that make the same number as bytes are these bytes.
  pub spelled : ((i : ℕ) → c i < 2) → T (all (small bs) (length bs)) → octets c p (length bs) ≡ word_at bs 0 (length bs) → Stand c p bs
  unfolding word_at octets
  spelled bit bytes e = each_stand c p bs (each (length bs) (omega arith) e)
    where
      each : (k : ℕ) → k ≤ length bs → octets c p k ≡ word_at bs 0 k → (j : ℕ) → j < k → octet c (p + 8 * j) ≡ get_or bs j 0
      each zero l e j h = absurd (omega arith)
      each (suc k) l e j h =
          let byte = ltb→lt (get_or bs k 0) 256 (all_at (small bs) (length bs) bytes k (omega arith)) in
          let two = digit (octets c p k) (word_at bs 0 k) (octet c (p + 8 * k)) (get_or bs k 0) (octet_lt c bit (p + 8 * k)) byte (rw zero-add at e) in
          ⊎_elim (λ q. rw q two.1) (λ m. each k (omega arith) two.0 j m) (eq-or-lt_of_le (le_of_suc-le-suc h))

  -- Bytes that stand make their own number.
  pub number : Stand c p bs → octets c p (length bs) ≡ word_at bs 0 (length bs)
  unfolding word_at octets
  number s = all_of (length bs) (omega arith)
    where
      all_of : (k : ℕ) → k ≤ length bs → octets c p k ≡ word_at bs 0 k
      all_of zero l = refl
      all_of (suc k) l = rw (zero-add, stand_each c p bs s k (omega arith), all_of k (omega arith))

-- All but the last byte stand, and the last.
pub stand_less : (c : ℕ → ℕ) (p b : ℕ) (bs : List ℕ) → Stand c p (bs ++ (b ∷ [])) → Stand c p bs × (octet c (p + 8 * length bs) ≡ b)
stand_less c p b [] s = (tt, rw add-zero s.0)
stand_less c p b (a ∷ bs) s =
    let q : p + 8 * suc (length bs) ≡ p + 8 + 8 * length bs = omega arith in
    let less = stand_less c (p + 8) b bs s.1 in
    ((s.0, less.0), rw q less.1)
