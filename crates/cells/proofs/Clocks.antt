-- Doubtful clock cells, of a byte and of bytes one behind the other: how a loop over them goes on, how many they are at most, that they are told by these
-- cells alone, and what they are past the image's end.
use Rattle.std.proofs.Common.{◌≡◌, ℕ, zero, suc, ◌+◌, ◌-◌, ◌*◌, ◌/◌, ◌%◌, ◌<◌, ◌≤◌, Bool, true, false, cond, eqb, List, length, sym, refl, ap, ◌∙◌, add-zero, add_assoc, add_comm, arith, eq-eqb}
use Rattle.cells.proofs.Bytes.{cell_past}
use Rattle.cells.proofs.Digits.{Digits, digits, digit0}
use Rattle.cells.proofs.Joined.{octet_lt}
use Rattle.cells.specs.Aids.{octet_clocks, word_clocks}
use Rattle.cells.specs.Cells.{cell, octet, data_byte, clock, doubt, byte_clocks, bytes_clocks}
use Rattle.cells.specs.declared.Mode.{Mode}
use Rattle.cells.specs.declared.Mode.TheVariants.{Fm, Mfm}

-- ---- one clock cell

pub doubt_le : (mode : Mode) (a x d : ℕ) → doubt mode a x d ≤ 1
unfolding doubt
doubt_le mode a x d = go (eqb x (clock mode a d))
  where
    go : (b : Bool) → cond {A = ℕ} b 0 1 ≤ 1
    go true = omega arith
    go false = omega arith

-- The mode's clock cell is not doubtful.
pub doubt_none : (mode : Mode) (a d : ℕ) → doubt mode a (clock mode a d) d ≡ 0
unfolding doubt
doubt_none mode a d = rw (eq-eqb (clock mode a d) (clock mode a d) refl)

-- Any number but 0 counts as ONE.
pub doubt_one : (mode : Mode) (a x d : ℕ) → (a ≡ 0 → ⊥) → doubt mode 1 x d ≡ doubt mode a x d
unfolding doubt clock
doubt_one Fm a x d h = refl
doubt_one Mfm a x d h =
    let e : 1 - (1 + d) ≡ 1 - (a + d) = omega arith in
    rw e

-- ---- a byte

module _ (mode : Mode) (c : ℕ → ℕ) where
  -- The doubtful clock cells of one octet.
  abbrev pub four_clocks : (a p : ℕ) → ℕ
  four_clocks a p =
      doubt mode a (c p) (c (p + 1))
      + doubt mode (c (p + 1)) (c (p + 2)) (c (p + 3))
      + doubt mode (c (p + 3)) (c (p + 4)) (c (p + 5))
      + doubt mode (c (p + 5)) (c (p + 6)) (c (p + 7))

  pub two_fours : (a p : ℕ) → four_clocks a p + four_clocks (c (p + 7)) (p + 8) ≡ byte_clocks mode c a p
  unfolding byte_clocks
  two_fours a p = simp (add_assoc p) (omega arith)

  after_one : (a p : ℕ) → (a ≡ 0 → ⊥) → byte_clocks mode c 1 p ≡ byte_clocks mode c a p
  unfolding byte_clocks
  after_one a p h = rw (doubt_one mode a (c p) (c (p + 1)) h)

  pub byte_le : (a p : ℕ) → byte_clocks mode c a p ≤ 8
  unfolding byte_clocks
  byte_le a p =
      omega (
        arith,
        doubt_le mode a (c p) (c (p + 1)),
        doubt_le mode (c (p + 1)) (c (p + 2)) (c (p + 3)),
        doubt_le mode (c (p + 3)) (c (p + 4)) (c (p + 5)),
        doubt_le mode (c (p + 5)) (c (p + 6)) (c (p + 7)),
        doubt_le mode (c (p + 7)) (c (p + 8)) (c (p + 9)),
        doubt_le mode (c (p + 9)) (c (p + 10)) (c (p + 11)),
        doubt_le mode (c (p + 11)) (c (p + 12)) (c (p + 13)),
        doubt_le mode (c (p + 13)) (c (p + 14)) (c (p + 15)),
      )

  module _ (bit : (i : ℕ) → c i < 2) where
    -- The last bit of a data byte, which the next one's first clock cell follows.
    pub last_bit_lem : (p : ℕ) → data_byte c p % 2 ≡ c (p + 15)
    unfolding data_byte
    last_bit_lem p =
        digit0 (c (p + 1)) (c (p + 3)) (c (p + 5)) (c (p + 7)) (c (p + 9)) (c (p + 11)) (c (p + 13)) (c (p + 15))
        (bit (p + 1)) (bit (p + 3)) (bit (p + 5)) (bit (p + 7)) (bit (p + 9)) (bit (p + 11)) (bit (p + 13)) (bit (p + 15))

    -- The cells of an octet are its digits.
    pub octet_digits : (p : ℕ) → Digits (octet c p) (c p) (c (p + 1)) (c (p + 2)) (c (p + 3)) (c (p + 4)) (c (p + 5)) (c (p + 6)) (c (p + 7))
    unfolding octet
    octet_digits p =
        digits (c p) (c (p + 1)) (c (p + 2)) (c (p + 3)) (c (p + 4)) (c (p + 5)) (c (p + 6)) (c (p + 7))
        (bit p) (bit (p + 1)) (bit (p + 2)) (bit (p + 3)) (bit (p + 4)) (bit (p + 5)) (bit (p + 6)) (bit (p + 7))

    -- The doubtful clock cells of an octet, where those data bits stand in e that the clock cells follow.
    octet_clocks_lem : (e a p : ℕ) → e / 128 % 2 ≡ a → e / 32 % 2 ≡ c (p + 1) → e / 8 % 2 ≡ c (p + 3) → e / 2 % 2 ≡ c (p + 5)
        → octet_clocks mode e (octet c p) ≡ four_clocks a p
    octet_clocks_lem e a p e7 e5 e3 e1 =
        let x = octet_digits p in
        rw (e7, e5, e3, e1, x.at7, x.at6, x.at5, x.at4, x.at3, x.at2, x.at1, x.at0)

    -- Those of the octets from q + 1 on, by the octets from q on: the clock cells of the byte there, after the bit at q.
    octets_clocks : (q : ℕ)
        → octet_clocks mode (octet c q) (octet c (q + 1)) + octet_clocks mode (octet c (q + 8)) (octet c (q + 1 + 8)) ≡ byte_clocks mode c (c q) (q + 1)
    octets_clocks q =
        let x = octet_digits q in
        let y = octet_digits (q + 8) in
        let n8 : q + 8 ≡ q + 1 + 7 = omega arith in
        rw (
          octet_clocks_lem (octet c q) (c q) (q + 1) x.at7 (x.at5 ∙ ap c (omega arith)) (x.at3 ∙ ap c (omega arith)) (x.at1 ∙ ap c (omega arith)),
          octet_clocks_lem (octet c (q + 8)) (c (q + 1 + 7)) (q + 1 + 8) (y.at7 ∙ ap c n8) (y.at5 ∙ ap c (omega arith)) (y.at3 ∙ ap c (omega arith))
              (y.at1 ∙ ap c (omega arith)),
        )
        (two_fours (c q) (q + 1))

    -- So a word of the code has them, with the first octet in its lower half.
    pub words_clocks : (q e w : ℕ) → e % 256 ≡ octet c q → e / 256 ≡ octet c (q + 8) → w % 256 ≡ octet c (q + 1) → w / 256 ≡ octet c (q + 1 + 8)
        → word_clocks mode e w ≡ byte_clocks mode c (c q) (q + 1)
    words_clocks q e w e0 e1 w0 w1 = rw (e0, e1, w0, w1) (add_comm _ _ ∙ octets_clocks q)

    -- The same, where the bit b comes before the first of the two octets, and the cells of both follow it.
    pub follow_clocks : (b p : ℕ) → b < 2
        → octet_clocks mode (b * 128 + octet c p / 2) (octet c p) + octet_clocks mode (octet c p % 2 * 128 + octet c (p + 8) / 2) (octet c (p + 8))
        ≡ byte_clocks mode c b p
    follow_clocks b p h =
        let x = octet_digits p in
        let y = octet_digits (p + 8) in
        let hx = octet_lt c bit p in
        let hy = octet_lt c bit (p + 8) in
        rw (
          octet_clocks_lem (b * 128 + octet c p / 2) b p (top b (octet c p) h hx) (fifth b (octet c p) h hx ∙ x.at6) (third b (octet c p) h hx ∙ x.at4)
              (first b (octet c p) h hx ∙ x.at2),
          octet_clocks_lem (octet c p % 2 * 128 + octet c (p + 8) / 2) (c (p + 7)) (p + 8) (top (octet c p % 2) (octet c (p + 8)) (omega arith) hy ∙ x.at0)
              (fifth (octet c p % 2) (octet c (p + 8)) (omega arith) hy ∙ y.at6) (third (octet c p % 2) (octet c (p + 8)) (omega arith) hy ∙ y.at4)
              (first (octet c p % 2) (octet c (p + 8)) (omega arith) hy ∙ y.at2),
        )
        (two_fours b p)
      where
        top : (b x : ℕ) → b < 2 → x < 256 → (b * 128 + x / 2) / 128 % 2 ≡ b
        top b x h hx = omega arith

        fifth : (b x : ℕ) → b < 2 → x < 256 → (b * 128 + x / 2) / 32 % 2 ≡ x / 64 % 2
        fifth b x h hx = omega arith

        third : (b x : ℕ) → b < 2 → x < 256 → (b * 128 + x / 2) / 8 % 2 ≡ x / 16 % 2
        third b x h hx = omega arith

        first : (b x : ℕ) → b < 2 → x < 256 → (b * 128 + x / 2) / 2 % 2 ≡ x / 4 % 2
        first b x h hx = omega arith

    -- The same of sixteen cells as one number, where b is the bit before as the code puts it in front of them.
    pub sixteen_clocks : (p w a b : ℕ) → w ≡ octet c p * 256 + octet c (p + 8) → (a ≡ 0 → b ≡ 0) → ((a ≡ 0 → ⊥) → b ≡ 32768)
        → word_clocks mode (b + w / 2) w ≡ byte_clocks mode c a p
    sixteen_clocks p w a b e zeroth one = go a zeroth one
      where
        apart : (d b h l : ℕ) → d < 2 → l < 256 → h < 256 → w ≡ h * 256 + l → b ≡ d * 32768
            → (w / 256 ≡ h) × (w % 256 ≡ l) × ((b + w / 2) / 256 ≡ d * 128 + h / 2) × ((b + w / 2) % 256 ≡ h % 2 * 128 + l / 2)
        apart d b h l u v k f g = (omega arith, omega arith, omega arith, omega arith)

        as_word : (d : ℕ) → d < 2 → b ≡ d * 32768 → word_clocks mode (b + w / 2) w ≡ byte_clocks mode c d p
        as_word d u f =
            let each = apart d b (octet c p) (octet c (p + 8)) u (octet_lt c bit (p + 8)) (octet_lt c bit p) e f in
            rw (each.0, each.1, each.2, each.3) (follow_clocks d p u)

        go : (a : ℕ) → (a ≡ 0 → b ≡ 0) → ((a ≡ 0 → ⊥) → b ≡ 32768) → word_clocks mode (b + w / 2) w ≡ byte_clocks mode c a p
        go zero z o = as_word 0 (omega arith) (z refl)
        go (suc a) z o = as_word 1 (omega arith) (o (λ h. omega arith)) ∙ after_one (suc a) p (λ h. omega arith)

  -- ---- bytes one behind the other

  pub clocks_le : (a p k : ℕ) → bytes_clocks mode c a p k ≤ 8 * k
  unfolding bytes_clocks
  clocks_le a p zero = omega arith
  clocks_le a p (suc k) = omega (arith, byte_le a p, clocks_le (c (p + 15)) (p + 16) k)

  -- what is left of n bytes at byte i, whose first cell is q
  pub clocks_step : (a q i n : ℕ) → i < n
      → bytes_clocks mode c a q (n - i) ≡ byte_clocks mode c a q + bytes_clocks mode c (c (q + 15)) (q + 16) (n - (i + 1))
  unfolding bytes_clocks
  clocks_step a q i n h =
      let e : n - i ≡ suc (n - (i + 1)) = omega arith in
      rw e

  pub clocks_end : (a q i n : ℕ) → n ≤ i → bytes_clocks mode c a q (n - i) ≡ 0
  unfolding bytes_clocks
  clocks_end a q i n h =
      let e : n - i ≡ 0 = omega arith in
      rw e

  -- byte i adds its count to the sum; q is its first cell, r that of the next, and b the bit before that
  pub sum_turn : (a b q r i n sum more total : ℕ) → i < n → r ≡ q + 16 → b ≡ c (q + 15) → more ≡ byte_clocks mode c a q
      → sum + bytes_clocks mode c a q (n - i) ≡ total → sum + more + bytes_clocks mode c b r (n - (i + 1)) ≡ total
  sum_turn a b q r i n sum more total h f g m t =
      rw (f, g, m) (add_assoc sum _ _ ∙ ap (λ (x : ℕ). sum + x) (sym (clocks_step a q i n h)) ∙ t)

  -- some bytes, at least one, and m behind them
  pub clocks_append : (a p n m : ℕ)
      → bytes_clocks mode c a p (suc n + m) ≡ bytes_clocks mode c a p (suc n) + bytes_clocks mode c (c (p + 16 * n + 15)) (p + 16 * suc n) m
  unfolding bytes_clocks
  clocks_append a p zero m =
      let one : suc zero + m ≡ suc m = omega arith in
      let b : p + 16 * zero + 15 ≡ p + 15 = omega arith in
      let q : p + 16 * suc zero ≡ p + 16 = omega arith in
      rw (one, b, q, add-zero)
  clocks_append a p (suc n) m =
      let more : suc (suc n) + m ≡ suc (suc n + m) = omega arith in
      let b : p + 16 * suc n + 15 ≡ p + 16 + 16 * n + 15 = omega arith in
      let q : p + 16 * suc (suc n) ≡ p + 16 + 16 * suc n = omega arith in
      rw (more, b, q, clocks_append (c (p + 15)) (p + 16) n m, ← add_assoc)

-- ---- other cells

module _ (mode : Mode) (c d : ℕ → ℕ) where
  byte_same : (a p : ℕ) → ((i : ℕ) → p ≤ i → i < p + 16 → d i ≡ c i) → byte_clocks mode d a p ≡ byte_clocks mode c a p
  unfolding byte_clocks
  byte_same a p h =
      rw (
        h p (omega arith) (omega arith),
        h (p + 1) (omega arith) (omega arith),
        h (p + 2) (omega arith) (omega arith),
        h (p + 3) (omega arith) (omega arith),
        h (p + 4) (omega arith) (omega arith),
        h (p + 5) (omega arith) (omega arith),
        h (p + 6) (omega arith) (omega arith),
        h (p + 7) (omega arith) (omega arith),
        h (p + 8) (omega arith) (omega arith),
        h (p + 9) (omega arith) (omega arith),
        h (p + 10) (omega arith) (omega arith),
        h (p + 11) (omega arith) (omega arith),
        h (p + 12) (omega arith) (omega arith),
        h (p + 13) (omega arith) (omega arith),
        h (p + 14) (omega arith) (omega arith),
        h (p + 15) (omega arith) (omega arith),
      )

  -- The sum is told by the bytes' own cells, and by the bit before them.
  pub clocks_same : (a p k : ℕ) → ((i : ℕ) → p ≤ i → i < p + 16 * k → d i ≡ c i) → bytes_clocks mode d a p k ≡ bytes_clocks mode c a p k
  unfolding bytes_clocks
  clocks_same a p zero h = refl
  clocks_same a p (suc k) h =
      rw (byte_same a p (λ i u v. h i u (omega arith)), h (p + 15) (omega arith) (omega arith))
      (ap (λ (n : ℕ). byte_clocks mode c a p + n) (clocks_same (c (p + 15)) (p + 16) k (λ i u v. h i (omega arith) (omega arith))))

-- A byte past the image's end: all its cells are 0.
byte_past : (mode : Mode) (s : List ℕ) (a q : ℕ) → 8 * length s ≤ q → byte_clocks mode (cell s) a q ≡ byte_clocks mode (λ i. 0) a 0
unfolding byte_clocks
byte_past mode s a q h =
    rw (
      cell_past s q (omega arith),
      cell_past s (q + 1) (omega arith),
      cell_past s (q + 2) (omega arith),
      cell_past s (q + 3) (omega arith),
      cell_past s (q + 4) (omega arith),
      cell_past s (q + 5) (omega arith),
      cell_past s (q + 6) (omega arith),
      cell_past s (q + 7) (omega arith),
      cell_past s (q + 8) (omega arith),
      cell_past s (q + 9) (omega arith),
      cell_past s (q + 10) (omega arith),
      cell_past s (q + 11) (omega arith),
      cell_past s (q + 12) (omega arith),
      cell_past s (q + 13) (omega arith),
      cell_past s (q + 14) (omega arith),
      cell_past s (q + 15) (omega arith),
    )

-- Past the image's end it is all one from where the bytes are taken.
pub clocks_stay : (mode : Mode) (s : List ℕ) (a q r k : ℕ) → 8 * length s ≤ q → 8 * length s ≤ r
    → bytes_clocks mode (cell s) a q k ≡ bytes_clocks mode (cell s) a r k
unfolding bytes_clocks
clocks_stay mode s a q r zero h g = refl
clocks_stay mode s a q r (suc k) h g =
    rw (cell_past s (q + 15) (omega arith), cell_past s (r + 15) (omega arith), byte_past mode s a q h, byte_past mode s a r g)
    (ap (λ (n : ℕ). byte_clocks mode (λ i. 0) a 0 + n) (clocks_stay mode s 0 (q + 16) (r + 16) k (omega arith) (omega arith)))
