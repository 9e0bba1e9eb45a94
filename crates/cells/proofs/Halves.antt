-- How the code counts the right clock cells of two octets, by adding halves or by counting ones; the others are doubtful. Its masks take the sixteen cells
-- apart by fours; four cells are computed at all their values, and adding halves puts the four counts together.
use Rattle.std.proofs.Common.{◌≡◌, ℕ, ◌+◌, ◌-◌, ◌*◌, ◌/◌, ◌%◌, ◌<◌, ◌≤◌, Bool, eqb, refl, ap, ◌∙◌, ap₂, arith, lit<, eqb→eq}
use lib.Bits.{bit_and, bit_or, bit_xor, and_block, or_block, xor_block, and_lt, or_lt, xor_lt, and_le_r}
use lib.Count.{ones, ones_in, ones_cat}
use Rattle.cells.proofs.Clocks.{doubt_le}
use Rattle.cells.proofs.Table.{all_at}
use Rattle.cells.specs.Aids.{ruled, right_clocks, octet_clocks, word_clocks}
use Rattle.cells.specs.Cells.{clock, doubt}
use Rattle.cells.specs.declared.Mode.{Mode}
use Rattle.cells.specs.declared.Mode.TheVariants.{Fm, Mfm}

-- ---- four cells

-- The cells that are right, as the code finds them; `even` are the data cells, r the clock cells that go by the bits beside them.
abbrev rights : (even r e x : ℕ) → ℕ
rights even r e x = bit_xor x (bit_and (bit_or (bit_and x even * 2) e) r)

-- The two clock cells of four, counted.
abbrev pair : ℕ → ℕ
pair d = bit_and d 2 / 2 + bit_and d 8 / 8

-- The same by the definition.
abbrev pair_clocks : Mode → (e x : ℕ) → ℕ
pair_clocks mode e x = doubt mode (e / 8 % 2) (x / 8 % 2) (x / 4 % 2) + doubt mode (e / 2 % 2) (x / 2 % 2) (x % 2)

-- Of four cells, those that go by the bits beside them.
abbrev ruled_four : Mode → ℕ
ruled_four Fm = 0
ruled_four Mfm = 10

pair_right : Mode → ℕ → Bool
pair_right mode z = eqb (pair (rights 5 (ruled_four mode) (z / 16) (z % 16)) + pair_clocks mode (z / 16) (z % 16)) 2

pair_computed : (mode : Mode) (z : ℕ) → z < 256 → pair (rights 5 (ruled_four mode) (z / 16) (z % 16)) + pair_clocks mode (z / 16) (z % 16) ≡ 2
unfolding pair_right doubt clock
pair_computed Fm z h = eqb→eq _ _ (all_at (pair_right Fm) 256 tt z h)
pair_computed Mfm z h = eqb→eq _ _ (all_at (pair_right Mfm) 256 tt z h)

-- Of the two clock cells each is right or doubtful.
pair_at : (mode : Mode) (e x : ℕ) → e < 16 → x < 16 → pair (rights 5 (ruled_four mode) e x) + pair_clocks mode e x ≡ 2
pair_at mode e x he hx =
    let p : (e * 16 + x) / 16 ≡ e = omega arith in
    let q : (e * 16 + x) % 16 ≡ x = omega arith in
    rw (p, q) at (pair_computed mode (e * 16 + x) (omega arith))

-- ---- sixteen cells

-- One block of four more: the bits of the lower one do not reach into the upper.
block : (even r e x r0 e0 x0 : ℕ) → r0 < 16 → e0 < 16 → x0 < 16
    → rights (even * 16 + 5) (r * 16 + r0) (e * 16 + e0) (x * 16 + x0) ≡ rights even r e x * 16 + rights 5 r0 e0 x0
block even r e x r0 e0 x0 hr he hx =
    let a = bit_and x even in
    let a0 = bit_and x0 5 in
    let small : a0 * 2 < 16 = omega (arith, and_le_r x0 5) in
    let moved : (a * 16 + a0) * 2 ≡ a * 2 * 16 + a0 * 2 = omega arith in
    let o0 = or_lt 4 (a0 * 2) e0 small he in
    let b0 = and_lt 4 (bit_or (a0 * 2) e0) r0 o0 hr in
    rw (
      and_block 4 x even x0 5 hx (lit< tt),
      moved,
      or_block 4 (a * 2) e (a0 * 2) e0 small he,
      and_block 4 (bit_or (a * 2) e) r (bit_or (a0 * 2) e0) r0 o0 hr,
      xor_block 4 x (bit_and (bit_or (a * 2) e) r) x0 (bit_and (bit_or (a0 * 2) e0) r0) hx b0,
    )

-- Four fours as sixteen.
abbrev pub joined : (a b c d : ℕ) → ℕ
joined a b c d = ((a * 16 + b) * 16 + c) * 16 + d

-- A mask of sixteen, by fours.
masked : (m a b c d : ℕ) → m < 16 → a < 16 → b < 16 → c < 16 → d < 16
    → bit_and (joined a b c d) (joined m m m m) ≡ joined (bit_and a m) (bit_and b m) (bit_and c m) (bit_and d m)
masked m a b c d hm ha hb hc hd =
    rw (
      and_block 4 ((a * 16 + b) * 16 + c) ((m * 16 + m) * 16 + m) d m hd hm,
      and_block 4 (a * 16 + b) (m * 16 + m) c m hc hm,
      and_block 4 a m b m hb hm,
    )

-- One of the two clock cells, told by a mask.
second : (d : ℕ) → d < 16 → bit_and d 2 ≡ 2 * (bit_and d 2 / 2)
second d h = eqb→eq _ _ (all_at (λ d. eqb (bit_and d 2) (2 * (bit_and d 2 / 2))) 16 tt d h)

first : (d : ℕ) → d < 16 → bit_and d 8 ≡ 8 * (bit_and d 8 / 8)
first d h = eqb→eq _ _ (all_at (λ d. eqb (bit_and d 8) (8 * (bit_and d 8 / 8))) 16 tt d h)

-- Sixteen cells' counts, by pairs.
abbrev pub pairs : ℕ → ℕ
pairs d = bit_and d 0x2222 / 2 + bit_and d 0x8888 / 8

apart : (a b c d e f g h a1 b1 c1 d1 a2 b2 c2 d2 : ℕ) → a ≡ 2 * a1 → b ≡ 2 * b1 → c ≡ 2 * c1 → d ≡ 2 * d1
    → e ≡ 8 * a2 → f ≡ 8 * b2 → g ≡ 8 * c2 → h ≡ 8 * d2
    → joined a b c d / 2 + joined e f g h / 8 ≡ joined (a1 + a2) (b1 + b2) (c1 + c2) (d1 + d2)
apart a b c d e f g h a1 b1 c1 d1 a2 b2 c2 d2 ea eb ec ed ee ef eg eh = omega arith

pairs_joined : (a b c d : ℕ) → a < 16 → b < 16 → c < 16 → d < 16 → pairs (joined a b c d) ≡ joined (pair a) (pair b) (pair c) (pair d)
pairs_joined a b c d ha hb hc hd =
    ap₂ (λ (x y : ℕ). x / 2 + y / 8) (masked 2 a b c d (lit< tt) ha hb hc hd) (masked 8 a b c d (lit< tt) ha hb hc hd)
    ∙ apart _ _ _ _ _ _ _ _ _ _ _ _ _ _ _ _ (second a ha) (second b hb) (second c hc) (second d hd) (first a ha) (first b hb) (first c hc) (first d hd)

-- All of them, once the halves are added twice.
abbrev pub fours : ℕ → ℕ
fours n = n + n * 16 % 65536

abbrev pub all : ℕ → ℕ
all n = (n + n * 256 % 65536) / 4096

module _ (a b c d : ℕ) (ha : a ≤ 2) (hb : b ≤ 2) (hc : c ≤ 2) (hd : d ≤ 2) where
  pub added : fours (joined a b c d) ≡ joined (a + b) (b + c) (c + d) d
  added = omega arith

  moved : joined (a + b) (b + c) (c + d) d * 256 % 65536 ≡ (c + d) * 4096 + d * 256
  moved = omega arith

  pub added_twice : all (joined (a + b) (b + c) (c + d) d) ≡ a + b + c + d
  added_twice = rw moved (omega arith)

-- ---- the word

module _ (mode : Mode) where
  -- The counts of an octet's halves are the octet's.
  octet_halves : (e f x y : ℕ) → f < 16 → y < 16 → octet_clocks mode (e * 16 + f) (x * 16 + y) ≡ pair_clocks mode e x + pair_clocks mode f y
  octet_halves e f x y hf hy =
      let e7 : (e * 16 + f) / 128 % 2 ≡ e / 8 % 2 = omega arith in
      let e5 : (e * 16 + f) / 32 % 2 ≡ e / 2 % 2 = omega arith in
      let e3 : (e * 16 + f) / 8 % 2 ≡ f / 8 % 2 = omega arith in
      let e1 : (e * 16 + f) / 2 % 2 ≡ f / 2 % 2 = omega arith in
      let x7 : (x * 16 + y) / 128 % 2 ≡ x / 8 % 2 = omega arith in
      let x6 : (x * 16 + y) / 64 % 2 ≡ x / 4 % 2 = omega arith in
      let x5 : (x * 16 + y) / 32 % 2 ≡ x / 2 % 2 = omega arith in
      let x4 : (x * 16 + y) / 16 % 2 ≡ x % 2 = omega arith in
      let x3 : (x * 16 + y) / 8 % 2 ≡ y / 8 % 2 = omega arith in
      let x2 : (x * 16 + y) / 4 % 2 ≡ y / 4 % 2 = omega arith in
      let x1 : (x * 16 + y) / 2 % 2 ≡ y / 2 % 2 = omega arith in
      let x0 : (x * 16 + y) % 2 ≡ y % 2 = omega arith in
      rw (e7, e5, e3, e1, x7, x6, x5, x4, x3, x2, x1, x0) (omega arith)

  pair_le : (e x : ℕ) → pair_clocks mode e x ≤ 2
  pair_le e x = omega (arith, doubt_le mode (e / 8 % 2) (x / 8 % 2) (x / 4 % 2), doubt_le mode (e / 2 % 2) (x / 2 % 2) (x % 2))

-- The right cells of sixteen, by fours, each with the same clock cells looked at.
by_fours : (r e f g h w x y z : ℕ) → r < 16 → f < 16 → g < 16 → h < 16 → x < 16 → y < 16 → z < 16
    → rights 0x5555 (joined r r r r) (joined e f g h) (joined w x y z) ≡ joined (rights 5 r e w) (rights 5 r f x) (rights 5 r g y) (rights 5 r h z)
by_fours r e f g h w x y z hr hf hg hh hx hy hz =
    block 0x555 ((r * 16 + r) * 16 + r) ((e * 16 + f) * 16 + g) ((w * 16 + x) * 16 + y) r h z hr hh hz
    ∙ ap (λ (n : ℕ). n * 16 + rights 5 r h z)
    (block 0x55 (r * 16 + r) (e * 16 + f) (w * 16 + x) r g y hr hg hy ∙ ap (λ (n : ℕ). n * 16 + rights 5 r g y) (block 5 r e w r f x hr hf hx))

four_lt : (r e x : ℕ) → r < 16 → x < 16 → rights 5 r e x < 16
four_lt r e x hr hx =
    let b = bit_and (bit_or (bit_and x 5 * 2) e) r in
    xor_lt 4 x b hx (omega (arith, and_le_r (bit_or (bit_and x 5 * 2) e) r))

-- The clock cells of four, counted as ones.
pair_ones : (d : ℕ) → d < 16 → ones (bit_and d 10) ≡ pair d
unfolding ones ones_in
pair_ones d h = eqb→eq _ _ (all_at (λ d. eqb (ones_in (bit_and d 10) (bit_and d 10)) (pair d)) 16 tt d h)

-- A word is four fours; those of its right cells have counts, of at most two each, and with the doubtful ones they are eight.
pub record Counted (mode : Mode) (e w n : ℕ) : Type 0 where
  pub first : ℕ
  pub second : ℕ
  pub third : ℕ
  pub fourth : ℕ
  pub first_le : first ≤ 2
  pub second_le : second ≤ 2
  pub third_le : third ≤ 2
  pub fourth_le : fourth ≤ 2
  pub pairs_are : pairs n ≡ joined first second third fourth
  pub ones_are : ones (bit_and n 0xAAAA) ≡ first + second + third + fourth
  pub sum_is : first + second + third + fourth + word_clocks mode e w ≡ 8

module _ (mode : Mode) where
  ruled_fours : ruled mode ≡ joined (ruled_four mode) (ruled_four mode) (ruled_four mode) (ruled_four mode)
  ruled_fours = go mode
    where
      go : (mode : Mode) → ruled mode ≡ joined (ruled_four mode) (ruled_four mode) (ruled_four mode) (ruled_four mode)
      go Fm = refl
      go Mfm = refl

  ruled_lt : ruled_four mode < 16
  ruled_lt = go mode
    where
      go : (mode : Mode) → ruled_four mode < 16
      go Fm = lit< tt
      go Mfm = lit< tt

  module _ (e f g h w x y z : ℕ) (he : e < 16) (hf : f < 16) (hg : g < 16) (hh : h < 16) (hw : w < 16) (hx : x < 16) (hy : y < 16) (hz : z < 16) where
    abbrev r : ℕ
    r = ruled_four mode

    rights_joined : right_clocks mode (joined e f g h) (joined w x y z) ≡ joined (rights 5 r e w) (rights 5 r f x) (rights 5 r g y) (rights 5 r h z)
    rights_joined =
        let data-lt = and_le_r (joined w x y z) 0x5555 in
        let whole : bit_and (joined w x y z) 0x5555 * 2 % 65536 ≡ bit_and (joined w x y z) 0x5555 * 2 = omega (arith, data-lt) in
        rw (whole, ruled_fours) (by_fours r e f g h w x y z ruled_lt hf hg hh hx hy hz)

    fours_ones : ones (bit_and (joined (rights 5 r e w) (rights 5 r f x) (rights 5 r g y) (rights 5 r h z)) 0xAAAA)
        ≡ pair (rights 5 r e w) + pair (rights 5 r f x) + pair (rights 5 r g y) + pair (rights 5 r h z)
    fours_ones =
        let a = four_lt r e w ruled_lt hw in
        let b = four_lt r f x ruled_lt hx in
        let c = four_lt r g y ruled_lt hy in
        let d = four_lt r h z ruled_lt hz in
        let small : (n : ℕ) → bit_and n 10 < 16 = λ n. omega (arith, and_le_r n 10) in
        ap ones (masked 10 _ _ _ _ (lit< tt) a b c d)
        ∙ ones_cat 4 _ _ (small (rights 5 r h z))
        ∙ ap (λ (n : ℕ). n + ones (bit_and (rights 5 r h z) 10))
        (ones_cat 4 _ _ (small (rights 5 r g y)) ∙ ap (λ (n : ℕ). n + ones (bit_and (rights 5 r g y) 10)) (ones_cat 4 _ _ (small (rights 5 r f x))))
        ∙ rw (pair_ones (rights 5 r e w) a, pair_ones (rights 5 r f x) b, pair_ones (rights 5 r g y) c, pair_ones (rights 5 r h z) d)

    fours_word : pair_clocks mode e w + pair_clocks mode f x + pair_clocks mode g y + pair_clocks mode h z ≡ word_clocks mode (joined e f g h) (joined w x y z)
    fours_word =
        let e1 : joined e f g h / 256 ≡ e * 16 + f = omega arith in
        let e0 : joined e f g h % 256 ≡ g * 16 + h = omega arith in
        let w1 : joined w x y z / 256 ≡ w * 16 + x = omega arith in
        let w0 : joined w x y z % 256 ≡ y * 16 + z = omega arith in
        rw (e1, e0, w1, w0, octet_halves mode e f w x hf hx, octet_halves mode g h y z hh hz) (omega arith)

    fours_counted : Counted mode (joined e f g h) (joined w x y z) (right_clocks mode (joined e f g h) (joined w x y z))
    fours_counted =
        let one = pair_at mode e w he hw in
        let two = pair_at mode f x hf hx in
        let three = pair_at mode g y hg hy in
        let four = pair_at mode h z hh hz in
        rw rights_joined record {
          first = pair (rights 5 r e w);
          second = pair (rights 5 r f x);
          third = pair (rights 5 r g y);
          fourth = pair (rights 5 r h z);
          first_le = omega (arith, one);
          second_le = omega (arith, two);
          third_le = omega (arith, three);
          fourth_le = omega (arith, four);
          pairs_are =
              pairs_joined _ _ _ _ (four_lt r e w ruled_lt hw) (four_lt r f x ruled_lt hx) (four_lt r g y ruled_lt hy) (four_lt r h z ruled_lt hz);
          ones_are = fours_ones;
          sum_is = omega (arith, one, two, three, four, fours_word);
        }

-- A word by fours.
taken_apart : (w : ℕ) → w ≡ joined (w / 4096) (w / 256 % 16) (w / 16 % 16) (w % 16)
taken_apart w = omega arith

pub counted : (mode : Mode) (e w : ℕ) → e < 65536 → w < 65536 → Counted mode e w (right_clocks mode e w)
counted mode e w he hw =
    rw (taken_apart e, taken_apart w)
    (fours_counted mode (e / 4096) (e / 256 % 16) (e / 16 % 16) (e % 16) (w / 4096) (w / 256 % 16) (w / 16 % 16) (w % 16)
    (omega arith) (omega arith) (omega arith) (omega arith) (omega arith) (omega arith) (omega arith) (omega arith))

-- So adding them twice is no sum too large, and gives how many there are; counting ones gives the same.
module _ {mode : Mode} {e w n : ℕ} (k : Counted mode e w n) where
  pub pairs_fit : pairs n < 65536
  pairs_fit = rw k.pairs_are (omega (arith, k.first_le, k.second_le, k.third_le, k.fourth_le))

  abbrev sums : ℕ
  sums = joined (k.first + k.second) (k.second + k.third) (k.third + k.fourth) k.fourth

  fours_are : fours (pairs n) ≡ sums
  fours_are = ap fours k.pairs_are ∙ added k.first k.second k.third k.fourth k.first_le k.second_le k.third_le k.fourth_le

  pub fours_fit : fours (pairs n) < 65536
  fours_fit = rw fours_are (omega (arith, k.first_le, k.second_le, k.third_le, k.fourth_le))

  pub all_fit : fours (pairs n) + fours (pairs n) * 256 % 65536 < 65536
  all_fit =
      rw (fours_are, moved k.first k.second k.third k.fourth k.first_le k.second_le k.third_le k.fourth_le)
      (omega (arith, k.first_le, k.second_le, k.third_le, k.fourth_le))

  all_are : all (fours (pairs n)) ≡ k.first + k.second + k.third + k.fourth
  all_are = ap all fours_are ∙ added_twice k.first k.second k.third k.fourth k.first_le k.second_le k.third_le k.fourth_le

  pub all_right : (all (fours (pairs n)) + word_clocks mode e w ≡ 8) × (all (fours (pairs n)) ≤ 8)
  all_right = (omega (arith, all_are, k.sum_is), omega (arith, all_are, k.sum_is))

  pub ones_right : (ones (bit_and n 0xAAAA) ≤ 8) × (8 - ones (bit_and n 0xAAAA) ≡ word_clocks mode e w)
  ones_right = (omega (arith, k.ones_are, k.sum_is), omega (arith, k.ones_are, k.sum_is))
