-- The cells laid one 1 after the other are the image of the list of cells: one more 1 in the image is one more 1 in the list.
use Rattle.std.proofs.Common.{◌≡◌, ℕ, zero, suc, ◌+◌, ◌-◌, ◌*◌, ◌/◌, ◌%◌, ◌^◌, ◌<◌, ◌≤◌, Bool, true, false, cond, not, ◌||◌, T, eqb, ltb, List, [], ◌∷◌, ◌++◌, length, get_or, take, drop, set, replicate, sym, refl, ap, ◌∙◌, subst, ap₂, append-nil, not-suc-le-zero, add-zero, zero-add, arith, eqb→eq, length-set, get_or-set_other, get_or-set_same, get_or-append-add, ext_get_or, ltb-false, ltb-true, eq-eqb, eqb-true}
use borrow.Author.Tests.{eqb-false}
use lib.Bits.{bit_or}
use borrow.Rule.Slice.PartMut.{put_mid}
use lib.ListN.{get_or-append, get_or-eq_default}
use lib.Seq.{take-length, drop-length, get_or-append_right}
use Rattle.cells.specs.Cells.{octet}
use Rattle.cells.proofs.Digits.{byte_lt}
use Rattle.cells.proofs.Table.{all, all_at}
use Rattle.verdicts.proofs.Tests.{clash}
use Rattle.flux.specs.Images.{octets}
use Rattle.flux.specs.Aids.{with_one}

-- ---- the bytes of cells

module _ (c : ℕ → ℕ) where
  pub length_octets : (p k : ℕ) → length (octets c p k) ≡ k
  unfolding octets
  length_octets p zero = refl
  length_octets p (suc k) = ap suc (length_octets (p + 8) k)

  pub octets_at : (p k j : ℕ) → j < k → get_or (octets c p k) j 0 ≡ octet c (p + 8 * j)
  unfolding octets
  octets_at p zero j h = absurd (not-suc-le-zero h)
  octets_at p (suc k) zero h =
      let e : p + 8 * 0 ≡ p = omega arith in
      rw e
  octets_at p (suc k) (suc j) h =
      let e : p + 8 + 8 * j ≡ p + 8 * suc j = omega arith in
      octets_at (p + 8) k j (omega arith) ∙ ap (octet c) e

-- Eight cells that are the same make the same byte.
pub octet_same : (c d : ℕ → ℕ) (p : ℕ) → ((i : ℕ) → i < 8 → d (p + i) ≡ c (p + i)) → octet d p ≡ octet c p
unfolding octet
octet_same c d p f =
    let e : d p ≡ c p = subst (λ (x : ℕ). d x ≡ c x) (add-zero p) (f 0 (omega arith)) in
    rw (
      e,
      f 1 (omega arith),
      f 2 (omega arith),
      f 3 (omega arith),
      f 4 (omega arith),
      f 5 (omega arith),
      f 6 (omega arith),
      f 7 (omega arith),
    )

-- ---- a 1 in a byte

-- In a byte x whose bit s is 0 the bit can be put by adding it: a test of all bytes and bits.
adds_to : ℕ → ℕ → Bool
adds_to s x = not (eqb (x / 2 ^ (7 - s) % 2) 0) || eqb (bit_or x (128 / 2 ^ s)) (x + 128 / 2 ^ s)

adds_tested : (s : ℕ) → s < 8 → T (all (adds_to s) 256)
unfolding adds_to
adds_tested s h = all_at (λ (k : ℕ). all (adds_to k) 256) 8 tt s h

or_adds : (s x : ℕ) → s < 8 → x < 256 → x / 2 ^ (7 - s) % 2 ≡ 0 → bit_or x (128 / 2 ^ s) ≡ x + 128 / 2 ^ s
unfolding adds_to
or_adds s x h k e = eqb-true _ _ (go (eqb (x / 2 ^ (7 - s) % 2) 0) (eqb (bit_or x (128 / 2 ^ s)) (x + 128 / 2 ^ s)) (all_at (adds_to s) 256 (adds_tested s h) x k) (eq-eqb _ _ e))
  where
    go : (a b : Bool) → T (not a || b) → a ≡ true → b ≡ true
    go true true t f = refl
    go true false t f = absurd t
    go false b t f = absurd (clash cc)

-- What holds at each of the eight cells of a byte.
eight : (P : ℕ → Type 0) → P 0 → P 1 → P 2 → P 3 → P 4 → P 5 → P 6 → P 7 → (s : ℕ) → s < 8 → P s
eight P a b c d e f g h zero k = a
eight P a b c d e f g h (suc zero) k = b
eight P a b c d e f g h (suc (suc zero)) k = c
eight P a b c d e f g h (suc (suc (suc zero))) k = d
eight P a b c d e f g h (suc (suc (suc (suc zero)))) k = e
eight P a b c d e f g h (suc (suc (suc (suc (suc zero))))) k = f
eight P a b c d e f g h (suc (suc (suc (suc (suc (suc zero)))))) k = g
eight P a b c d e f g h (suc (suc (suc (suc (suc (suc (suc zero))))))) k = h
eight P a b c d e f g h (suc (suc (suc (suc (suc (suc (suc (suc n)))))))) k = absurd (omega arith)

module _ (c : ℕ → ℕ) (bit : (i : ℕ) → c i < 2) where
  octet_byte : (p : ℕ) → octet c p < 256
  unfolding octet
  octet_byte p = byte_lt _ _ _ _ _ _ _ _ (bit p) (bit (p + 1)) (bit (p + 2)) (bit (p + 3)) (bit (p + 4)) (bit (p + 5)) (bit (p + 6)) (bit (p + 7))

  -- Cell s of an octet is found in it.
  pub octet_cell : (p s : ℕ) → s < 8 → octet c p / 2 ^ (7 - s) % 2 ≡ c (p + s)
  unfolding octet
  octet_cell p =
      let a = bit p in
      let b = bit (p + 1) in
      let d = bit (p + 2) in
      let e = bit (p + 3) in
      let f = bit (p + 4) in
      let g = bit (p + 5) in
      let h = bit (p + 6) in
      let i = bit (p + 7) in
      eight (λ (s : ℕ). octet c p / 2 ^ (7 - s) % 2 ≡ c (p + s)) (rw (add-zero p) (omega arith)) (omega arith) (omega arith) (omega arith) (omega arith)
      (omega arith) (omega arith) (omega arith)

  module _ (d : ℕ → ℕ) (p s : ℕ) (h : s < 8) (zero-there : c (p + s) ≡ 0) (one-there : d (p + s) ≡ 1)
      (others : (i : ℕ) → (i ≡ p + s → ⊥) → d i ≡ c i) where
    -- 1 at cell s, and else 0.
    there : ℕ → ℕ
    there i = cond (eqb i s) 1 0

    more : (i : ℕ) → d (p + i) ≡ c (p + i) + there i
    unfolding there
    more i = go (eqb i s) refl
      where
        go : (b : Bool) → eqb i s ≡ b → d (p + i) ≡ c (p + i) + cond b 1 0
        go true e =
            let k : p + i ≡ p + s = ap (λ (x : ℕ). p + x) (eqb-true i s e) in
            rw (k, one-there, zero-there)
        go false e = others (p + i) (λ k. eqb-false i s e (omega arith)) ∙ sym (add-zero (c (p + i)))

    weights : 128 * there 0 + 64 * there 1 + 32 * there 2 + 16 * there 3 + 8 * there 4 + 4 * there 5 + 2 * there 6 + there 7 ≡ 128 / 2 ^ s
    unfolding there
    weights =
        eqb→eq _ _
        (all_at
        (λ (s : ℕ).
        eqb
        (128 * cond (eqb 0 s) 1 0 + 64 * cond (eqb 1 s) 1 0 + 32 * cond (eqb 2 s) 1 0 + 16 * cond (eqb 3 s) 1 0 + 8 * cond (eqb 4 s) 1 0
        + 4 * cond (eqb 5 s) 1 0 + 2 * cond (eqb 6 s) 1 0 + cond (eqb 7 s) 1 0)
        (128 / 2 ^ s))
        8 tt s h)

    octet_more : octet d p ≡ octet c p + 128 / 2 ^ s
    unfolding octet
    octet_more =
        let first : d p ≡ c p + there 0 = subst (λ (x : ℕ). d x ≡ c x + there 0) (add-zero p) (more 0) in
        omega (arith, first, more 1, more 2, more 3, more 4, more 5, more 6, more 7, weights)

    -- One more 1 in the byte is one more 1 among the cells.
    octet_or : bit_or (octet c p) (128 / 2 ^ s) ≡ octet d p
    octet_or = or_adds s (octet c p) h (octet_byte p) (octet_cell p s h ∙ zero-there) ∙ sym octet_more

-- ---- a 1 in an image

module _ (c : ℕ → ℕ) (bit : (i : ℕ) → c i < 2) (d : ℕ → ℕ) (q : ℕ) (zero-there : c q ≡ 0) (one-there : d q ≡ 1)
    (others : (i : ℕ) → (i ≡ q → ⊥) → d i ≡ c i) where
  place : 8 * (q / 8) + q % 8 ≡ q
  place = omega arith

  -- The byte with the cell, and every other.
  byte_there : bit_or (octet c (8 * (q / 8))) (128 / 2 ^ (q % 8)) ≡ octet d (8 * (q / 8))
  byte_there =
      octet_or c bit d (8 * (q / 8)) (q % 8) (omega arith) (ap c place ∙ zero-there) (ap d place ∙ one-there) (λ i n. others i (λ e. n (e ∙ sym place)))

  byte_other : (j : ℕ) → (j ≡ q / 8 → ⊥) → octet c (8 * j) ≡ octet d (8 * j)
  byte_other j n = sym (octet_same c d (8 * j) (λ i h. others (8 * j + i) (λ e. n (omega arith))))

  module _ (bytes : ℕ) (h : q < 8 * bytes) where
    length_one : length (with_one (octets c 0 bytes) q) ≡ bytes
    unfolding with_one
    length_one = length-set (octets c 0 bytes) (q / 8) _ ∙ length_octets c 0 bytes

    at : (x : ℕ → ℕ) (j : ℕ) → j < bytes → get_or (octets x 0 bytes) j 0 ≡ octet x (8 * j)
    at x j k = octets_at x 0 bytes j k ∙ ap (octet x) (zero-add (8 * j))

    at_there : get_or (with_one (octets c 0 bytes) q) (q / 8) 0 ≡ get_or (octets d 0 bytes) (q / 8) 0
    unfolding with_one
    at_there =
        let k : q / 8 < bytes = omega arith in
        get_or-set_same (octets c 0 bytes) (q / 8) _ 0 (subst (λ (n : ℕ). q / 8 < n) (sym (length_octets c 0 bytes)) k)
        ∙ ap (λ (x : ℕ). bit_or x (128 / 2 ^ (q % 8))) (at c (q / 8) k) ∙ byte_there ∙ sym (at d (q / 8) k)

    at_other : (j : ℕ) → j < bytes → (j ≡ q / 8 → ⊥) → get_or (with_one (octets c 0 bytes) q) j 0 ≡ get_or (octets d 0 bytes) j 0
    unfolding with_one
    at_other j k n = get_or-set_other (octets c 0 bytes) (q / 8) j _ 0 n ∙ at c j k ∙ byte_other j n ∙ sym (at d j k)

    at_each : (j : ℕ) → j < bytes → get_or (with_one (octets c 0 bytes) q) j 0 ≡ get_or (octets d 0 bytes) j 0
    at_each j k = go (eqb j (q / 8)) refl
      where
        go : (b : Bool) → eqb j (q / 8) ≡ b → get_or (with_one (octets c 0 bytes) q) j 0 ≡ get_or (octets d 0 bytes) j 0
        go true e = subst (λ (x : ℕ). get_or (with_one (octets c 0 bytes) q) x 0 ≡ get_or (octets d 0 bytes) x 0) (sym (eqb-true j (q / 8) e)) at_there
        go false e = at_other j k (eqb-false j (q / 8) e)

    pub one_more : with_one (octets c 0 bytes) q ≡ octets d 0 bytes
    one_more =
        ext_get_or 0 _ _ (length_one ∙ sym (length_octets d 0 bytes)) (λ j l. at_each j (subst (λ (n : ℕ). j < n) length_one l))

-- ---- a list of cells

-- The cells of a list; past its end they are 0.
abbrev pub listed : List ℕ → ℕ → ℕ
listed cells i = get_or cells i 0

-- So many zeros, and a 1.
abbrev pub run : ℕ → List ℕ
run k = replicate k 0 ++ (1 ∷ [])

run_last : (k : ℕ) → listed (run k) k ≡ 1
run_last zero = refl
run_last (suc k) = run_last k

run_other : (k i : ℕ) → (i ≡ k → ⊥) → listed (run k) i ≡ 0
run_other zero zero n = absurd (n refl)
run_other zero (suc i) n = refl
run_other (suc k) zero n = refl
run_other (suc k) (suc i) n = run_other k i (λ e. n (ap suc e))

module _ (cells : List ℕ) (k : ℕ) where
  run_there : listed (cells ++ run k) (length cells + k) ≡ 1
  run_there = get_or-append-add cells (run k) k 0 ∙ run_last k

  run_elsewhere : (i : ℕ) → (i ≡ length cells + k → ⊥) → listed (cells ++ run k) i ≡ listed cells i
  run_elsewhere i n = go (ltb i (length cells)) refl
    where
      go : (b : Bool) → ltb i (length cells) ≡ b → listed (cells ++ run k) i ≡ listed cells i
      go true e = get_or-append cells (run k) 0 i (ltb-true i (length cells) e)
      go false e =
          let h = ltb-false i (length cells) e in
          get_or-append_right cells (run k) i 0 h ∙ run_other k (i - length cells) (λ m. n (omega arith)) ∙ sym (get_or-eq_default cells 0 h)

  -- All cells are bits, with the run too.
  pub run_bits : ((i : ℕ) → listed cells i < 2) → (i : ℕ) → listed (cells ++ run k) i < 2
  run_bits f i = go (eqb i (length cells + k)) refl
    where
      go : (b : Bool) → eqb i (length cells + k) ≡ b → listed (cells ++ run k) i < 2
      go true e = subst (λ (x : ℕ). x < 2) (sym (ap (listed (cells ++ run k)) (eqb-true _ _ e) ∙ run_there)) (omega arith)
      go false e = subst (λ (x : ℕ). x < 2) (sym (run_elsewhere i (eqb-false _ _ e))) (f i)

  -- A run behind the cells is a 1 in the image.
  pub run_more : (bytes : ℕ) → ((i : ℕ) → listed cells i < 2) → length cells + k < 8 * bytes
      → with_one (octets (listed cells) 0 bytes) (length cells + k) ≡ octets (listed (cells ++ run k)) 0 bytes
  run_more bytes f h =
      one_more (listed cells) f (listed (cells ++ run k)) (length cells + k) (get_or-eq_default cells 0 (omega arith)) run_there run_elsewhere bytes h

-- ---- the first cell

zeros : (c : ℕ → ℕ) (p k : ℕ) → ((i : ℕ) → p ≤ i → c i ≡ 0) → octets c p k ≡ replicate k 0
unfolding octets octet
zeros c p zero f = refl
zeros c p (suc k) f =
    ap₂ ◌∷◌
    (rw (
      f p (omega arith),
      f (p + 1) (omega arith),
      f (p + 2) (omega arith),
      f (p + 3) (omega arith),
      f (p + 4) (omega arith),
      f (p + 5) (omega arith),
      f (p + 6) (omega arith),
      f (p + 7) (omega arith),
    ))
    (zeros c (p + 8) k (λ i h. f i (omega arith)))

-- A first byte with the first cell alone, and zeros behind it, are the image of that cell.
first_one : (k : ℕ) → 128 ∷ replicate k 0 ≡ octets (listed (1 ∷ [])) 0 (suc k)
unfolding octets octet
first_one k = ap (λ (xs : List ℕ). 128 ∷ xs) (sym (zeros (listed (1 ∷ [])) 8 k (λ i l. get_or-eq_default (1 ∷ []) 0 {n = i} (omega arith))))

-- The first byte is put, and the part behind it comes back cleared.
pub begun : (image cleared : List ℕ) → 1 ≤ length image
    → cleared ≡ replicate (length (take (length (set image 0 128) - 1) (drop 1 (set image 0 128)))) 0
    → put_mid 1 (length (set image 0 128) - 1) (set image 0 128) cleared ≡ octets (listed (1 ∷ [])) 0 (length image)
begun [] cleared h e = absurd (omega arith)
begun (x ∷ xs) cleared h e =
    let k : suc (length xs) - 1 ≡ length xs = omega arith in
    let part : cleared ≡ replicate (length (take (length xs) xs)) 0 = rw k at e in
    let long : cleared ≡ replicate (length xs) 0 = part ∙ ap (λ (ys : List ℕ). replicate (length ys) 0) (take-length xs) in
    rw (k, drop-length xs) (ap (λ (ys : List ℕ). 128 ∷ ys) (append-nil cleared ∙ long) ∙ first_one (length xs))
