-- Two marks do not overlap by all but one to seven cells: the beginning that all marks but the index mark share does not stand one to
-- seven cells behind the first cell of such a mark.
use mathlib.Core.Path.{◌≡◌, refl, ap, ◌∙◌}
use mathlib.Core.Bool.{false}
use mathlib.Core.List.{List, [], ◌∷◌, ◌++◌}
use Prim.Native.Nat.{ℕ, zero, suc, ◌+◌, ◌-◌, ◌*◌, ◌/◌, ◌%◌, ◌<◌}
use native.Mathlib.Nat.{add-zero, add_assoc}
use native.Mathlib.Omega.{arith}
use lib.Dec.{T}
use lib.ListN.{length, get_or}
use Rattle.cells.specs.Cells.{octet}
use Rattle.cells.specs.declared.Mode.{Mode}
use Rattle.cells.specs.declared.Mode.TheVariants.{Fm, Mfm}
use Rattle.marks.specs.Marks.{string, last_byte, stands}
use Rattle.marks.specs.declared.Mark.{Mark}
use Rattle.marks.specs.declared.Mark.TheVariants.{Index, Identifier, Data, Control, Open}
use Rattle.marks.proofs.Spelling.{Stand, stands_bytes, is_false}
use Rattle.search.proofs.Searching.{searchable}

-- The beginning that the marks share: all but the last byte, which tells them apart.
abbrev pub start : Mode → List ℕ
start Fm = 0xF5 ∷ []
start Mfm = 0x44 ∷ 0x89 ∷ 0x44 ∷ 0x89 ∷ 0x44 ∷ 0x89 ∷ 0x55 ∷ []

pub string_parts : (mode : Mode) (mark : Mark) → T (searchable mark) → string mode mark ≡ start mode ++ (last_byte mode mark ∷ [])
unfolding last_byte
string_parts mode Index t = absurd t
string_parts Fm Identifier t = refl
string_parts Fm Data t = refl
string_parts Fm Control t = refl
string_parts Fm Open t = refl
string_parts Mfm Identifier t = refl
string_parts Mfm Data t = refl
string_parts Mfm Control t = refl
string_parts Mfm Open t = refl

-- The cells of d from q on are those of c from p on, k of them.
abbrev pub Same : (ℕ → ℕ) → ℕ → (ℕ → ℕ) → ℕ → ℕ → Type 0
Same d q c p k = (j : ℕ) → j < k → d (q + j) ≡ c (p + j)

octet_move : (d : ℕ → ℕ) (q : ℕ) (c : ℕ → ℕ) (p : ℕ) → Same d q c p 8 → octet d q ≡ octet c p
unfolding octet
octet_move d q c p h =
    cc (add-zero q, add-zero p, h 0 (omega arith), h 1 (omega arith), h 2 (omega arith), h 3 (omega arith), h 4 (omega arith), h 5 (omega arith), h 6 (omega arith), h 7 (omega arith))

-- What stands in some cells stands where the same cells are.
pub stand_move : (d : ℕ → ℕ) (q : ℕ) (c : ℕ → ℕ) (p : ℕ) (bs : List ℕ) → Same d q c p (8 * length bs) → Stand c p bs → Stand d q bs
stand_move d q c p [] h s = tt
stand_move d q c p (b ∷ bs) h s = (
  octet_move d q c p (λ j l. h j (omega arith)) ∙ s.0,
  stand_move d (q + 8) c (p + 8) bs (λ j l. simp add_assoc (h (8 + j) (omega arith))) s.1,
)

-- A byte's cells.
record Bits (c : ℕ → ℕ) (p b : ℕ) : Type 0 where
  b0 : c p ≡ b / 128
  b1 : c (p + 1) ≡ b / 64 % 2
  b2 : c (p + 2) ≡ b / 32 % 2
  b3 : c (p + 3) ≡ b / 16 % 2
  b4 : c (p + 4) ≡ b / 8 % 2
  b5 : c (p + 5) ≡ b / 4 % 2
  b6 : c (p + 6) ≡ b / 2 % 2
  b7 : c (p + 7) ≡ b % 2

octet_bits : (c : ℕ → ℕ) → ((i : ℕ) → c i < 2) → (p b : ℕ) → octet c p ≡ b → Bits c p b
unfolding octet
octet_bits c h p b e = go (h p) (h (p + 1)) (h (p + 2)) (h (p + 3)) (h (p + 4)) (h (p + 5)) (h (p + 6)) (h (p + 7))
  where
    go : c p < 2 → c (p + 1) < 2 → c (p + 2) < 2 → c (p + 3) < 2 → c (p + 4) < 2 → c (p + 5) < 2 → c (p + 6) < 2 → c (p + 7) < 2 → Bits c p b
    go h0 h1 h2 h3 h4 h5 h6 h7 = omega arith

-- The shifts 1 to 7, one after the other, over the cells that decide.
module _ (x : ℕ → ℕ) (bits : (i : ℕ) → x i < 2) where
  clash_mfm : (s b : ℕ) → 0 < s → s < 8 → Stand x 0 (start Mfm ++ (b ∷ [])) → Stand x s (start Mfm) → ⊥
  clash_mfm s b l u e f =
      go s l u (octet_bits x bits 0 0x44 e.0) (octet_bits x bits 8 0x89 e.1.0) (octet_bits x bits 16 0x44 e.1.1.0)
      (octet_bits x bits s 0x44 f.0) (octet_bits x bits (s + 8) 0x89 f.1.0)
    where
      go : (s : ℕ) → 0 < s → s < 8 → Bits x 0 0x44 → Bits x 8 0x89 → Bits x 16 0x44 → Bits x s 0x44 → Bits x (s + 8) 0x89 → ⊥
      go zero l u a b d f g = omega arith
      go (suc zero) l u a b d f g = omega arith
      go (suc (suc zero)) l u a b d f g = omega arith
      go (suc (suc (suc zero))) l u a b d f g = omega arith
      go (suc (suc (suc (suc zero)))) l u a b d f g = omega arith
      go (suc (suc (suc (suc (suc zero))))) l u a b d f g = omega arith
      go (suc (suc (suc (suc (suc (suc zero)))))) l u a b d f g = omega arith
      go (suc (suc (suc (suc (suc (suc (suc zero))))))) l u a b d f g = omega arith
      go (suc (suc (suc (suc (suc (suc (suc (suc s)))))))) l u a b d f g = omega arith

  clash_fm : (s b : ℕ) → 0 < s → s < 8 → b / 128 ≡ 0 → Stand x 0 (start Fm ++ (b ∷ [])) → Stand x s (start Fm) → ⊥
  clash_fm s b l u z e f = go s l u (octet_bits x bits 0 0xF5 e.0) (octet_bits x bits 8 b e.1.0) (octet_bits x bits s 0xF5 f.0)
    where
      go : (s : ℕ) → 0 < s → s < 8 → Bits x 0 0xF5 → Bits x 8 b → Bits x s 0xF5 → ⊥
      go zero l u a b d = omega arith
      go (suc zero) l u a b d = omega arith
      go (suc (suc zero)) l u a b d = omega arith
      go (suc (suc (suc zero))) l u a b d = omega arith
      go (suc (suc (suc (suc zero)))) l u a b d = omega arith
      go (suc (suc (suc (suc (suc zero))))) l u a b d = omega arith
      go (suc (suc (suc (suc (suc (suc zero)))))) l u a b d = omega arith
      go (suc (suc (suc (suc (suc (suc (suc zero))))))) l u a b d = omega arith
      go (suc (suc (suc (suc (suc (suc (suc (suc s)))))))) l u a b d = omega arith

clash : (mode : Mode) (x : ℕ → ℕ) → ((i : ℕ) → x i < 2) → (s : ℕ) (mark : Mark) → 0 < s → s < 8
    → Stand x 0 (start mode ++ (last_byte mode mark ∷ [])) → Stand x s (start mode) → ⊥
unfolding last_byte
clash Mfm x h s mark l u e f = clash_mfm x h s (last_byte Mfm mark) l u e f
clash Fm x h s mark l u e f = clash_fm x h s (last_byte Fm mark) l u (low mark) e f
  where
    low : (mark : Mark) → get_or (string Fm mark) 1 0 / 128 ≡ 0
    low Index = refl
    low Identifier = refl
    low Data = refl
    low Control = refl
    low Open = refl

-- No mark stands one to seven cells before a mark's beginning.
pub stands_clear : (mode : Mode) (c : ℕ → ℕ) → ((i : ℕ) → c i < 2) → (n : ℕ) (mark : Mark) → T (searchable mark) → (p q : ℕ)
    → p < q → q < p + 8 → Stand c q (start mode) → stands mode c n mark p ≡ false
stands_clear mode c h n mark t p q l u f =
    is_false (stands mode c n mark p)
    (λ e. clash mode (λ i. c (p + i)) (λ i. h (p + i)) (q - p) mark (omega arith) (omega arith)
    (rw (← string_parts mode mark t) (stand_move (λ i. c (p + i)) 0 c p (string mode mark) (λ j _. ap c (omega arith)) (stands_bytes mode c n mark p e)))
    (stand_move (λ i. c (p + i)) (q - p) c q (start mode) (λ j _. ap c (omega arith)) f))
