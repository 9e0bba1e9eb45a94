-- `sixteen` meets its contract: its masks and shifts compute to the definition at the 256 bytes, in FM and in MFM after a ZERO. After a ONE
-- the first clock cell of MFM is 0.
use borrow.Author.Rules.{rules}
use mathlib.Core.Bool.{Bool}
use mathlib.Core.Path.{◌≡◌, ap, ap₂, sym, ◌∙◌}
use Prim.Native.Nat.{ℕ, ◌+◌, ◌*◌, ◌/◌, ◌%◌, ◌<◌}
use native.Mathlib.Omega.{arith}
use lib.Bits.{bit_and, bit_or, bit_xor}
use lib.Dec.{eqb, eqb→eq}
use Rattle.cells.proofs.Table.{all_at}
use Rattle.coding.proofs.Coding.{low_lt, high_one}
use Rattle.cells.specs.Cells.{clock}
use Rattle.coding.specs.Coding.{four, high, low}
use Rattle.cells.specs.declared.Mode.{Mode}
use Rattle.cells.specs.declared.Mode.TheVariants.{Fm, Mfm}
use Rattle.coding.proofs.sixteen.Goals as goal

-- The two image bytes, joined.
abbrev joined : Mode → ℕ → ℕ → ℕ
joined mode a x = high mode a x * 256 + low mode x

-- One step of setting the bits apart, as the code takes it.
abbrev step : ℕ → ℕ → ℕ → ℕ
step shift mask x = bit_and (bit_or x (x * shift % 65536)) mask

abbrev apart : ℕ → ℕ
apart x = step 2 0x5555 (step 4 0x3333 (step 16 0x0F0F x))

abbrev fm : ℕ → ℕ
fm x = bit_or (apart x) 0xAAAA

abbrev mfm : ℕ → ℕ
mfm x = bit_or (apart x) (bit_xor (bit_and (bit_or (apart x * 2 % 65536) (apart x / 2)) 0xAAAA) 0xAAAA)

fm_right : ℕ → Bool
fm_right x = eqb (fm x) (joined Fm 0 x)

mfm_right : ℕ → Bool
mfm_right x = eqb (mfm x) (joined Mfm 0 x)

fm_cells : (a x : ℕ) → x < 256 → fm x ≡ joined Fm a x
unfolding fm_right high low four clock
fm_cells a x h = eqb→eq (fm x) (joined Fm 0 x) (all_at fm_right 256 tt x h)

mfm_cells : (x : ℕ) → x < 256 → mfm x ≡ joined Mfm 0 x
unfolding mfm_right high low four clock
mfm_cells x h = eqb→eq (mfm x) (joined Mfm 0 x) (all_at mfm_right 256 tt x h)

after_one : (a x : ℕ) → x < 256 → (a ≡ 0 → ⊥) → mfm x % 32768 ≡ joined Mfm a x
after_one a x h o =
    let e : (high Mfm 0 x * 256 + low Mfm x) % 32768 ≡ high Mfm 0 x % 128 * 256 + low Mfm x = omega (arith, low_lt Mfm x) in
    ap (λ (n : ℕ). n % 32768) (mfm_cells x h) ∙ e ∙ rw (high_one a x o)

pub returns-then-before-eq0 : goal.returns-then-before-eq0
returns-then-before-eq0 c =
    let a = c.args in
    mfm_cells a.byte (search rules)
    ∙ ap₂ (λ (m : Mode) (b : ℕ). joined m b a.byte) (sym c.in-Mfm.is) (sym c.if-before-eq0.true)

pub returns-in-Fm : goal.returns-in-Fm
returns-in-Fm c =
    let a = c.args in
    fm_cells a.before a.byte (search rules) ∙ ap (λ (m : Mode). joined m a.before a.byte) (sym c.in-Fm.is)

pub returns-else-before-eq0 : goal.returns-else-before-eq0
returns-else-before-eq0 c =
    let a = c.args in
    after_one a.before a.byte (search rules) c.if-before-eq0.false ∙ ap (λ (m : Mode). joined m a.before a.byte) (sym c.in-Mfm.is)
