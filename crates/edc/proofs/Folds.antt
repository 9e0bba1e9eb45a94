-- What the code's shifts do: each is linear, and agrees at each single bit with the register, as is computed. So it agrees with it at
-- every number.
use mathlib.Core.Path.{◌≡◌, refl, sym, ◌∙◌}
use Prim.Native.Nat.{ℕ, ◌^◌, ◌<◌}
use Rattle.edc.specs.Register.{bit_entered, byte_entered}
use Rattle.edc.specs.Words.{word_entered, stands_for}
use Rattle.edc.proofs.Shifts.{Linear, after, Shifts, it, down, up, low, sum, then, made, linear, singles, agree}
use Rattle.edc.proofs.Linear.{of_word, of_zeros, byte_word}
use Rattle.edc.proofs.Words.{shifted, stands_singles, ahead_singles}

-- ---- eight shifts of the register

abbrev fed : Shifts
fed = then (down 8) (sum it (down 4))

abbrev pub moves : Shifts
moves = sum (sum (up 16 8) (then fed (up 16 12))) (sum (then fed (up 16 5)) fed)

moved_test : singles (made moves) 0 16 ≡ singles (λ r. word_entered r 8 0) 0 16
unfolding word_entered bit_entered
moved_test = refl

pub moved_eight : (r : ℕ) → r < 65536 → made moves r ≡ byte_entered r 0
moved_eight r h = agree (made moves) (λ r. word_entered r 8 0) (linear moves) (of_zeros 8) 16 moved_test r h ∙ sym (byte_word r 0)

-- ---- words

stands_linear : Linear stands_for
unfolding stands_for
stands_linear = of_word 64

-- a word that stands for a register
abbrev pub spreads : Shifts
spreads = sum (sum (up 64 48) (up 64 32)) (up 64 4)

spread_test : singles (λ r. stands_for (made spreads r)) 0 16 ≡ singles (made it) 0 16
unfolding stands_for word_entered bit_entered
spread_test = refl

pub spread_stands : (r : ℕ) → r < 65536 → stands_for (made spreads r) ≡ r
spread_stands = agree (λ r. stands_for (made spreads r)) (made it) (after (made spreads) stands_for (linear spreads) stands_linear) (linear it) 16 spread_test

-- 64 shifts of it
abbrev every : Shifts
every = sum (down 44) (then (sum (down 16) it) (sum (down 32) it))

abbrev pub folds : Shifts
folds = then every (sum it (sum (up 64 20) (up 64 48)))

folded_test : singles (λ w. stands_for (made folds w)) 0 64 ≡ shifted (word_entered 0x1021 64 0) 64
unfolding stands_for word_entered bit_entered
folded_test = refl

pub folded_stands : (w : ℕ) → w < 2 ^ 64 → stands_for (made folds w) ≡ word_entered (stands_for w) 64 0
folded_stands =
    agree (λ w. stands_for (made folds w)) (λ w. word_entered (stands_for w) 64 0) (after (made folds) stands_for (linear folds) stands_linear)
    (after stands_for (λ r. word_entered r 64 0) stands_linear (of_zeros 64)) 64 (folded_test ∙ sym ahead_singles)

-- the register that it stands for
abbrev quotient : Shifts
quotient =
    then (sum (sum (down 16) (down 11)) (sum (down 4) it))
    (then (sum (sum (down 32) (down 22)) (sum (down 8) it)) (then (sum (sum (down 44) (down 16)) it) (sum (down 32) it)))

abbrev pub reduces : Shifts
reduces = then quotient (then (sum it (sum (up 64 5) (up 64 12))) (low 16))

reduced_test : singles (made reduces) 0 64 ≡ shifted 0x1021 64
unfolding bit_entered
reduced_test = refl

pub reduced_stands : (w : ℕ) → w < 2 ^ 64 → made reduces w ≡ stands_for w
reduced_stands = agree (made reduces) stands_for (linear reduces) stands_linear 64 (reduced_test ∙ sym stands_singles)
