-- Words of bits through the register: what the functions inside this crate say of each other. No promise needs them. Assumes
-- nothing.
use Rattle.std.specs.Prelude.{ℕ, zero, suc, ◌/◌, ◌%◌, ◌^◌}
use Rattle.edc.specs.Register.{bit_entered}

-- the k lowest bits of a word entered, the highest of them first, as the bytes enter that stand in it (004, 4.7)
unfoldable pub word_entered : ℕ → ℕ → ℕ → ℕ
word_entered r zero w = r
word_entered r (suc k) w = word_entered (bit_entered r (w / 2 ^ k % 2)) k w

-- the register that a word of 64 bits stands for: what it leaves where all positions were ZERO. Many words stand for one register
unfoldable pub stands_for : ℕ → ℕ
stands_for w = word_entered 0 64 w
