-- The bands: what tells that an interval is in one of them. They do not overlap, as each begins above the end of the one before.
use Rattle.std.proofs.Common.{◌≡◌, ℕ, ◌*◌, ◌<◌, ◌≤◌, arith, le-leb}
use borrow.Author.Tests.{lt-leb}
use Rattle.flux.specs.Intervals.{within, band}

module _ (T H I : ℕ) where
  pub two : 160 * T ≤ 100 * I * H → 100 * I * H ≤ 240 * T → band T H I ≡ 2
  unfolding band within
  two a b = rw (le-leb _ _ a, le-leb _ _ b)

  pub three : 260 * T ≤ 100 * I * H → 100 * I * H ≤ 330 * T → 240 * T < 100 * I * H → band T H I ≡ 3
  unfolding band within
  three a b above =
      rw (le-leb (160 * T) (100 * I * H) (omega arith), lt-leb _ _ above, le-leb _ _ a, le-leb _ _ b)

  pub four : 370 * T ≤ 100 * I * H → 100 * I * H ≤ 450 * T → 330 * T < 100 * I * H → band T H I ≡ 4
  unfolding band within
  four a b above =
      rw (
        le-leb (160 * T) (100 * I * H) (omega arith),
        lt-leb (100 * I * H) (240 * T) (omega arith),
        le-leb (260 * T) (100 * I * H) (omega arith),
        lt-leb _ _ above,
        le-leb _ _ a,
        le-leb _ _ b,
      )
