-- `wide_window` meets its contract: the fourth byte falls away.
use Rattle.std.proofs.Common.{◌≡◌, ℕ, ◌+◌, ◌-◌, ◌*◌, ◌/◌, ◌%◌, ◌^◌, ap, ◌∙◌, arith}
use Rattle.cells.proofs.Joined.{fourth_falls}
use Rattle.cells.proofs.wide_window.Goals as goal

pub returns : goal.returns
returns c =
    let a = c.args in
    let x = a.first * 65536 + a.second * 256 + a.third in
    let all : c.from_be_bytes-all.result ≡ x * 256 + a.fourth = omega (arith, c.from_be_bytes-all.ensures) in
    ap (λ (w : ℕ). w / 2 ^ (16 - a.shift) % 65536) all ∙ ap (λ (w : ℕ). w % 65536) (fourth_falls x a.fourth a.shift (omega arith) (omega arith))
