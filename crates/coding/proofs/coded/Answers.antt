-- `coded` meets its contract: the two halves of the sixteen cells are the two image bytes.
use Rattle.std.proofs.Common.{◌≡◌, ℕ, List, get_or, ap, ap₂, arith}
use Rattle.coding.proofs.Coding.{high_lt, low_lt}
use Rattle.coding.specs.Coding.{high, low}
use Rattle.coding.specs.declared.Pair.{Pair}
use Rattle.coding.proofs.coded.Goals as goal

pub returns : goal.returns
returns c =
    let a = c.args in
    let bytes = c.to_be_bytes.result in
    let byte = λ (i : ℕ). ap (λ (xs : List ℕ). get_or xs i 0) c.to_be_bytes.ensures in
    let h : get_or bytes 0 0 ≡ high a.mode a.before a.byte = omega (arith, byte 0, high_lt a.mode a.before a.byte, low_lt a.mode a.byte) in
    let l : get_or bytes 1 0 ≡ low a.mode a.byte = omega (arith, byte 1, low_lt a.mode a.byte) in
    ap₂ {C = Pair} (λ x y. record { first = x; second = y }) h l
