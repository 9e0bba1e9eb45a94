-- What `coded` promises.
use Rattle.std.specs.Prelude.{◌≡◌, ℕ}
use Rattle.cells.specs.declared.Mode.{Mode}
use Rattle.coding.specs.Coding.{coded_byte}
use Rattle.coding.specs.declared.Pair.{Pair}

-- `coded` answers the two image bytes of a byte after the bit before it.
abbrev pub IsCoded : Mode → ℕ → ℕ → Pair → Type 0
IsCoded mode before byte answer = answer ≡ coded_byte mode before byte
