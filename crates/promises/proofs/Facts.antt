-- The facts hold, by computing the list.
use mathlib.Core.List.{List, [], ◌∷◌}
use mathlib.Core.Path.{◌≡◌, refl}
use Prim.Native.Nat.{ℕ}
use Rattle.cells.specs.Cells.{clock}
use Rattle.coding.specs.Coding.{four, high, low}
use Rattle.edc.specs.Register.{edc_of, bytes_entered, byte_entered, bit_entered}
use Rattle.format.specs.Order.{track, sectors, sector, block, run, bytes, checked, image}
use Rattle.layouts.specs.Layouts.{fields, sector_fields}
use Rattle.rewrite.specs.Stores.{stores, storing, coding}
use Rattle.promises.specs.Facts.{Fact, facts, Hold}

-- Two columns that compute to the same hold fact by fact.
abbrev computed : List Fact → List (List ℕ)
computed [] = []
computed (fact ∷ facts) = fact.computed ∷ computed facts

abbrev expected : List Fact → List (List ℕ)
expected [] = []
expected (fact ∷ facts) = fact.expected ∷ expected facts

columns : (facts : List Fact) → computed facts ≡ expected facts → Hold facts
columns [] e = tt
columns (fact ∷ facts) e = (cc, columns facts (cc))

pub hold : Hold facts
unfolding facts clock four high low fields sector_fields track sectors sector block run bytes checked image edc_of bytes_entered byte_entered bit_entered stores storing coding
hold = columns facts refl
