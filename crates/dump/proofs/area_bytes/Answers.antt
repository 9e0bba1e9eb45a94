-- `area_bytes` meets its contract: the area of every layout fits.
use mathlib.Core.Path.{sym, subst}
use Prim.Native.Nat.{◌≤◌}
use borrow.Author.Rules.{rules}
use Rattle.layouts.specs.declared.Layout.{Layout}
use Rattle.layouts.proofs.Layouts.{every_layout}
use Rattle.dump.proofs.area_bytes.Goals as goal

-- The area of the layout fits into the program's.
abbrev Fits : Layout → Type 0
Fits l = l.area_bytes ≤ 8192

pub returns : goal.returns
returns c =
    subst Fits (sym c.layout_of.ensures) (every_layout Fits (search rules) (search rules) (search rules) (search rules) c.args.layout)
