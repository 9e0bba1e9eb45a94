-- `table_for` meets its contract: each table computes to the bytes of the marks that it counts.
use mathlib.Core.Bool.{true, false}
use Rattle.cells.specs.declared.Mode.TheVariants.{Fm, Mfm}
use Rattle.cells.proofs.Table.{table_at}
use Rattle.search.proofs.Begins.{begins, rules_of, fits_all, fits_identifiers}
use Rattle.search.proofs.tables.table_for.Goals as goal

pub returns-then-kinds : goal.returns-then-kinds
returns-then-kinds c = rw c.in-Fm.is (λ byte h. rules_of Fm true _ (fits_all _) byte _ h (table_at (begins Fm true) 256 byte h))

pub returns-else-kinds : goal.returns-else-kinds
returns-else-kinds c =
    rw c.in-Fm.is (λ byte h. rules_of Fm false _ (fits_identifiers _ c.if-kinds.false) byte _ h (table_at (begins Fm false) 256 byte h))

pub returns-in-Mfm : goal.returns-in-Mfm
returns-in-Mfm c = rw c.in-Mfm.is (λ byte h. rules_of Mfm true _ (fits_all _) byte _ h (table_at (begins Mfm true) 256 byte h))
