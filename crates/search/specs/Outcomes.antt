-- What each public function of this crate promises.
use Rattle.std.specs.Prelude.{List, ◌≡◌, ℕ, ◌*◌, length}
use Rattle.cells.specs.Cells.{cell}
use Rattle.cells.specs.declared.Mode.{Mode}
use Rattle.search.specs.Search.{standing, first_mark, Found}
use Rattle.search.specs.declared.Kinds.{Kinds}

-- `mark_at` answers which mark of the kinds a byte of the image begins, with its place, or that none does.
abbrev pub IsMarkAt : Mode → Kinds → List ℕ → (byte : ℕ) → Found → Type 0
IsMarkAt mode kinds image byte answer = answer ≡ standing mode (cell image) (8 * length image) kinds (8 * byte)

-- `find` answers the first mark of the kinds from one cell of the image up to another, with its place, or that there is none.
abbrev pub IsFirstMark : Mode → Kinds → List ℕ → ℕ → ℕ → Found → Type 0
IsFirstMark mode kinds image from to answer = answer ≡ first_mark mode (cell image) (8 * length image) kinds from to
