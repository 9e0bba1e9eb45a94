-- `mark_at` meets its contract: past the image's end no mark stands.
use mathlib.Core.Path.{sym}
use Rattle.search.proofs.Searching.{standing_beyond}
use borrow.Author.Rules.{rules}
use Rattle.search.proofs.mark_at.Goals as goal

pub returns-then-image-at : goal.returns-then-image-at
returns-then-image-at c = sym (standing_beyond _ _ _ _ _ (search rules))
