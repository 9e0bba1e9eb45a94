-- A rewrite that is cut: the image that the first of its stores leave (01, "Rewriting a sector"). It is the first image with these stores made,
-- one after the other, and nothing else.
use Rattle.std.specs.Prelude.{List, [], ◌∷◌, ℕ, take}
use Rattle.layouts.specs.declared.Layout.{Layout}
use Rattle.marks.specs.declared.Mark.{Mark}
use Rattle.rewrite.specs.Stores.{stored, stores}
use Rattle.rewrite.specs.declared.Store.{Store}

-- The image after these stores, first to last.
unfoldable pub stored_all : List ℕ → List Store → List ℕ
stored_all image [] = image
stored_all image (store ∷ rest) = stored_all (stored image store) rest

module _ (l : Layout) (image : List ℕ) (place : ℕ) (mark : Mark) (contents : List ℕ) where
  -- What is left of a rewrite that is cut after j stores.
  unfoldable pub cut : ℕ → List ℕ
  cut j = stored_all image (take j (stores l image place mark contents))

  -- What a rewrite leaves that is not cut.
  unfoldable pub finished : List ℕ
  finished = stored_all image (stores l image place mark contents)
