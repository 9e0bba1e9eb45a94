-- Where a block is that the walk locates: it lies within the image, with its mark and its bytes.
use mathlib.Core.Path.{◌≡◌}
use mathlib.Core.List.{List, [], ◌∷◌}
use Prim.Native.Nat.{ℕ, ◌+◌, ◌≤◌}
use Rattle.layouts.specs.declared.Track.{Track}
use Rattle.layouts.specs.Layouts.{block_cells}
use Rattle.walk.specs.Walk.{events}
use Rattle.walk.specs.Events.{blocks}
use Rattle.locate.specs.Outcomes.{located}
use Rattle.walk.specs.declared.Block.{Block}
use Rattle.walk.specs.declared.Block.TheVariants.{Missing, Beyond, Within}
use Rattle.locate.specs.declared.Located.TheVariants.{Single}
use Rattle.verdicts.proofs.Tests.{clash}
use Rattle.walk.proofs.Walking.{AllWhole, blocks_whole}

module _ (t : Track) (c : ℕ → ℕ) (n : ℕ) where
  located_fits : (m : ℕ) (bs : List Block) → AllWhole t c n bs → located bs ≡ Single (Within m) → m + block_cells t.layout ≤ n
  unfolding located
  located_fits m [] h e = absurd (clash cc)
  located_fits m (Missing ∷ []) h e = absurd (clash cc)
  located_fits m (Beyond k ∷ []) h e = absurd (clash cc)
  located_fits m (Within k ∷ []) h e = let f : m ≡ k = cc in rw f h.0.0
  located_fits m (x ∷ y ∷ bs) h e = absurd (clash cc)

  -- A located block ends within the image.
  pub located_within : (s m : ℕ) → located (blocks s (events t c n)) ≡ Single (Within m) → m + block_cells t.layout ≤ n
  located_within s m e = located_fits m (blocks s (events t c n)) (blocks_whole t c n s) e
