-- `put_count` meets its contract: the four bytes are stored where they are lent.
use mathlib.Core.Path.{ap, ◌∙◌}
use mathlib.Core.List.{List}
use Prim.Native.Nat.{ℕ, ◌+◌}
use native.Mathlib.Omega.{arith}
use lib.ListN.{take, drop}
use Rattle.cells.proofs.Stores.{part_put}
use Rattle.file.specs.Sections.{four_bytes}
use Rattle.file.proofs.writing.put_count.Goals as goal

pub returns : goal.returns
unfolding four_bytes
returns c =
    let a = c.args in
    let lent = c.copy_from_slice.ensures.after ∙ ap (λ (l : List ℕ). take 4 (drop 4 l)) c.to_be_bytes.ensures in
    part_put a.area.now _ (four_bytes a.count) a.at (a.at + 4) lent (omega arith) c.requires
