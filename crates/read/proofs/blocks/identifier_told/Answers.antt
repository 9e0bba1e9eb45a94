-- `identifier_told` meets its contract, block by block.
use mathlib.Core.Path.{subst}
use Prim.Native.Nat.{◌*◌}
use lib.ListN.{length}
use Rattle.cells.specs.Cells.{cell}
use Rattle.walk.specs.Turns.{Placed}
use Rattle.answers.specs.declared.Fault.TheVariants.{NoBlock, PastEnd}
use Rattle.read.proofs.Answering.{leaves_refused, is_missing, is_beyond, is_within}
use Rattle.read.proofs.blocks.identifier_told.Goals as goal

pub block_told-requires : goal.block_told-requires
block_told-requires c =
    let s = c.requires in
    let image = c.args.image.bytes.now in
    (s.0, s.1, subst (Placed c.args.track.layout.mode (cell image) (8 * length image)) c.in-Within.is s.2)

pub returns-in-Missing : goal.returns-in-Missing
returns-in-Missing c =
    leaves_refused NoBlock _ (is_missing _ _ _ _ c.in-Missing.is) c.blockless.ensures
    c.requires.1

pub returns-in-Beyond : goal.returns-in-Beyond
returns-in-Beyond c =
    leaves_refused PastEnd _ (is_beyond _ _ _ _ _ c.in-Beyond.is) c.blockless-in-Beyond.ensures
    c.requires.1

pub returns-in-Within : goal.returns-in-Within
returns-in-Within c =
    is_within _ _ _ _ _ c.in-Within.is c.block_told.ensures
