-- `next_record` meets its contract: the first identifier decides, a second one doubles.
use mathlib.Core.Path.{refl, sym, ◌∙◌}
use Prim.Native.Nat.{◌*◌}
use lib.ListN.{length}
use Rattle.cells.specs.Cells.{cell}
use Rattle.answers.specs.Answers.{no_place}
use Rattle.answers.specs.declared.Fault.TheVariants.{Doubled}
use Rattle.read.proofs.Answering.{leaves_refused, gives_placed, place_small, is_placed, is_first, is_more}
use Rattle.read.proofs.blocks.next_record.Goals as goal

pub place_of-requires : goal.place_of-requires
place_of-requires c =
    let image = c.args.image.bytes.now in
    place_small c.args.track (cell image) (8 * length image) c.args.block c.requires.2

pub returns-then-is_unmet : goal.returns-then-is_unmet
returns-then-is_unmet c =
    gives_placed _ (is_first _ _ _ _ _ _ c.is_unmet.ensures c.if-is_unmet.true) c.identifier_told-told.ensures
    (c.place_of.ensures ∙ sym (is_placed _ _ _ _))

pub returns : goal.returns
returns c =
    let told = leaves_refused {place = no_place} Doubled _ refl c.blockless-told.ensures c.requires.1 in
    gives_placed _ (is_more _ _ _ _ _ _ c.is_unmet.ensures c.if-is_unmet.false) told refl
