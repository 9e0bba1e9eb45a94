-- `entry` meets its contract: on a byte boundary the image's byte is the octet.
use borrow.Author.Rules.{rules}
use Rattle.cells.proofs.Joined.{aligned}
use Rattle.search.proofs.tables.entry.Goals as goal

pub returns : goal.returns
returns c =
    let a = c.args in
    rw (aligned a.image.now a.at ((c.type_inv.image _).fits) ((c.type_inv.image _).fits)) (search rules)
