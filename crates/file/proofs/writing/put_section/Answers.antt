-- `put_section` meets its contract: the count, and what it counts.
use Rattle.file.proofs.Putting.{section_sets}
use Rattle.file.proofs.writing.put_section.Goals as goal

pub returns-clause-written : goal.returns-clause-written
returns-clause-written c =
    section_sets c.args.width c.args.area.now _ _ c.args.held.now c.args.at c.put_count.ensures c.copy_from_slice.ensures.after c.requires.1
