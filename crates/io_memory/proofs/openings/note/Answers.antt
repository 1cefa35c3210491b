-- The entry at that place is the newest that is out, and it alone is changed.
use Rattle.std.proofs.Common.{sym, ◌∙◌}
use Rattle.io_memory.proofs.Noting.{noted_there}
use Rattle.io_memory.proofs.openings.note.Goals as goal

pub returns-in-Some : goal.returns-in-Some
returns-in-Some c =
    let (before, behind, entry, is, place, out, none) = c.in-Some.ensures in
    noted_there c.args.log.now.items before behind entry _ c.args.kind c.args.name.now c.in-Some.at c.args.kept c.index_mut.ensures.value (sym c.deref.ensures.value ∙ is) place out none
