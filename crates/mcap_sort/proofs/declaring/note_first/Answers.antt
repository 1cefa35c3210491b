use Rattle.std.proofs.Common.{inl, refl}
use Rattle.mcap_sort.proofs.Declared.{noted_new}
use Rattle.mcap_sort.proofs.declaring.note_first.Goals as goal

pub returns-in-Some : goal.returns-in-Some
returns-in-Some c = let (k, d, at, ids, same) = c.in-Some.ensures in inl ((k, d, at, ids), refl)

pub returns-in-None : goal.returns-in-None
returns-in-None c = noted_new c.add.result c.args.table.now c.add.new.self c.args.id c.args.content.now c.in-None.ensures c.add.ensures.ok
