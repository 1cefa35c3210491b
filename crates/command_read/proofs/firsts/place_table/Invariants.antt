use Rattle.std.proofs.Common.{◌≡◌, take, length}
use Rattle.command_read.specs.IdTables.{IsPlaceTable}
use Rattle.command_read.proofs.firsts.place_table.Given as goal

abbrev pub invariant-ids : goal.invariant-ids
invariant-ids l = (length l.table.items ≡ 65536) × IsPlaceTable (take l.i l.ids) l.table.items
