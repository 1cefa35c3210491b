use Rattle.command_read.proofs.Places.{ArePlacesBelow}
use Rattle.command_read.proofs.firsts.first_places.Given as goal

abbrev pub invariant-table : goal.invariant-table
invariant-table l = ArePlacesBelow l.fn.ids l.id l.places.items
