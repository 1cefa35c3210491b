use Rattle.mcap_wire.specs.contracts.sameness.PairsPartialEq.TheImpl as it
use Rattle.id_table.proofs.Sameness.{map_decides}
use Rattle.id_table.proofs.Places.{found_at}
use Rattle.id_table.proofs.parts.place_of_map.Goals as goal

pub returns : goal.returns
returns c = found_at it.ghosts.eq map_decides c.args.set.now.keys c.args.map.now c.get_index_of.result c.get_index_of.ensures.index
