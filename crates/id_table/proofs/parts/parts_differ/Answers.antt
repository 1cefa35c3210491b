use Rattle.mcap_wire.specs.contracts.sameness.TextPartialEq.TheImpl as text_impl
use Rattle.mcap_wire.specs.contracts.sameness.PairsPartialEq.TheImpl as map_impl
use Rattle.id_table.proofs.Sameness.{text_decides, map_decides}
use Rattle.id_table.proofs.Places.{each_once}
use Rattle.id_table.proofs.parts.parts_differ.Goals as goal

pub returns-clause-texts : goal.returns-clause-texts
returns-clause-texts c = each_once text_impl.ghosts.eq text_decides c.args.parts.now.texts.keys c.len-texts.ensures.unique

pub returns-clause-maps : goal.returns-clause-maps
returns-clause-maps c = each_once map_impl.ghosts.eq map_decides c.args.parts.now.maps.keys c.len-maps.ensures.unique
