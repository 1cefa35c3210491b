use Rattle.std.proofs.Common.{rules}
use Rattle.mcap_wire.proofs.Fields.{number_from}
use Rattle.mcap_wire.proofs.reading.take_u16.Goals as goal

pub returns : goal.returns
returns c =
    number_from 2 c.args.content.now c.args.at c.rest_from-rest.result.now c.read_u16.result (λ i. search rules) c.requires c.rest_from-rest.ensures (search rules) c.read_u16.ensures
