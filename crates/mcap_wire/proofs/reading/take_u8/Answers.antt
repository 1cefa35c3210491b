use Rattle.std.proofs.Common.{rules}
use Rattle.mcap_wire.proofs.Fields.{byte_read}
use Rattle.mcap_wire.proofs.reading.take_u8.Goals as goal

pub returns-in-len1-up : goal.returns-in-len1-up
returns-in-len1-up c =
    byte_read c.args.content.now c.args.at c.rest_from.result.now (λ i. search rules) c.requires c.rest_from.ensures c.in-len1-up.len_at_least
