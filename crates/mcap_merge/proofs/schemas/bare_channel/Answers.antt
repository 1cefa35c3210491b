use Rattle.mcap_merge.proofs.SeenSchemas.{bare_is}
use Rattle.mcap_merge.proofs.schemas.bare_channel.Goals as goal

pub returns : goal.returns
returns c = bare_is c.args.schema c.in-Ok.topic c.in-Ok-copied.message_encoding c.of.result c.in-Ok-sorted.metadata c.in-Ok.ensures c.in-Ok-copied.ensures c.of.ensures c.in-Ok-sorted.ensures
