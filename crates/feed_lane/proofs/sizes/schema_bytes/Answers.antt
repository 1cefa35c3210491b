use Rattle.std.proofs.Common.{refl}
use Rattle.rec_data.proofs.OwnedLengths.{schema_len}
use Rattle.history_ids.proofs.Definitions.{schema_made}
use Rattle.feed_lane.proofs.sizes.schema_bytes.Goals as goal

pub returns-clause-size : goal.returns-clause-size
returns-clause-size c =
    let s = c.args.schema.now in
    schema_len 0 (schema_made s.name.now s.encoding.now s.payload.now) _ _ _ refl refl refl
