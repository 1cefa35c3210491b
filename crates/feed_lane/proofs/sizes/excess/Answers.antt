use Rattle.std.proofs.Common.{refl, arith}
use Rattle.std.proofs.lemmas.List.Sorted.{IsPermutation-refl}
use Rattle.history_ids.proofs.Definitions.{channel_made, source_shows}
use Rattle.feed_lane.proofs.sizes.excess.Goals as goal

pub returns-clause-size : goal.returns-clause-size
returns-clause-size c = λ records are.
    let s = c.in-Ok.channel in
    let first = c.in-Some-schema_len.ensures.size records are in
    record {
      content = record { topic = s.topic.now; message_encoding = s.message_encoding.now; metadata = s.metadata; schema = first.schema };
      describes = record {
        shown = channel_made s.schema_id s.topic.now s.message_encoding.now s.metadata;
        known = source_shows records c.args.tables.now c.args.source s.id s.schema_id c.in-Some.content.now s.topic.now s.message_encoding.now s.metadata are c.in-Some.ensures c.in-Ok.ensures.shown;
        topic = refl;
        encoding = refl;
        metadata = IsPermutation-refl s.metadata;
        schema = first.shown;
      };
      size = omega (arith, first.size, c.channel_bytes.ensures.size);
    }
