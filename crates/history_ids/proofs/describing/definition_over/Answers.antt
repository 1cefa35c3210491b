use Rattle.std.proofs.Common.{length, ap, arith}
use Rattle.history_ids.proofs.Definitions.{channel_made, channel_lengths, pairs_length, source_shows}
use Rattle.history_ids.proofs.describing.definition_over.Goals as goal

pub returns-in-Ok-schema_of-clause-describes : goal.returns-in-Ok-schema_of-clause-describes
returns-in-Ok-schema_of-clause-describes c = λ records are kept.
    let s = c.in-Ok.channel in
    record {
      shown = channel_made s.schema_id s.topic.now s.message_encoding.now s.metadata;
      known = source_shows records c.args.tables.now c.args.source s.id s.schema_id c.in-Some.content.now s.topic.now s.message_encoding.now s.metadata are c.in-Some.ensures c.in-Ok.ensures.shown;
      topic = c.in-Ok-copied.ensures;
      encoding = c.in-Ok-copied-2.ensures;
      metadata = c.in-Ok-sorted.ensures;
      schema = c.in-Ok-schema_of.ensures.shows records are kept;
    }

pub returns-in-Ok-schema_of-clause-fits : goal.returns-in-Ok-schema_of-clause-fits
returns-in-Ok-schema_of-clause-fits c =
    let s = c.in-Ok.channel in
    let lengths = channel_lengths c.in-Some.content.now s.id s.schema_id s.topic.now s.message_encoding.now s.metadata c.in-Ok.ensures.shown in
    record {
      schema = c.in-Ok-schema_of.ensures.fits;
      topic = omega (arith, lengths.0, ap length c.in-Ok-copied.ensures);
      encoding = omega (arith, lengths.1, ap length c.in-Ok-copied-2.ensures);
      metadata = omega (arith, lengths.2, pairs_length s.metadata c.in-Ok-sorted.metadata c.in-Ok-sorted.ensures);
    }
