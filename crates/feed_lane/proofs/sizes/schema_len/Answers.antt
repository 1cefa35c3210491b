use Rattle.std.specs.Prelude.{Some}
use Rattle.history_ids.specs.FeedContents.{definition_of}
use Rattle.history_ids.proofs.Definitions.{shows_def}
use Rattle.feed_lane.proofs.sizes.schema_len.Goals as goal

pub returns-in-Ok-clause-size : goal.returns-in-Ok-clause-size
returns-in-Ok-clause-size c = λ records are.
    let s = c.in-Ok.schema in
    record {
      schema = Some (definition_of s.name.now s.encoding.now s.payload.now);
      shown = shows_def records c.args.tables.now c.args.id s.id c.in-Some.content.now s.name.now s.encoding.now s.payload.now are c.in-Some.ensures c.in-Ok.ensures.shown;
      size = c.schema_bytes.ensures.size;
    }
