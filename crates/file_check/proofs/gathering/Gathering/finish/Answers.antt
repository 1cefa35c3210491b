use Rattle.file_check.proofs.Finished.{data_section, chunks_unnamed, attachments_unnamed, metadata_unnamed}
use Rattle.file_check.proofs.gathering.Gathering.finish.Goals as goal

pub returns : goal.returns
returns c = λ tops was good ended known.
    let tops_are = was.tops_are in
    let kept = tops_are.indexed in
    let (section, is) = data_section tops good ended in
    record {
      tables = known.tables;
      chunks = kept.chunks;
      chunks_unnamed = chunks_unnamed tops c.args.self.tops.indexed.chunks.spots kept.fresh_chunks.unnamed good;
      attachments = kept.attachments;
      attachments_unnamed = attachments_unnamed tops c.args.self.tops.indexed.attachments.spots kept.fresh_attachments.unnamed good;
      metadata = kept.metadata;
      metadata_unnamed = metadata_unnamed tops c.args.self.tops.indexed.metadata.spots kept.fresh_metadata.unnamed good;
      section = section;
      is = is;
      tally = known.tally section is;
      schemas = was.counts.schemas;
      channels = was.counts.channels;
      at_top = tops_are.at_top;
      behind = known.behind;
    }
