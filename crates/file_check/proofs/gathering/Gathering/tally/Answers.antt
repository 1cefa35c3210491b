use Rattle.std.proofs.Common.{arith}
use Rattle.file_check.proofs.Finished.{tallied, counts_are}
use Rattle.file_check.proofs.gathering.Gathering.tally.Goals as goal

pub returns : goal.returns
returns c = λ tops section was is good.
    let g = c.args.self.now in
    let counts = was.counts in
    let tops_are = was.tops_are in
    let kept = tops_are.indexed in
    tallied tops section _ counts.channels_of g.counts.schemas g.counts.channels is good counts.messages
    (omega (arith, c.len.ensures, g.tops.indexed.attachments.notes.ok.0, kept.attachments.notes.paired, kept.fresh_attachments.many))
    (omega (arith, c.len-2.ensures, g.tops.indexed.metadata.notes.ok.0, kept.metadata.notes.paired, kept.fresh_metadata.many))
    (omega (arith, c.len-3.ensures, g.tops.indexed.chunks.notes.ok.0, kept.chunks.notes.paired, kept.fresh_chunks.many))
    counts.times counts.are_channels (counts_are g.counts.by_channel counts.channels_of c.in-Ok.counts.items counts.by_channel c.in-Ok.ensures)
    counts.schemas counts.channels c.len-schemas.ensures c.len-schemas.ensures c.len-channels.ensures c.len-channels.ensures
