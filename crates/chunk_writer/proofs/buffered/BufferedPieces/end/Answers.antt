use Rattle.std.proofs.Common.{}
use Rattle.chunk_writer.proofs.Uncut.{starts_uncut, ends_uncut}
use Rattle.chunk_writer.proofs.Fronts.{begins_front, ends_front}
use Rattle.chunk_writer.proofs.buffered.BufferedPieces.end.Goals as goal

pub record-requires : goal.record-requires
record-requires c = starts_uncut c.args.self.now.full.now.records c.args.at (begins_front c.args.self.now.full.now.records c.args.self.now.count c.args.at c.requires)

pub returns : goal.returns
returns c = ends_front c.args.self.now.full.now.records c.args.self.now.count c.args.at c.record.result.next
    (ends_uncut c.args.self.now.full.now.records c.args.at c.record.result.next c.record.result.framed.now c.record.ensures)
