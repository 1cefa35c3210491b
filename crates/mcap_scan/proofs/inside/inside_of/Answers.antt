use Rattle.std.proofs.Common.{arith}
use Rattle.rec_index.specs.Parsed.{chunk_fields}
use Rattle.mcap_scan.proofs.ChunkRecords.{chunk_lies}
use Rattle.mcap_scan.proofs.inside.inside_of.Goals as goal

pub returns-in-Ok : goal.returns-in-Ok
returns-in-Ok c = chunk_lies c.args.op c.args.content.now (chunk_fields c.in-Ok.chunk) c.if-op-ne-CHUNK.false c.in-Ok.ensures.shown

pub returns-in-Err : goal.returns-in-Err
returns-in-Err c = record {
  begins = omega arith;
  ends = omega arith;
  records = λ v6.
      let shown = v6.chunk c.if-op-ne-CHUNK.false in
      let is = shown.1 in
      absurd (c.in-Err.ensures.none shown.0 is.layout);
}
