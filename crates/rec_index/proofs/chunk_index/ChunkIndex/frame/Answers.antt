use Rattle.std.proofs.Common.{◌+◌, length, arith}
use Rattle.rec_index.specs.Parsed.{chunk_index_fields}
use Rattle.rec_index.proofs.MapContents.{chunk_index_framed}
use Rattle.rec_index.proofs.chunk_index.ChunkIndex.frame.Goals as goal

pub returns-clause-ok : goal.returns-clause-ok
returns-clause-ok c =
    let self = c.args.self.now in
    rw (
      c.add_u64-7.ensures.items,
      c.add_u64-6.ensures.items,
      c.add_text.ensures.items,
      c.add_u64-5.ensures.items,
      c.add_counts.ensures.items,
      c.add_u64-4.ensures.items,
      c.add_u64-3.ensures.items,
      c.add_u64-2.ensures.items,
      c.add_u64.ensures.items,
      c.add_head.ensures.items,
      c.make_room.ensures.items,
    )
    (chunk_index_framed c.args.out.now.items (64 + c.byte_len.result + length self.compression.now) (chunk_index_fields self) (omega (arith, c.byte_len.ensures)))
