use Rattle.std.proofs.Common.{refl}
use Rattle.rec_index.specs.Parsed.{chunk_fields}
use Rattle.rec_index.proofs.Contents.{chunk_framed}
use Rattle.rec_index.proofs.chunk.Chunk.frame.Goals as goal

pub returns-clause-ok : goal.returns-clause-ok
returns-clause-ok c =
    let self = c.args.self.now in
    rw (
      c.add_bytes64.ensures.items,
      c.add_text.ensures.items,
      c.add_u32.ensures.items,
      c.add_u64-3.ensures.items,
      c.add_u64-2.ensures.items,
      c.add_u64.ensures.items,
      c.add_head.ensures.items,
      c.make_room.ensures.items,
    )
    (chunk_framed _ _ (chunk_fields self) refl)
