use Rattle.std.proofs.Common.{sym, subst, arith}
use Rattle.rec_index.specs.Parsed.{chunk_index_fields}
use Rattle.mcap_model.specs.Places.{At}
use Rattle.mcap_model.proofs.Places.{at_read}
use Rattle.index_check.specs.declared.chunk_indexes.ChunkNote.{ChunkNote}
use Rattle.index_check.specs.Chunks.{IsOfChunk}
use Rattle.index_check.proofs.Numbered.{first_named}
use Rattle.index_check.proofs.chunk_indexes.fits_chunk.Goals as goal

pub returns-in-First : goal.returns-in-First
returns-in-First c =
    let x = c.index-notes-place.result in
    first_named (λ (note : ChunkNote). IsOfChunk note (chunk_index_fields c.args.index.now)) c.args.notes.now c.args.naming c.in-First.place x c.is_of_chunk.result c.in-First.is
    (subst (At c.args.notes.now c.in-First.place) (sym c.index-notes-place.is) (at_read c.args.notes.now c.in-First.place x (omega arith))) c.is_of_chunk.ensures
