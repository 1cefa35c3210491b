use Rattle.std.proofs.Common.{List, refl, sym, subst}
use Rattle.rec_index.specs.Parsed.{chunk_index_fields}
use Rattle.index_check.specs.declared.chunk_indexes.ChunkNote.{ChunkNote}
use Rattle.index_check.specs.Spots.{FitsNamed}
use Rattle.index_check.specs.Chunks.{IsOfChunk}
use Rattle.index_check.proofs.Numbered.{chunk_right, right_chunk, chunks_kept, chunks_named}
use Rattle.index_check.proofs.chunk_indexes.Chunks.take_index.Goals as goal

pub returns-clause-right : goal.returns-clause-right
returns-clause-right c = λ tops n are named.
    let same = c.deref.ensures.value in
    let fits = λ (l : List ChunkNote). FitsNamed (λ note. IsOfChunk note (chunk_index_fields c.args.index.now)) l c.name-naming.result in (
      λ e. chunk_right tops n c.args.self.now c.name-naming.new.self (chunk_index_fields c.args.index.now) c.name-naming.result are named c.name-naming.ensures (subst fits same (c.fits_chunk.ensures.0 e)),
      λ right. c.fits_chunk.ensures.1 (subst fits (sym same) (right_chunk tops n c.args.self.now c.name-naming.new.self (chunk_index_fields c.args.index.now) c.name-naming.result are named c.name-naming.ensures right)),
    )

pub returns-clause-kept : goal.returns-clause-kept
returns-clause-kept c = λ tops are. chunks_kept tops c.args.self.now (record { spots = c.name-naming.new.self; notes = c.args.self.now.notes; places = c.fits_chunk.new.places }) c.args.index.now.chunk_start_offset c.name-naming.result are c.name-naming.ensures refl

pub returns-clause-named : goal.returns-clause-named
returns-clause-named c = λ tops n t named at is. chunks_named tops n t c.args.self.now.spots c.name-naming.new.self (chunk_index_fields c.args.index.now) c.name-naming.result named at is c.name-naming.ensures
