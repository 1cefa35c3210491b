use Rattle.std.proofs.Common.{refl}
use Rattle.chunk_writer.proofs.scribe.Scribe.append_block.Goals as goal

pub returns-in-Ok-clause-appends : goal.returns-in-Ok-clause-appends
returns-in-Ok-clause-appends g c = rw (c.entry_of-entry.ensures.extent_is, ← c.as_slice.ensures) c.in-Ok.ensures.appends

pub returns-in-Ok-clause-entry : goal.returns-in-Ok-clause-entry
returns-in-Ok-clause-entry g c =
    let e = c.entry_of-entry.ensures in
    record { extent_is = refl; offset_is = e.offset_is; chunk = e.chunk; start = e.start; end = e.end; counted = e.counted; declaring = e.declaring }
