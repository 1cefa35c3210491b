use Rattle.std.proofs.Common.{refl}
use Rattle.rec_index.specs.Parsed.{chunk_index_fields}
use Rattle.summary_read.proofs.Answered.{yes, no}
use Rattle.summary_read.proofs.records.is_chunk_index.Goals as goal

pub returns-in-Ok : goal.returns-in-Ok
returns-in-Ok c = yes (chunk_index_fields c.in-Ok.field-0, record { kind = refl; layout = c.in-Ok.ensures.shown })

pub returns-in-Err : goal.returns-in-Err
returns-in-Err c = no (λ is. c.in-Err.ensures.none is.0 is.1.layout)
