use Rattle.summary_read.proofs.Answered.{no}
use Rattle.summary_read.proofs.records.is_metadata_index.Goals as goal

pub returns-in-Err : goal.returns-in-Err
returns-in-Err c = no (λ is. c.in-Err.ensures.none (record { offset = is.0; size = is.1; name = is.2 }) is.3.layout)
