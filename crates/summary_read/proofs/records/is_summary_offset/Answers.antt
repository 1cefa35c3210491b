use Rattle.summary_read.proofs.Answered.{no}
use Rattle.summary_read.proofs.records.is_summary_offset.Goals as goal

pub returns-in-Err : goal.returns-in-Err
returns-in-Err c = no (λ is. c.in-Err.ensures.none (record { op = is.0; offset = is.1; size = is.2 }) is.3.layout)
