use Rattle.summary_read.proofs.Answered.{no}
use Rattle.summary_read.proofs.ends.is_header.Goals as goal

pub returns-in-Err : goal.returns-in-Err
returns-in-Err c = no (λ is. c.in-Err.ensures.none (record { profile = is.profile; library = is.library }) is.layout)
