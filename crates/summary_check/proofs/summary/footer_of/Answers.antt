use Rattle.summary_check.proofs.summary.footer_of.Goals as goal

pub returns-in-Err : goal.returns-in-Err
returns-in-Err c = λ summary offsets crc is. c.in-Err.ensures.none _ is.layout
