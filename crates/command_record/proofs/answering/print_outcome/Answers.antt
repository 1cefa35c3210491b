-- A report has a text.
use Rattle.std.proofs.Common.{inl, inr}
use Rattle.command_record.proofs.Answered.{takes_report}
use Rattle.command_record.proofs.answering.print_outcome.Goals as goal

pub returns-in-Ok : goal.returns-in-Ok
returns-in-Ok g c = takes_report _ _ _ _ c.in-Some.is (inl c.in-Ok.ensures)

pub returns-in-Err : goal.returns-in-Err
returns-in-Err g c = takes_report _ _ _ _ c.in-Some.is (inr c.in-Err.ensures)
