use Rattle.std.proofs.Common.{rules}
use Rattle.rec_index.proofs.summary_offset.SummaryOffset.frame.Goals as goal

pub returns-in_err-make_room-clause-full : goal.returns-in_err-make_room-clause-full
returns-in_err-make_room-clause-full c = search rules
