use Rattle.std.proofs.Common.{rules}
use Rattle.rec_data.proofs.header.Header.frame.Goals as goal

pub returns-in_err-make_room-clause-full : goal.returns-in_err-make_room-clause-full
returns-in_err-make_room-clause-full c = search rules
