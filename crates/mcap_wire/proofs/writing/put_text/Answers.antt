use Rattle.std.proofs.Common.{rules}
use Rattle.mcap_wire.proofs.writing.put_text.Goals as goal

pub returns-in_err-make_room-clause-err : goal.returns-in_err-make_room-clause-err
returns-in_err-make_room-clause-err c = search rules

pub returns-in_err-make_room-clause-full : goal.returns-in_err-make_room-clause-full
returns-in_err-make_room-clause-full c = search rules

pub returns-clause-ok : goal.returns-clause-ok
returns-clause-ok c = search rules
