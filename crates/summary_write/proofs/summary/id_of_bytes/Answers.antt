use Rattle.chunk_build.proofs.Marks.{has_head}
use Rattle.summary_write.proofs.Framed.{id_there, id_not_refused}
use Rattle.summary_write.proofs.summary.id_of_bytes.Goals as goal

pub take_u16-requires : goal.take_u16-requires
take_u16-requires c = has_head c.args.bytes.now c.requires.0 c.requires.1.framed

pub returns-in-Ok : goal.returns-in-Ok
returns-in-Ok c r is = id_there c.args.bytes.now r _ _ is c.in-Ok.ensures

pub unreachable-requires : goal.unreachable-requires
unreachable-requires c = id_not_refused c.args.bytes.now c.requires.0 _ c.requires.1 c.in-Err.ensures
