use Rattle.std.proofs.Common.{refl}
use Rattle.chunk_build.proofs.Taking.{still_used}
use Rattle.chunk_build.proofs.row.ready_row.Goals as goal

pub returns-in-Err-clause-sound : goal.returns-in-Err-clause-sound
returns-in-Err-clause-sound c = record {
  rise = c.requires.rise;
  used = still_used _ _ c.args.rows.now.list.items c.args.rows.now.list.items c.reserve.ensures.items refl c.requires.used;
}

pub returns-clause-sound : goal.returns-clause-sound
returns-clause-sound c = record {
  rise = c.row_for.ensures.rise;
  used = still_used _ _ c.args.rows.now.list.items c.row_for.new.rows.items c.reserve.ensures.items c.row_for.ensures.same c.requires.used;
}
