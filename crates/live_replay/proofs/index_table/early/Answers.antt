use Rattle.std.specs.Prelude.{nat_lt}
use Rattle.live_replay.proofs.IndexTables.{still_rise}
use Rattle.live_replay.proofs.index_table.early.Goals as goal

pub returns-clause-rises : goal.returns-clause-rises
returns-clause-rises c = still_rise (λ e. nat_lt e.time c.args.time) c.args.entries.now _ c.requires c.count_before-to.ensures.early
