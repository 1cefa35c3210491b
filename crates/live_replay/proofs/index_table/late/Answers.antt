use Rattle.std.proofs.Common.{refl}
use Rattle.std.specs.Prelude.{nat_le}
use Rattle.live_replay.proofs.IndexTables.{tail_late, still_rise}
use Rattle.live_replay.proofs.index_table.late.Goals as goal

pub returns-clause-late : goal.returns-clause-late
returns-clause-late c = tail_late c.args.entries.now _ c.count_before-from.result c.args.time refl c.count_before-from.ensures.late

pub returns-clause-rises : goal.returns-clause-rises
returns-clause-rises c =
    still_rise (λ e. nat_le c.args.time e.time) c.args.entries.now _ c.requires
    (tail_late c.args.entries.now _ c.count_before-from.result c.args.time refl c.count_before-from.ensures.late)
