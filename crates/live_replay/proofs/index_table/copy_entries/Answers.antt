use Rattle.live_replay.proofs.IndexTables.{copied_more}
use Rattle.live_replay.proofs.index_table.copy_entries.Goals as goal

pub entries-preserved : goal.entries-preserved
entries-preserved c = copied_more c.args.entries.now c.entries.i c.item-time.result c.entries.copied.items c.push.new.self.items c.item-time.ensures c.entries.invariant c.in-Ok.ensures.items
