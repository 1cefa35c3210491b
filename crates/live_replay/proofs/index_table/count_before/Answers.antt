use Rattle.std.proofs.Common.{rules}
use Rattle.std.specs.Prelude.{nat_lt}
use Rattle.std.proofs.lemmas.List.Sorted.{IsPartitionPoint-from_clause}
use Rattle.live_replay.proofs.IndexTables.{parted, split_by_time}
use Rattle.live_replay.proofs.index_table.count_before.Goals as goal

pub returns-clause-early : goal.returns-clause-early
returns-clause-early c =
    let point = IsPartitionPoint-from_clause (λ e. nat_lt e.time c.args.time) _ _ c.partition_point.ensures.partitioned (parted c.args.entries.now c.args.time c.requires) (λ a r q k. search rules) in
    (split_by_time c.args.entries.now c.args.time c.partition_point.result point.0 point.1 c.partition_point.ensures.bound).0

pub returns-clause-late : goal.returns-clause-late
returns-clause-late c =
    let point = IsPartitionPoint-from_clause (λ e. nat_lt e.time c.args.time) _ _ c.partition_point.ensures.partitioned (parted c.args.entries.now c.args.time c.requires) (λ a r q k. search rules) in
    (split_by_time c.args.entries.now c.args.time c.partition_point.result point.0 point.1 c.partition_point.ensures.bound).1
