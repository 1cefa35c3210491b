use Rattle.std.proofs.Common.{rules}
use Rattle.std.specs.Prelude.{nat_lt}
use Rattle.std.proofs.lemmas.List.Sorted.{IsPartitionPoint-from_clause}
use Rattle.index_check.proofs.Runs.{parted, parts_at}
use Rattle.index_check.proofs.chunk_messages.count_below.Goals as goal

pub returns-clause-parts : goal.returns-clause-parts
returns-clause-parts c =
    let point = IsPartitionPoint-from_clause (λ m. nat_lt m.channel c.args.bound) _ _ c.partition_point.ensures.partitioned (parted c.args.messages.now c.args.bound c.requires) (λ a r q k. search rules) in
    parts_at c.args.messages.now c.args.bound c.partition_point.result point.0 point.1
