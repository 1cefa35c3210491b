use Rattle.std.proofs.Common.{◌≡◌, ◌++◌, length}
use Rattle.mcap_model.specs.Walk.{walk_at, walk_rest}
use Rattle.mcap_scan.specs.Heads.{heads_in}
use Rattle.mcap_scan.proofs.Listed.{heads_ahead}
use Rattle.mcap_scan.proofs.message_heads.list_heads.Given as goal

abbrev pub decreases-records : goal.decreases-records
decreases-records l = length (walk_rest l.walk)

-- the heads that are to be listed are those that are, and those of what is in front
abbrev pub invariant-records : goal.invariant-records
invariant-records l = l.fn.heads.items ++ heads_in l.records ≡ l.heads.items ++ heads_ahead (walk_at l.walk) (walk_rest l.walk)
