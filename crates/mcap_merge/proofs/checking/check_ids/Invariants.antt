use Rattle.std.proofs.Common.{List}
use Rattle.mcap_merge.specs.Inputs.{HoldInputs}
use Rattle.mcap_merge.specs.ReadInputs.{Read, read_tops}
use Rattle.mcap_merge.proofs.SeenContents.{ContentsSeen}
use Rattle.mcap_merge.proofs.checking.check_ids.Given as goal

abbrev pub invariant-channels : goal.invariant-channels
invariant-channels l = (reads : List Read) → HoldInputs reads l.inputs → ContentsSeen (read_tops reads) l.place l.table
