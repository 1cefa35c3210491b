use Rattle.std.specs.List.{AllAdjacentBelow}
use Rattle.mcap_model.specs.Plain.{NotBehind}
use Rattle.mcap_model.proofs.replaying.is_in_order.Given as goal

abbrev pub invariant-messages : goal.invariant-messages
invariant-messages l = AllAdjacentBelow NotBehind l.shown l.i
