use Rattle.std.specs.List.{AllAdjacentBelow}
use Rattle.index_check.specs.Messages.{ByChannelNotBehind}
use Rattle.index_check.proofs.chunk_messages.is_in_order.Given as goal

abbrev pub invariant-messages : goal.invariant-messages
invariant-messages l = AllAdjacentBelow ByChannelNotBehind l.messages l.i
