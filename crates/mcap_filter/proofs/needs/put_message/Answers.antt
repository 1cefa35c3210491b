use Rattle.std.proofs.Common.{subst}
use Rattle.record_keeping.specs.Keeping.{IsFrame}
use Rattle.mcap_filter.proofs.needs.put_message.Goals as goal

pub keep_message-requires-clause-is : goal.keep_message-requires-clause-is
keep_message-requires-clause-is g c = subst (IsFrame 5 c.args.content.now) c.in-Some.is c.requires.framed
