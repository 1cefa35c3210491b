use Rattle.std.proofs.Common.{take}
use Rattle.mcap_model.specs.Fields.{IsChannel}
use Rattle.command_read.specs.Writing.{ShowIds}
use Rattle.command_read.proofs.channels.channel_ids.Given as goal

abbrev pub invariant-channels : goal.invariant-channels
invariant-channels l = ShowIds IsChannel (take l.i l.loaded.channels) l.ids.items
