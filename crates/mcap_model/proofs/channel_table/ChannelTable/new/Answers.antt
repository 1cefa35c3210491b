use Rattle.mcap_model.proofs.ChannelTables.{no_channels}
use Rattle.mcap_model.proofs.channel_table.ChannelTable.new.Goals as goal

pub invariant_of-result : goal.invariant_of-result
invariant_of-result c = no_channels c.new.result c.new.ensures
