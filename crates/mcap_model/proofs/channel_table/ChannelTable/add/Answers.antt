use Rattle.mcap_model.proofs.ChannelTables.{still_channels}
use Rattle.mcap_model.proofs.channel_table.ChannelTable.add.Goals as goal

pub invariant_of-self : goal.invariant_of-self
invariant_of-self c =
    let (f, shown) = c.requires.shown in
    still_channels c.self.inside.first c.add.new.self (record { id = c.args.id; content = c.args.content.now }) c.add.result c.add.ensures.ok c.add.ensures.err c.self.invariant f shown
