use Rattle.std.proofs.Common.{◌+◌, take, sym, subst}
use Rattle.rec_data.specs.Parsed.{channel_fields}
use Rattle.mcap_model.specs.Fields.{IsChannel}
use Rattle.command_read.specs.Writing.{ShowIds}
use Rattle.command_read.proofs.Shown.{ids_more}
use Rattle.command_read.proofs.channels.channel_ids.Goals as goal

pub channels-preserved : goal.channels-preserved
channels-preserved c =
    let channels = c.args.loaded.now.channels in
    let given = c.channel.ensures in
    subst (ShowIds IsChannel (take (c.channels.i + 1) channels)) (sym c.in-Ok.ensures.items)
    (ids_more IsChannel channels c.channels.ids.items c.channels.i given.0 c.channel.result.id (channel_fields c.channel.result) given.1 given.2 c.channels.invariant)
