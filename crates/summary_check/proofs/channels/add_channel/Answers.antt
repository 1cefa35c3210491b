use Rattle.std.proofs.Common.{rules}
use Rattle.rec_data.specs.Parsed.{channel_fields}
use Rattle.mcap_model.specs.Made.{top}
use Rattle.mcap_model.proofs.ShownMessages.{ok_then}
use Rattle.summary_check.proofs.Repeating.{declared_other, declared_once}
use Rattle.summary_check.proofs.channels.add_channel.Goals as goal

pub returns-in-Channel : goal.returns-in-Channel
returns-in-Channel c =
    let t = top c.args.op c.args.content.now in
    let channel = c.in-Channel.channel in
    ok_then c.add_once.result c.add_once.ensures
    (λ adds before was. declared_once before t channel.id (channel_fields channel) c.args.ids.now c.add_once.new.self was (record { kind = c.in-Channel.ensures.0; layout = c.in-Channel.ensures.1 }) adds)

pub returns-in_default : goal.returns-in_default
returns-in_default c = λ before was.
    declared_other before (top c.args.op c.args.content.now) c.args.ids.now was (λ id f is. let kind = is.kind in search rules)
