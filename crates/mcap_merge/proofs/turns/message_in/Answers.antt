use Rattle.std.proofs.Common.{◌<◌, false, arith}
use Rattle.std.specs.Prelude.{◌^◌}
use Rattle.rec_data.specs.Parsed.{message_fields}
use Rattle.mcap_model.specs.Places.{At}
use Rattle.mcap_merge.proofs.Putting.{no_message}
use Rattle.mcap_merge.proofs.Sources.{mark_read}
use Rattle.mcap_merge.proofs.turns.message_in.Goals as goal

pub returns : goal.returns
returns c =
    let input = c.args.input.now in
    let message = c.in-Ok.message in
    let small : message.channel_id < 256 ^ 2 = c.in-Ok.ensures.shown.fit.0 in
    let unmarked : At input.used.items message.channel_id false = mark_read input.used.items message.channel_id c.index.result.now false c.requires (omega (arith, small)) c.index.ensures c.if-index.false in
    no_message input c.args.content.now message.channel_id (message_fields message) c.in-Ok.ensures.shown unmarked
