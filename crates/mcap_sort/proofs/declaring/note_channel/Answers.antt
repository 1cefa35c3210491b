use Rattle.std.proofs.Common.{refl}
use Rattle.rec_data.specs.Parsed.{channel_fields}
use Rattle.rec_data.proofs.OwnedReading.{channel_refused}
use Rattle.mcap_model.specs.Made.{top}
use Rattle.mcap_model.proofs.ShownMessages.{ok_then}
use Rattle.mcap_sort.proofs.Declared.{notes_absurd, channel_noted}
use Rattle.mcap_sort.proofs.declaring.note_channel.Goals as goal

pub returns-in-Ok : goal.returns-in-Ok
returns-in-Ok c =
    let r = c.in-Ok.channel in
    ok_then c.note_first.result c.note_first.ensures (λ notes. channel_noted c.args.tables.now _ c.args.content.now r.id (channel_fields r) c.in-Ok.ensures.shown notes refl)

pub returns-in-Err : goal.returns-in-Err
returns-in-Err c = notes_absurd c.args.tables.now c.args.tables.now (top 4 c.args.content.now) refl (channel_refused c.args.content.now c.in-Err.ensures.none)
