use Rattle.std.proofs.Common.{refl}
use Rattle.rec_data.specs.Parsed.{message_fields}
use Rattle.mcap_model.specs.Made.{top}
use Rattle.file_check.proofs.Counting.{counted_message}
use Rattle.file_check.proofs.record_counts.RecordCounts.take_message.Goals as goal

pub returns-in-Ok : goal.returns-in-Ok
returns-in-Ok c = λ records was few.
    let message = c.in-Ok.message in
    counted_message records (top 5 c.args.content.now) c.args.self.now c.hear.new.self c.add.new.self message.channel_id (message_fields message) was
    (record { kind = refl; layout = c.in-Ok.ensures.shown }) few c.in_ok-add-in-Ok.ensures c.hear.ensures
