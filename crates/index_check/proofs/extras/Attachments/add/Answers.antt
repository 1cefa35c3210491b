use Rattle.std.proofs.Common.{length, refl}
use Rattle.rec_data.specs.Parsed.{attachment_fields}
use Rattle.mcap_model.specs.Made.{top}
use Rattle.index_check.specs.declared.extras.AttachmentNote.{AttachmentNote}
use Rattle.index_check.proofs.Indexed.{attachments_more}
use Rattle.index_check.proofs.extras.Attachments.add.Goals as goal

pub returns-in-Ok-push-clause-kept : goal.returns-in-Ok-push-clause-kept
returns-in-Ok-push-clause-kept c = λ tops content are there size shows.
    let a = c.args.attachment.now in
    let note : AttachmentNote = record { length = c.args.length; log_time = a.log_time; create_time = a.create_time; payload_length = length a.payload.now; name = c.in-Ok.name; media_type = c.in-Ok-copied.media_type } in
    attachments_more tops (top 9 content) c.args.offset note c.args.self.now (record { spots = c.add.new.self; notes = c.push.new.self }) are there
    (record {
      shown = attachment_fields a;
      is = record { kind = refl; layout = shows };
      size = size;
      log_time = refl;
      create_time = refl;
      payload_size = refl;
      name = c.in-Ok.ensures;
      media_type = c.in-Ok-copied.ensures;
    })
    c.in-Ok-add.ensures.ok c.in-Ok-push.ensures.items
