use Rattle.std.proofs.Common.{◌≡◌, ℕ, ◌+◌, List, ◌++◌, length, refl, sym, ap, ◌∙◌}
use Rattle.std.proofs.lemmas.Result.{on_ok_weaker}
use Rattle.mcap_wire.specs.Layout.{framed}
use Rattle.mcap_wire.proofs.Framing.{length-framed}
use Rattle.rec_data.specs.Parsed.{attachment_fields}
use Rattle.rec_index.specs.Fields.{AttachmentIndexFields}
use Rattle.rec_index.specs.Records.{attachment_index_text}
use Rattle.mcap_model.specs.Tops.{Top, top_bytes}
use Rattle.mcap_model.specs.Fields.{AttachmentFields}
use Rattle.mcap_model.proofs.ExtraIndexes.{attachment_read_back}
use Rattle.summary_write.proofs.extras.add_attachment_index.Goals as goal

sized : ℕ → AttachmentFields → ℕ → AttachmentIndexFields
sized at f k = record { offset = at; size = k; log_time = f.log_time; create_time = f.create_time; payload_size = length f.payload; name = f.name; media_type = f.media_type }

pub returns-in-Ok-clause-ok : goal.returns-in-Ok-clause-ok
unfolding sized
returns-in-Ok-clause-ok c =
    let content = c.args.content.now in
    let t : Top = record { op = 9; content = content } in
    let f = attachment_fields c.in-Ok.attachment in
    let size : length (top_bytes t) ≡ 9 + length content = length-framed 9 content in
    let text = attachment_read_back c.args.at t f (record { kind = refl; layout = c.in-Ok.ensures.shown }) ∙ ap (λ (k : ℕ). attachment_index_text (sized c.args.at f k)) size in
    on_ok_weaker c.frame.result (λ ok. ok ∙ ap (λ (l : List ℕ). c.args.framed.now.items ++ framed 10 l) (sym text)) c.frame.ensures.ok

pub unreachable-requires : goal.unreachable-requires
unreachable-requires c = c.in-Err.ensures.none c.requires.meets.0 c.requires.meets.1
