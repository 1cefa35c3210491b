use Rattle.std.proofs.Common.{refl, sym, inl, inr, ◌∙◌}
use Rattle.rec_data.specs.Parsed.{attachment_fields}
use Rattle.mcap_model.specs.Fields.{IsAttachment}
use Rattle.mcap_model.specs.Made.{top}
use Rattle.mcap_model.proofs.Attachments.{attachment_right, attachment_wrong}
use Rattle.mcap_model.proofs.contents.attachment_breaks.Goals as goal

pub returns-in-Err : goal.returns-in-Err
returns-in-Err c = inl (refl, λ f is. c.in-Err.ensures.none f is.layout)

pub returns-in-Err-attachment_crc_place : goal.returns-in-Err-attachment_crc_place
returns-in-Err-attachment_crc_place c = inl (refl, λ f is. c.in-Err-attachment_crc_place.ensures.none f is.layout)

pub returns-then-attachment-eq0 : goal.returns-then-attachment-eq0
returns-then-attachment-eq0 c =
    let a = c.in-Ok.attachment in
    let f = attachment_fields a in
    let is : IsAttachment (top 9 c.args.content.now) f = record { kind = refl; layout = c.in-Ok.ensures.shown } in
    ((f, is), attachment_right c.args.content.now f c.in-Ok-attachment_crc_place.place is c.in-Ok-attachment_crc_place.ensures.place (inl c.if-attachment-eq0.true))

pub returns-then-attachment-crc_of : goal.returns-then-attachment-crc_of
returns-then-attachment-crc_of c =
    let a = c.in-Ok.attachment in
    let f = attachment_fields a in
    let is : IsAttachment (top 9 c.args.content.now) f = record { kind = refl; layout = c.in-Ok.ensures.shown } in
    ((f, is), attachment_right c.args.content.now f c.in-Ok-attachment_crc_place.place is c.in-Ok-attachment_crc_place.ensures.place (inr (c.if-attachment-crc_of.true ∙ c.crc_of.ensures)))

pub returns : goal.returns
returns c =
    let a = c.in-Ok.attachment in
    let f = attachment_fields a in
    let is : IsAttachment (top 9 c.args.content.now) f = record { kind = refl; layout = c.in-Ok.ensures.shown } in
    inr (refl, attachment_wrong c.args.content.now f c.in-Ok-attachment_crc_place.place is c.in-Ok-attachment_crc_place.ensures.place c.if-attachment-eq0.false (λ e. c.if-attachment-crc_of.false (e ∙ sym c.crc_of.ensures)))
