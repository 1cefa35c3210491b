use Rattle.std.proofs.Common.{rules, ◌≡◌, subst, inl, inr, Err}
use Rattle.mcap_wire.specs.Reading.{NumberFails, ReadsNumber, TextAt, TextFails, ReadsText, BytesAt, BytesFail, ReadsBytes}
use Rattle.mcap_wire.specs.Layout.{NumberAt}
use Rattle.rec_data.proofs.Contents.{attachment_none, attachment_read}
use Rattle.rec_data.proofs.attachment.Attachment.read.Goals as goal

pub returns-in_err-log_time-clause-none : goal.returns-in_err-log_time-clause-none
returns-in_err-log_time-clause-none c = attachment_none c.args.content.now c.from_residual.result (search rules)

pub returns-in_err-create_time-clause-none : goal.returns-in_err-create_time-clause-none
returns-in_err-create_time-clause-none c = attachment_none c.args.content.now c.from_residual-in_err-create_time.result (search rules)

pub returns-in_err-name-clause-none : goal.returns-in_err-name-clause-none
returns-in_err-name-clause-none c = attachment_none c.args.content.now c.from_residual-in_err-name.result (search rules)

pub returns-in_err-media_type-clause-first_fault : goal.returns-in_err-media_type-clause-first_fault
returns-in_err-media_type-clause-first_fault c =
    let content = c.args.content.now in
    let first : NumberAt 8 content 0 c.in_ok-log_time.log_time c.in_ok-log_time.at = subst (ReadsNumber 8 content 0) c.in_ok-log_time.ensures.ok c.take_u64.ensures in
    let second : NumberAt 8 content c.in_ok-log_time.at c.in_ok-create_time.create_time c.in_ok-create_time.at = subst (ReadsNumber 8 content c.in_ok-log_time.at) c.in_ok-create_time.ensures.ok c.take_u64-2.ensures in
    let third : TextAt content c.in_ok-create_time.at c.in_ok-name.name.now c.in_ok-name.at = subst (ReadsText content c.in_ok-create_time.at) c.in_ok-name.ensures.ok c.take_text.ensures in
    let bad = c.in_err-media_type.field-0.0 in
    let fails : TextFails content c.in_ok-name.at bad.why = subst (ReadsText content c.in_ok-name.at) c.in_err-media_type.ensures.err.1 c.take_text-2.ensures in
    let is : c.from_residual-in_err-media_type.result ≡ Err bad = search rules in
    rw is (inr (_, _, first, inr (_, _, second, inr (_, _, third, inl (c.in_err-media_type.ensures.err.0, fails)))))

pub returns-in_err-media_type-clause-none : goal.returns-in_err-media_type-clause-none
returns-in_err-media_type-clause-none c = attachment_none c.args.content.now c.from_residual-in_err-media_type.result (returns-in_err-media_type-clause-first_fault c)

pub returns-in_err-payload-clause-first_fault : goal.returns-in_err-payload-clause-first_fault
returns-in_err-payload-clause-first_fault c =
    let content = c.args.content.now in
    let first : NumberAt 8 content 0 c.in_ok-log_time.log_time c.in_ok-log_time.at = subst (ReadsNumber 8 content 0) c.in_ok-log_time.ensures.ok c.take_u64.ensures in
    let second : NumberAt 8 content c.in_ok-log_time.at c.in_ok-create_time.create_time c.in_ok-create_time.at = subst (ReadsNumber 8 content c.in_ok-log_time.at) c.in_ok-create_time.ensures.ok c.take_u64-2.ensures in
    let third : TextAt content c.in_ok-create_time.at c.in_ok-name.name.now c.in_ok-name.at = subst (ReadsText content c.in_ok-create_time.at) c.in_ok-name.ensures.ok c.take_text.ensures in
    let fourth : TextAt content c.in_ok-name.at c.in_ok-media_type.media_type.now c.in_ok-media_type.at = subst (ReadsText content c.in_ok-name.at) c.in_ok-media_type.ensures.ok c.take_text-2.ensures in
    let bad = c.in_err-payload.field-0.0 in
    let fails : BytesFail 8 content c.in_ok-media_type.at bad.why = subst (ReadsBytes 8 content c.in_ok-media_type.at) c.in_err-payload.ensures.err.1 c.take_bytes64.ensures in
    let is : c.from_residual-in_err-payload.result ≡ Err bad = search rules in
    rw is (inr (_, _, first, inr (_, _, second, inr (_, _, third, inr (_, _, fourth, inl (c.in_err-payload.ensures.err.0, fails))))))

pub returns-in_err-payload-clause-none : goal.returns-in_err-payload-clause-none
returns-in_err-payload-clause-none c = attachment_none c.args.content.now c.from_residual-in_err-payload.result (returns-in_err-payload-clause-first_fault c)

pub returns-in_err-crc-clause-first_fault : goal.returns-in_err-crc-clause-first_fault
returns-in_err-crc-clause-first_fault c =
    let content = c.args.content.now in
    let first : NumberAt 8 content 0 c.in_ok-log_time.log_time c.in_ok-log_time.at = subst (ReadsNumber 8 content 0) c.in_ok-log_time.ensures.ok c.take_u64.ensures in
    let second : NumberAt 8 content c.in_ok-log_time.at c.in_ok-create_time.create_time c.in_ok-create_time.at = subst (ReadsNumber 8 content c.in_ok-log_time.at) c.in_ok-create_time.ensures.ok c.take_u64-2.ensures in
    let third : TextAt content c.in_ok-create_time.at c.in_ok-name.name.now c.in_ok-name.at = subst (ReadsText content c.in_ok-create_time.at) c.in_ok-name.ensures.ok c.take_text.ensures in
    let fourth : TextAt content c.in_ok-name.at c.in_ok-media_type.media_type.now c.in_ok-media_type.at = subst (ReadsText content c.in_ok-name.at) c.in_ok-media_type.ensures.ok c.take_text-2.ensures in
    let fifth : BytesAt 8 content c.in_ok-media_type.at c.in_ok-payload.payload.now c.in_ok-payload.at = subst (ReadsBytes 8 content c.in_ok-media_type.at) c.in_ok-payload.ensures.ok c.take_bytes64.ensures in
    let bad = c.in_err-crc.field-0.0 in
    let fails : NumberFails 4 content c.in_ok-payload.at bad.why = subst (ReadsNumber 4 content c.in_ok-payload.at) c.in_err-crc.ensures.err.1 c.take_u32.ensures in
    let is : c.from_residual-in_err-crc.result ≡ Err bad = search rules in
    rw is (inr (_, _, first, inr (_, _, second, inr (_, _, third, inr (_, _, fourth, inr (_, _, fifth, inl (c.in_err-crc.ensures.err.0, fails)))))))

pub returns-in_err-crc-clause-none : goal.returns-in_err-crc-clause-none
returns-in_err-crc-clause-none c = attachment_none c.args.content.now c.from_residual-in_err-crc.result (returns-in_err-crc-clause-first_fault c)

pub returns-clause-shown : goal.returns-clause-shown
returns-clause-shown c =
    let content = c.args.content.now in
    let first : NumberAt 8 content 0 c.in_ok-log_time.log_time c.in_ok-log_time.at = subst (ReadsNumber 8 content 0) c.in_ok-log_time.ensures.ok c.take_u64.ensures in
    let second : NumberAt 8 content c.in_ok-log_time.at c.in_ok-create_time.create_time c.in_ok-create_time.at = subst (ReadsNumber 8 content c.in_ok-log_time.at) c.in_ok-create_time.ensures.ok c.take_u64-2.ensures in
    let third : TextAt content c.in_ok-create_time.at c.in_ok-name.name.now c.in_ok-name.at = subst (ReadsText content c.in_ok-create_time.at) c.in_ok-name.ensures.ok c.take_text.ensures in
    let fourth : TextAt content c.in_ok-name.at c.in_ok-media_type.media_type.now c.in_ok-media_type.at = subst (ReadsText content c.in_ok-name.at) c.in_ok-media_type.ensures.ok c.take_text-2.ensures in
    let fifth : BytesAt 8 content c.in_ok-media_type.at c.in_ok-payload.payload.now c.in_ok-payload.at = subst (ReadsBytes 8 content c.in_ok-media_type.at) c.in_ok-payload.ensures.ok c.take_bytes64.ensures in
    let sixth : NumberAt 4 content c.in_ok-payload.at c.in_ok-crc.crc c.in_ok-crc._after = subst (ReadsNumber 4 content c.in_ok-payload.at) c.in_ok-crc.ensures.ok c.take_u32.ensures in
    attachment_read content (record { log_time = c.in_ok-log_time.log_time; create_time = c.in_ok-create_time.create_time; name = c.in_ok-name.name.now; media_type = c.in_ok-media_type.media_type.now; payload = c.in_ok-payload.payload.now; crc = c.in_ok-crc.crc }) _ _ _ _ _ _ first second third fourth fifth sixth
