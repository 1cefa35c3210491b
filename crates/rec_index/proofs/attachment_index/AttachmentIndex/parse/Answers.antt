use Rattle.std.proofs.Common.{rules, ◌≡◌, subst, inl, inr, Err, drop}
use Rattle.mcap_wire.specs.Reading.{NumberFails, ReadsNumber, TextAt, TextFails, ReadsText}
use Rattle.mcap_wire.specs.Layout.{NumberAt}
use Rattle.mcap_wire.specs.Contents.{a_number, a_text}
use Rattle.mcap_wire.proofs.Contents.{begins, begins_end}
use Rattle.rec_index.proofs.Contents.{attachment_index_none}
use Rattle.rec_index.proofs.attachment_index.AttachmentIndex.parse.Goals as goal

pub returns-in_err-offset-clause-none : goal.returns-in_err-offset-clause-none
returns-in_err-offset-clause-none c = attachment_index_none c.args.content.now c.from_residual.result (search rules)

pub returns-in_err-length-clause-none : goal.returns-in_err-length-clause-none
returns-in_err-length-clause-none c = attachment_index_none c.args.content.now c.from_residual-in_err-length.result (search rules)

pub returns-in_err-log_time-clause-none : goal.returns-in_err-log_time-clause-none
returns-in_err-log_time-clause-none c = attachment_index_none c.args.content.now c.from_residual-in_err-log_time.result (search rules)

pub returns-in_err-create_time-clause-first_fault : goal.returns-in_err-create_time-clause-first_fault
returns-in_err-create_time-clause-first_fault c =
    let content = c.args.content.now in
    let first : NumberAt 8 content 0 c.in_ok-offset.offset c.in_ok-offset.at = subst (ReadsNumber 8 content 0) c.in_ok-offset.ensures.ok c.take_u64.ensures in
    let second : NumberAt 8 content c.in_ok-offset.at c.in_ok-length.length c.in_ok-length.at = subst (ReadsNumber 8 content c.in_ok-offset.at) c.in_ok-length.ensures.ok c.take_u64-2.ensures in
    let third : NumberAt 8 content c.in_ok-length.at c.in_ok-log_time.log_time c.in_ok-log_time.at = subst (ReadsNumber 8 content c.in_ok-length.at) c.in_ok-log_time.ensures.ok c.take_u64-3.ensures in
    let bad = c.in_err-create_time.field-0.0 in
    let fails : NumberFails 8 content c.in_ok-log_time.at bad.why = subst (ReadsNumber 8 content c.in_ok-log_time.at) c.in_err-create_time.ensures.err.1 c.take_u64-4.ensures in
    let is : c.from_residual-in_err-create_time.result ≡ Err bad = search rules in
    rw is (inr (_, _, first, inr (_, _, second, inr (_, _, third, inl (c.in_err-create_time.ensures.err.0, fails)))))

pub returns-in_err-create_time-clause-none : goal.returns-in_err-create_time-clause-none
returns-in_err-create_time-clause-none c = attachment_index_none c.args.content.now c.from_residual-in_err-create_time.result (returns-in_err-create_time-clause-first_fault c)

pub returns-in_err-data_size-clause-first_fault : goal.returns-in_err-data_size-clause-first_fault
returns-in_err-data_size-clause-first_fault c =
    let content = c.args.content.now in
    let first : NumberAt 8 content 0 c.in_ok-offset.offset c.in_ok-offset.at = subst (ReadsNumber 8 content 0) c.in_ok-offset.ensures.ok c.take_u64.ensures in
    let second : NumberAt 8 content c.in_ok-offset.at c.in_ok-length.length c.in_ok-length.at = subst (ReadsNumber 8 content c.in_ok-offset.at) c.in_ok-length.ensures.ok c.take_u64-2.ensures in
    let third : NumberAt 8 content c.in_ok-length.at c.in_ok-log_time.log_time c.in_ok-log_time.at = subst (ReadsNumber 8 content c.in_ok-length.at) c.in_ok-log_time.ensures.ok c.take_u64-3.ensures in
    let fourth : NumberAt 8 content c.in_ok-log_time.at c.in_ok-create_time.create_time c.in_ok-create_time.at = subst (ReadsNumber 8 content c.in_ok-log_time.at) c.in_ok-create_time.ensures.ok c.take_u64-4.ensures in
    let bad = c.in_err-data_size.field-0.0 in
    let fails : NumberFails 8 content c.in_ok-create_time.at bad.why = subst (ReadsNumber 8 content c.in_ok-create_time.at) c.in_err-data_size.ensures.err.1 c.take_u64-5.ensures in
    let is : c.from_residual-in_err-data_size.result ≡ Err bad = search rules in
    rw is (inr (_, _, first, inr (_, _, second, inr (_, _, third, inr (_, _, fourth, inl (c.in_err-data_size.ensures.err.0, fails))))))

pub returns-in_err-data_size-clause-none : goal.returns-in_err-data_size-clause-none
returns-in_err-data_size-clause-none c = attachment_index_none c.args.content.now c.from_residual-in_err-data_size.result (returns-in_err-data_size-clause-first_fault c)

pub returns-in_err-name-clause-first_fault : goal.returns-in_err-name-clause-first_fault
returns-in_err-name-clause-first_fault c =
    let content = c.args.content.now in
    let first : NumberAt 8 content 0 c.in_ok-offset.offset c.in_ok-offset.at = subst (ReadsNumber 8 content 0) c.in_ok-offset.ensures.ok c.take_u64.ensures in
    let second : NumberAt 8 content c.in_ok-offset.at c.in_ok-length.length c.in_ok-length.at = subst (ReadsNumber 8 content c.in_ok-offset.at) c.in_ok-length.ensures.ok c.take_u64-2.ensures in
    let third : NumberAt 8 content c.in_ok-length.at c.in_ok-log_time.log_time c.in_ok-log_time.at = subst (ReadsNumber 8 content c.in_ok-length.at) c.in_ok-log_time.ensures.ok c.take_u64-3.ensures in
    let fourth : NumberAt 8 content c.in_ok-log_time.at c.in_ok-create_time.create_time c.in_ok-create_time.at = subst (ReadsNumber 8 content c.in_ok-log_time.at) c.in_ok-create_time.ensures.ok c.take_u64-4.ensures in
    let fifth : NumberAt 8 content c.in_ok-create_time.at c.in_ok-data_size.data_size c.in_ok-data_size.at = subst (ReadsNumber 8 content c.in_ok-create_time.at) c.in_ok-data_size.ensures.ok c.take_u64-5.ensures in
    let bad = c.in_err-name.field-0.0 in
    let fails : TextFails content c.in_ok-data_size.at bad.why = subst (ReadsText content c.in_ok-data_size.at) c.in_err-name.ensures.err.1 c.take_text.ensures in
    let is : c.from_residual-in_err-name.result ≡ Err bad = search rules in
    rw is (inr (_, _, first, inr (_, _, second, inr (_, _, third, inr (_, _, fourth, inr (_, _, fifth, inl (c.in_err-name.ensures.err.0, fails)))))))

pub returns-in_err-name-clause-none : goal.returns-in_err-name-clause-none
returns-in_err-name-clause-none c = attachment_index_none c.args.content.now c.from_residual-in_err-name.result (returns-in_err-name-clause-first_fault c)

pub returns-in_err-media_type-clause-first_fault : goal.returns-in_err-media_type-clause-first_fault
returns-in_err-media_type-clause-first_fault c =
    let content = c.args.content.now in
    let first : NumberAt 8 content 0 c.in_ok-offset.offset c.in_ok-offset.at = subst (ReadsNumber 8 content 0) c.in_ok-offset.ensures.ok c.take_u64.ensures in
    let second : NumberAt 8 content c.in_ok-offset.at c.in_ok-length.length c.in_ok-length.at = subst (ReadsNumber 8 content c.in_ok-offset.at) c.in_ok-length.ensures.ok c.take_u64-2.ensures in
    let third : NumberAt 8 content c.in_ok-length.at c.in_ok-log_time.log_time c.in_ok-log_time.at = subst (ReadsNumber 8 content c.in_ok-length.at) c.in_ok-log_time.ensures.ok c.take_u64-3.ensures in
    let fourth : NumberAt 8 content c.in_ok-log_time.at c.in_ok-create_time.create_time c.in_ok-create_time.at = subst (ReadsNumber 8 content c.in_ok-log_time.at) c.in_ok-create_time.ensures.ok c.take_u64-4.ensures in
    let fifth : NumberAt 8 content c.in_ok-create_time.at c.in_ok-data_size.data_size c.in_ok-data_size.at = subst (ReadsNumber 8 content c.in_ok-create_time.at) c.in_ok-data_size.ensures.ok c.take_u64-5.ensures in
    let sixth : TextAt content c.in_ok-data_size.at c.in_ok-name.name.now c.in_ok-name.at = subst (ReadsText content c.in_ok-data_size.at) c.in_ok-name.ensures.ok c.take_text.ensures in
    let bad = c.in_err-media_type.field-0.0 in
    let fails : TextFails content c.in_ok-name.at bad.why = subst (ReadsText content c.in_ok-name.at) c.in_err-media_type.ensures.err.1 c.take_text-2.ensures in
    let is : c.from_residual-in_err-media_type.result ≡ Err bad = search rules in
    rw is (inr (_, _, first, inr (_, _, second, inr (_, _, third, inr (_, _, fourth, inr (_, _, fifth, inr (_, _, sixth, inl (c.in_err-media_type.ensures.err.0, fails))))))))

pub returns-in_err-media_type-clause-none : goal.returns-in_err-media_type-clause-none
returns-in_err-media_type-clause-none c = attachment_index_none c.args.content.now c.from_residual-in_err-media_type.result (returns-in_err-media_type-clause-first_fault c)

pub returns-clause-shown : goal.returns-clause-shown
returns-clause-shown c =
    let content = c.args.content.now in
    let first : NumberAt 8 content 0 c.in_ok-offset.offset c.in_ok-offset.at = subst (ReadsNumber 8 content 0) c.in_ok-offset.ensures.ok c.take_u64.ensures in
    let second : NumberAt 8 content c.in_ok-offset.at c.in_ok-length.length c.in_ok-length.at = subst (ReadsNumber 8 content c.in_ok-offset.at) c.in_ok-length.ensures.ok c.take_u64-2.ensures in
    let third : NumberAt 8 content c.in_ok-length.at c.in_ok-log_time.log_time c.in_ok-log_time.at = subst (ReadsNumber 8 content c.in_ok-length.at) c.in_ok-log_time.ensures.ok c.take_u64-3.ensures in
    let fourth : NumberAt 8 content c.in_ok-log_time.at c.in_ok-create_time.create_time c.in_ok-create_time.at = subst (ReadsNumber 8 content c.in_ok-log_time.at) c.in_ok-create_time.ensures.ok c.take_u64-4.ensures in
    let fifth : NumberAt 8 content c.in_ok-create_time.at c.in_ok-data_size.data_size c.in_ok-data_size.at = subst (ReadsNumber 8 content c.in_ok-create_time.at) c.in_ok-data_size.ensures.ok c.take_u64-5.ensures in
    let sixth : TextAt content c.in_ok-data_size.at c.in_ok-name.name.now c.in_ok-name.at = subst (ReadsText content c.in_ok-data_size.at) c.in_ok-name.ensures.ok c.take_text.ensures in
    let seventh : TextAt content c.in_ok-name.at c.in_ok-media_type.media_type.now c.in_ok-media_type._after = subst (ReadsText content c.in_ok-name.at) c.in_ok-media_type.ensures.ok c.take_text-2.ensures in
    (drop c.in_ok-media_type._after content, begins (a_number 8) _ content _ _ _ _ _ first (begins (a_number 8) _ content _ _ _ _ _ second (begins (a_number 8) _ content _ _ _ _ _ third (begins (a_number 8) _ content _ _ _ _ _ fourth (begins (a_number 8) _ content _ _ _ _ _ fifth (begins (a_text) _ content _ _ _ _ _ sixth (begins (a_text) _ content _ _ _ _ _ seventh (begins_end (drop c.in_ok-media_type._after content)))))))))
