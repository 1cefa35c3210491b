use Rattle.std.proofs.Common.{rules, ◌≡◌, drop, subst, inl, inr, Err}
use Rattle.mcap_wire.specs.Reading.{NumberFails, ReadsNumber}
use Rattle.mcap_wire.specs.Layout.{NumberAt}
use Rattle.mcap_wire.specs.ArrayReading.{CountsAt, CountsFail, ReadsCounts}
use Rattle.mcap_wire.specs.Contents.{a_number, a_count_map}
use Rattle.mcap_wire.proofs.Contents.{begins, begins_end}
use Rattle.rec_index.proofs.MapContents.{statistics_none}
use Rattle.rec_index.proofs.summary_statistics.Statistics.parse.Goals as goal

pub returns-in_err-message_count-clause-none : goal.returns-in_err-message_count-clause-none
returns-in_err-message_count-clause-none c = statistics_none c.args.content.now c.from_residual.result (search rules)

pub returns-in_err-schema_count-clause-none : goal.returns-in_err-schema_count-clause-none
returns-in_err-schema_count-clause-none c = statistics_none c.args.content.now c.from_residual-in_err-schema_count.result (search rules)

pub returns-in_err-channel_count-clause-first_fault : goal.returns-in_err-channel_count-clause-first_fault
returns-in_err-channel_count-clause-first_fault c =
    let content = c.args.content.now in
    let first : NumberAt 8 content 0 c.in_ok-message_count.message_count c.in_ok-message_count.at = subst (ReadsNumber 8 content 0) c.in_ok-message_count.ensures.ok c.take_u64.ensures in
    let second : NumberAt 2 content c.in_ok-message_count.at c.in_ok-schema_count.schema_count c.in_ok-schema_count.at = subst (ReadsNumber 2 content c.in_ok-message_count.at) c.in_ok-schema_count.ensures.ok c.take_u16.ensures in
    let bad = c.in_err-channel_count.field-0.0 in
    let fails : NumberFails 4 content c.in_ok-schema_count.at bad.why = subst (ReadsNumber 4 content c.in_ok-schema_count.at) c.in_err-channel_count.ensures.err.1 c.take_u32.ensures in
    let is : c.from_residual-in_err-channel_count.result ≡ Err bad = search rules in
    rw is (inr (_, _, first, inr (_, _, second, inl (c.in_err-channel_count.ensures.err.0, fails))))

pub returns-in_err-channel_count-clause-none : goal.returns-in_err-channel_count-clause-none
returns-in_err-channel_count-clause-none c = statistics_none c.args.content.now c.from_residual-in_err-channel_count.result (returns-in_err-channel_count-clause-first_fault c)

pub returns-in_err-attachment_count-clause-first_fault : goal.returns-in_err-attachment_count-clause-first_fault
returns-in_err-attachment_count-clause-first_fault c =
    let content = c.args.content.now in
    let first : NumberAt 8 content 0 c.in_ok-message_count.message_count c.in_ok-message_count.at = subst (ReadsNumber 8 content 0) c.in_ok-message_count.ensures.ok c.take_u64.ensures in
    let second : NumberAt 2 content c.in_ok-message_count.at c.in_ok-schema_count.schema_count c.in_ok-schema_count.at = subst (ReadsNumber 2 content c.in_ok-message_count.at) c.in_ok-schema_count.ensures.ok c.take_u16.ensures in
    let third : NumberAt 4 content c.in_ok-schema_count.at c.in_ok-channel_count.channel_count c.in_ok-channel_count.at = subst (ReadsNumber 4 content c.in_ok-schema_count.at) c.in_ok-channel_count.ensures.ok c.take_u32.ensures in
    let bad = c.in_err-attachment_count.field-0.0 in
    let fails : NumberFails 4 content c.in_ok-channel_count.at bad.why = subst (ReadsNumber 4 content c.in_ok-channel_count.at) c.in_err-attachment_count.ensures.err.1 c.take_u32-2.ensures in
    let is : c.from_residual-in_err-attachment_count.result ≡ Err bad = search rules in
    rw is (inr (_, _, first, inr (_, _, second, inr (_, _, third, inl (c.in_err-attachment_count.ensures.err.0, fails)))))

pub returns-in_err-attachment_count-clause-none : goal.returns-in_err-attachment_count-clause-none
returns-in_err-attachment_count-clause-none c = statistics_none c.args.content.now c.from_residual-in_err-attachment_count.result (returns-in_err-attachment_count-clause-first_fault c)

pub returns-in_err-metadata_count-clause-first_fault : goal.returns-in_err-metadata_count-clause-first_fault
returns-in_err-metadata_count-clause-first_fault c =
    let content = c.args.content.now in
    let first : NumberAt 8 content 0 c.in_ok-message_count.message_count c.in_ok-message_count.at = subst (ReadsNumber 8 content 0) c.in_ok-message_count.ensures.ok c.take_u64.ensures in
    let second : NumberAt 2 content c.in_ok-message_count.at c.in_ok-schema_count.schema_count c.in_ok-schema_count.at = subst (ReadsNumber 2 content c.in_ok-message_count.at) c.in_ok-schema_count.ensures.ok c.take_u16.ensures in
    let third : NumberAt 4 content c.in_ok-schema_count.at c.in_ok-channel_count.channel_count c.in_ok-channel_count.at = subst (ReadsNumber 4 content c.in_ok-schema_count.at) c.in_ok-channel_count.ensures.ok c.take_u32.ensures in
    let fourth : NumberAt 4 content c.in_ok-channel_count.at c.in_ok-attachment_count.attachment_count c.in_ok-attachment_count.at = subst (ReadsNumber 4 content c.in_ok-channel_count.at) c.in_ok-attachment_count.ensures.ok c.take_u32-2.ensures in
    let bad = c.in_err-metadata_count.field-0.0 in
    let fails : NumberFails 4 content c.in_ok-attachment_count.at bad.why = subst (ReadsNumber 4 content c.in_ok-attachment_count.at) c.in_err-metadata_count.ensures.err.1 c.take_u32-3.ensures in
    let is : c.from_residual-in_err-metadata_count.result ≡ Err bad = search rules in
    rw is (inr (_, _, first, inr (_, _, second, inr (_, _, third, inr (_, _, fourth, inl (c.in_err-metadata_count.ensures.err.0, fails))))))

pub returns-in_err-metadata_count-clause-none : goal.returns-in_err-metadata_count-clause-none
returns-in_err-metadata_count-clause-none c = statistics_none c.args.content.now c.from_residual-in_err-metadata_count.result (returns-in_err-metadata_count-clause-first_fault c)

pub returns-in_err-chunk_count-clause-first_fault : goal.returns-in_err-chunk_count-clause-first_fault
returns-in_err-chunk_count-clause-first_fault c =
    let content = c.args.content.now in
    let first : NumberAt 8 content 0 c.in_ok-message_count.message_count c.in_ok-message_count.at = subst (ReadsNumber 8 content 0) c.in_ok-message_count.ensures.ok c.take_u64.ensures in
    let second : NumberAt 2 content c.in_ok-message_count.at c.in_ok-schema_count.schema_count c.in_ok-schema_count.at = subst (ReadsNumber 2 content c.in_ok-message_count.at) c.in_ok-schema_count.ensures.ok c.take_u16.ensures in
    let third : NumberAt 4 content c.in_ok-schema_count.at c.in_ok-channel_count.channel_count c.in_ok-channel_count.at = subst (ReadsNumber 4 content c.in_ok-schema_count.at) c.in_ok-channel_count.ensures.ok c.take_u32.ensures in
    let fourth : NumberAt 4 content c.in_ok-channel_count.at c.in_ok-attachment_count.attachment_count c.in_ok-attachment_count.at = subst (ReadsNumber 4 content c.in_ok-channel_count.at) c.in_ok-attachment_count.ensures.ok c.take_u32-2.ensures in
    let fifth : NumberAt 4 content c.in_ok-attachment_count.at c.in_ok-metadata_count.metadata_count c.in_ok-metadata_count.at = subst (ReadsNumber 4 content c.in_ok-attachment_count.at) c.in_ok-metadata_count.ensures.ok c.take_u32-3.ensures in
    let bad = c.in_err-chunk_count.field-0.0 in
    let fails : NumberFails 4 content c.in_ok-metadata_count.at bad.why = subst (ReadsNumber 4 content c.in_ok-metadata_count.at) c.in_err-chunk_count.ensures.err.1 c.take_u32-4.ensures in
    let is : c.from_residual-in_err-chunk_count.result ≡ Err bad = search rules in
    rw is (inr (_, _, first, inr (_, _, second, inr (_, _, third, inr (_, _, fourth, inr (_, _, fifth, inl (c.in_err-chunk_count.ensures.err.0, fails)))))))

pub returns-in_err-chunk_count-clause-none : goal.returns-in_err-chunk_count-clause-none
returns-in_err-chunk_count-clause-none c = statistics_none c.args.content.now c.from_residual-in_err-chunk_count.result (returns-in_err-chunk_count-clause-first_fault c)

pub returns-in_err-message_start_time-clause-first_fault : goal.returns-in_err-message_start_time-clause-first_fault
returns-in_err-message_start_time-clause-first_fault c =
    let content = c.args.content.now in
    let first : NumberAt 8 content 0 c.in_ok-message_count.message_count c.in_ok-message_count.at = subst (ReadsNumber 8 content 0) c.in_ok-message_count.ensures.ok c.take_u64.ensures in
    let second : NumberAt 2 content c.in_ok-message_count.at c.in_ok-schema_count.schema_count c.in_ok-schema_count.at = subst (ReadsNumber 2 content c.in_ok-message_count.at) c.in_ok-schema_count.ensures.ok c.take_u16.ensures in
    let third : NumberAt 4 content c.in_ok-schema_count.at c.in_ok-channel_count.channel_count c.in_ok-channel_count.at = subst (ReadsNumber 4 content c.in_ok-schema_count.at) c.in_ok-channel_count.ensures.ok c.take_u32.ensures in
    let fourth : NumberAt 4 content c.in_ok-channel_count.at c.in_ok-attachment_count.attachment_count c.in_ok-attachment_count.at = subst (ReadsNumber 4 content c.in_ok-channel_count.at) c.in_ok-attachment_count.ensures.ok c.take_u32-2.ensures in
    let fifth : NumberAt 4 content c.in_ok-attachment_count.at c.in_ok-metadata_count.metadata_count c.in_ok-metadata_count.at = subst (ReadsNumber 4 content c.in_ok-attachment_count.at) c.in_ok-metadata_count.ensures.ok c.take_u32-3.ensures in
    let sixth : NumberAt 4 content c.in_ok-metadata_count.at c.in_ok-chunk_count.chunk_count c.in_ok-chunk_count.at = subst (ReadsNumber 4 content c.in_ok-metadata_count.at) c.in_ok-chunk_count.ensures.ok c.take_u32-4.ensures in
    let bad = c.in_err-message_start_time.field-0.0 in
    let fails : NumberFails 8 content c.in_ok-chunk_count.at bad.why = subst (ReadsNumber 8 content c.in_ok-chunk_count.at) c.in_err-message_start_time.ensures.err.1 c.take_u64-2.ensures in
    let is : c.from_residual-in_err-message_start_time.result ≡ Err bad = search rules in
    rw is (inr (_, _, first, inr (_, _, second, inr (_, _, third, inr (_, _, fourth, inr (_, _, fifth, inr (_, _, sixth, inl (c.in_err-message_start_time.ensures.err.0, fails))))))))

pub returns-in_err-message_start_time-clause-none : goal.returns-in_err-message_start_time-clause-none
returns-in_err-message_start_time-clause-none c = statistics_none c.args.content.now c.from_residual-in_err-message_start_time.result (returns-in_err-message_start_time-clause-first_fault c)

pub returns-in_err-message_end_time-clause-first_fault : goal.returns-in_err-message_end_time-clause-first_fault
returns-in_err-message_end_time-clause-first_fault c =
    let content = c.args.content.now in
    let first : NumberAt 8 content 0 c.in_ok-message_count.message_count c.in_ok-message_count.at = subst (ReadsNumber 8 content 0) c.in_ok-message_count.ensures.ok c.take_u64.ensures in
    let second : NumberAt 2 content c.in_ok-message_count.at c.in_ok-schema_count.schema_count c.in_ok-schema_count.at = subst (ReadsNumber 2 content c.in_ok-message_count.at) c.in_ok-schema_count.ensures.ok c.take_u16.ensures in
    let third : NumberAt 4 content c.in_ok-schema_count.at c.in_ok-channel_count.channel_count c.in_ok-channel_count.at = subst (ReadsNumber 4 content c.in_ok-schema_count.at) c.in_ok-channel_count.ensures.ok c.take_u32.ensures in
    let fourth : NumberAt 4 content c.in_ok-channel_count.at c.in_ok-attachment_count.attachment_count c.in_ok-attachment_count.at = subst (ReadsNumber 4 content c.in_ok-channel_count.at) c.in_ok-attachment_count.ensures.ok c.take_u32-2.ensures in
    let fifth : NumberAt 4 content c.in_ok-attachment_count.at c.in_ok-metadata_count.metadata_count c.in_ok-metadata_count.at = subst (ReadsNumber 4 content c.in_ok-attachment_count.at) c.in_ok-metadata_count.ensures.ok c.take_u32-3.ensures in
    let sixth : NumberAt 4 content c.in_ok-metadata_count.at c.in_ok-chunk_count.chunk_count c.in_ok-chunk_count.at = subst (ReadsNumber 4 content c.in_ok-metadata_count.at) c.in_ok-chunk_count.ensures.ok c.take_u32-4.ensures in
    let seventh : NumberAt 8 content c.in_ok-chunk_count.at c.in_ok-message_start_time.message_start_time c.in_ok-message_start_time.at = subst (ReadsNumber 8 content c.in_ok-chunk_count.at) c.in_ok-message_start_time.ensures.ok c.take_u64-2.ensures in
    let bad = c.in_err-message_end_time.field-0.0 in
    let fails : NumberFails 8 content c.in_ok-message_start_time.at bad.why = subst (ReadsNumber 8 content c.in_ok-message_start_time.at) c.in_err-message_end_time.ensures.err.1 c.take_u64-3.ensures in
    let is : c.from_residual-in_err-message_end_time.result ≡ Err bad = search rules in
    rw is (inr (_, _, first, inr (_, _, second, inr (_, _, third, inr (_, _, fourth, inr (_, _, fifth, inr (_, _, sixth, inr (_, _, seventh, inl (c.in_err-message_end_time.ensures.err.0, fails)))))))))

pub returns-in_err-message_end_time-clause-none : goal.returns-in_err-message_end_time-clause-none
returns-in_err-message_end_time-clause-none c = statistics_none c.args.content.now c.from_residual-in_err-message_end_time.result (returns-in_err-message_end_time-clause-first_fault c)

pub returns-in_err-channel_message_counts-clause-first_fault : goal.returns-in_err-channel_message_counts-clause-first_fault
returns-in_err-channel_message_counts-clause-first_fault c =
    let content = c.args.content.now in
    let first : NumberAt 8 content 0 c.in_ok-message_count.message_count c.in_ok-message_count.at = subst (ReadsNumber 8 content 0) c.in_ok-message_count.ensures.ok c.take_u64.ensures in
    let second : NumberAt 2 content c.in_ok-message_count.at c.in_ok-schema_count.schema_count c.in_ok-schema_count.at = subst (ReadsNumber 2 content c.in_ok-message_count.at) c.in_ok-schema_count.ensures.ok c.take_u16.ensures in
    let third : NumberAt 4 content c.in_ok-schema_count.at c.in_ok-channel_count.channel_count c.in_ok-channel_count.at = subst (ReadsNumber 4 content c.in_ok-schema_count.at) c.in_ok-channel_count.ensures.ok c.take_u32.ensures in
    let fourth : NumberAt 4 content c.in_ok-channel_count.at c.in_ok-attachment_count.attachment_count c.in_ok-attachment_count.at = subst (ReadsNumber 4 content c.in_ok-channel_count.at) c.in_ok-attachment_count.ensures.ok c.take_u32-2.ensures in
    let fifth : NumberAt 4 content c.in_ok-attachment_count.at c.in_ok-metadata_count.metadata_count c.in_ok-metadata_count.at = subst (ReadsNumber 4 content c.in_ok-attachment_count.at) c.in_ok-metadata_count.ensures.ok c.take_u32-3.ensures in
    let sixth : NumberAt 4 content c.in_ok-metadata_count.at c.in_ok-chunk_count.chunk_count c.in_ok-chunk_count.at = subst (ReadsNumber 4 content c.in_ok-metadata_count.at) c.in_ok-chunk_count.ensures.ok c.take_u32-4.ensures in
    let seventh : NumberAt 8 content c.in_ok-chunk_count.at c.in_ok-message_start_time.message_start_time c.in_ok-message_start_time.at = subst (ReadsNumber 8 content c.in_ok-chunk_count.at) c.in_ok-message_start_time.ensures.ok c.take_u64-2.ensures in
    let eighth : NumberAt 8 content c.in_ok-message_start_time.at c.in_ok-message_end_time.message_end_time c.in_ok-message_end_time.at = subst (ReadsNumber 8 content c.in_ok-message_start_time.at) c.in_ok-message_end_time.ensures.ok c.take_u64-3.ensures in
    let bad = c.in_err-channel_message_counts.field-0.0 in
    let fails : CountsFail content c.in_ok-message_end_time.at bad.why = subst (ReadsCounts content c.in_ok-message_end_time.at) c.in_err-channel_message_counts.ensures.err.1 c.take_counts.ensures in
    let is : c.from_residual-in_err-channel_message_counts.result ≡ Err bad = search rules in
    rw is (inr (_, _, first, inr (_, _, second, inr (_, _, third, inr (_, _, fourth, inr (_, _, fifth, inr (_, _, sixth, inr (_, _, seventh, inr (_, _, eighth, inl (c.in_err-channel_message_counts.ensures.err.0, fails))))))))))

pub returns-in_err-channel_message_counts-clause-none : goal.returns-in_err-channel_message_counts-clause-none
returns-in_err-channel_message_counts-clause-none c = statistics_none c.args.content.now c.from_residual-in_err-channel_message_counts.result (returns-in_err-channel_message_counts-clause-first_fault c)

pub returns-clause-shown : goal.returns-clause-shown
returns-clause-shown c =
    let content = c.args.content.now in
    let first : NumberAt 8 content 0 c.in_ok-message_count.message_count c.in_ok-message_count.at = subst (ReadsNumber 8 content 0) c.in_ok-message_count.ensures.ok c.take_u64.ensures in
    let second : NumberAt 2 content c.in_ok-message_count.at c.in_ok-schema_count.schema_count c.in_ok-schema_count.at = subst (ReadsNumber 2 content c.in_ok-message_count.at) c.in_ok-schema_count.ensures.ok c.take_u16.ensures in
    let third : NumberAt 4 content c.in_ok-schema_count.at c.in_ok-channel_count.channel_count c.in_ok-channel_count.at = subst (ReadsNumber 4 content c.in_ok-schema_count.at) c.in_ok-channel_count.ensures.ok c.take_u32.ensures in
    let fourth : NumberAt 4 content c.in_ok-channel_count.at c.in_ok-attachment_count.attachment_count c.in_ok-attachment_count.at = subst (ReadsNumber 4 content c.in_ok-channel_count.at) c.in_ok-attachment_count.ensures.ok c.take_u32-2.ensures in
    let fifth : NumberAt 4 content c.in_ok-attachment_count.at c.in_ok-metadata_count.metadata_count c.in_ok-metadata_count.at = subst (ReadsNumber 4 content c.in_ok-attachment_count.at) c.in_ok-metadata_count.ensures.ok c.take_u32-3.ensures in
    let sixth : NumberAt 4 content c.in_ok-metadata_count.at c.in_ok-chunk_count.chunk_count c.in_ok-chunk_count.at = subst (ReadsNumber 4 content c.in_ok-metadata_count.at) c.in_ok-chunk_count.ensures.ok c.take_u32-4.ensures in
    let seventh : NumberAt 8 content c.in_ok-chunk_count.at c.in_ok-message_start_time.message_start_time c.in_ok-message_start_time.at = subst (ReadsNumber 8 content c.in_ok-chunk_count.at) c.in_ok-message_start_time.ensures.ok c.take_u64-2.ensures in
    let eighth : NumberAt 8 content c.in_ok-message_start_time.at c.in_ok-message_end_time.message_end_time c.in_ok-message_end_time.at = subst (ReadsNumber 8 content c.in_ok-message_start_time.at) c.in_ok-message_end_time.ensures.ok c.take_u64-3.ensures in
    let ninth : CountsAt content c.in_ok-message_end_time.at c.in_ok-channel_message_counts.channel_message_counts c.in_ok-channel_message_counts._after = subst (ReadsCounts content c.in_ok-message_end_time.at) c.in_ok-channel_message_counts.ensures.ok c.take_counts.ensures in
    (drop c.in_ok-channel_message_counts._after content, begins (a_number 8) _ content _ _ _ _ _ first (begins (a_number 2) _ content _ _ _ _ _ second (begins (a_number 4) _ content _ _ _ _ _ third (begins (a_number 4) _ content _ _ _ _ _ fourth (begins (a_number 4) _ content _ _ _ _ _ fifth (begins (a_number 4) _ content _ _ _ _ _ sixth (begins (a_number 8) _ content _ _ _ _ _ seventh (begins (a_number 8) _ content _ _ _ _ _ eighth (begins (a_count_map) _ content _ _ _ _ _ ninth (begins_end (drop c.in_ok-channel_message_counts._after content)))))))))))
