use Rattle.std.proofs.Common.{rules, ◌≡◌, drop, subst, inl, inr, Err}
use Rattle.mcap_wire.specs.Reading.{NumberFails, ReadsNumber, TextAt, TextFails, ReadsText}
use Rattle.mcap_wire.specs.Layout.{NumberAt}
use Rattle.mcap_wire.specs.ArrayReading.{CountsAt, CountsFail, ReadsCounts}
use Rattle.mcap_wire.specs.Contents.{a_number, a_text, a_count_map}
use Rattle.mcap_wire.proofs.Contents.{begins, begins_end}
use Rattle.rec_index.proofs.MapContents.{chunk_index_none}
use Rattle.rec_index.proofs.chunk_index.ChunkIndex.parse.Goals as goal

pub returns-in_err-message_start_time-clause-none : goal.returns-in_err-message_start_time-clause-none
returns-in_err-message_start_time-clause-none c = chunk_index_none c.args.content.now c.from_residual.result (search rules)

pub returns-in_err-message_end_time-clause-none : goal.returns-in_err-message_end_time-clause-none
returns-in_err-message_end_time-clause-none c = chunk_index_none c.args.content.now c.from_residual-in_err-message_end_time.result (search rules)

pub returns-in_err-chunk_start_offset-clause-first_fault : goal.returns-in_err-chunk_start_offset-clause-first_fault
returns-in_err-chunk_start_offset-clause-first_fault c =
    let content = c.args.content.now in
    let first : NumberAt 8 content 0 c.in_ok-message_start_time.message_start_time c.in_ok-message_start_time.at = subst (ReadsNumber 8 content 0) c.in_ok-message_start_time.ensures.ok c.take_u64.ensures in
    let second : NumberAt 8 content c.in_ok-message_start_time.at c.in_ok-message_end_time.message_end_time c.in_ok-message_end_time.at = subst (ReadsNumber 8 content c.in_ok-message_start_time.at) c.in_ok-message_end_time.ensures.ok c.take_u64-2.ensures in
    let bad = c.in_err-chunk_start_offset.field-0.0 in
    let fails : NumberFails 8 content c.in_ok-message_end_time.at bad.why = subst (ReadsNumber 8 content c.in_ok-message_end_time.at) c.in_err-chunk_start_offset.ensures.err.1 c.take_u64-3.ensures in
    let is : c.from_residual-in_err-chunk_start_offset.result ≡ Err bad = search rules in
    rw is (inr (_, _, first, inr (_, _, second, inl (c.in_err-chunk_start_offset.ensures.err.0, fails))))

pub returns-in_err-chunk_start_offset-clause-none : goal.returns-in_err-chunk_start_offset-clause-none
returns-in_err-chunk_start_offset-clause-none c = chunk_index_none c.args.content.now c.from_residual-in_err-chunk_start_offset.result (returns-in_err-chunk_start_offset-clause-first_fault c)

pub returns-in_err-chunk_length-clause-first_fault : goal.returns-in_err-chunk_length-clause-first_fault
returns-in_err-chunk_length-clause-first_fault c =
    let content = c.args.content.now in
    let first : NumberAt 8 content 0 c.in_ok-message_start_time.message_start_time c.in_ok-message_start_time.at = subst (ReadsNumber 8 content 0) c.in_ok-message_start_time.ensures.ok c.take_u64.ensures in
    let second : NumberAt 8 content c.in_ok-message_start_time.at c.in_ok-message_end_time.message_end_time c.in_ok-message_end_time.at = subst (ReadsNumber 8 content c.in_ok-message_start_time.at) c.in_ok-message_end_time.ensures.ok c.take_u64-2.ensures in
    let third : NumberAt 8 content c.in_ok-message_end_time.at c.in_ok-chunk_start_offset.chunk_start_offset c.in_ok-chunk_start_offset.at = subst (ReadsNumber 8 content c.in_ok-message_end_time.at) c.in_ok-chunk_start_offset.ensures.ok c.take_u64-3.ensures in
    let bad = c.in_err-chunk_length.field-0.0 in
    let fails : NumberFails 8 content c.in_ok-chunk_start_offset.at bad.why = subst (ReadsNumber 8 content c.in_ok-chunk_start_offset.at) c.in_err-chunk_length.ensures.err.1 c.take_u64-4.ensures in
    let is : c.from_residual-in_err-chunk_length.result ≡ Err bad = search rules in
    rw is (inr (_, _, first, inr (_, _, second, inr (_, _, third, inl (c.in_err-chunk_length.ensures.err.0, fails)))))

pub returns-in_err-chunk_length-clause-none : goal.returns-in_err-chunk_length-clause-none
returns-in_err-chunk_length-clause-none c = chunk_index_none c.args.content.now c.from_residual-in_err-chunk_length.result (returns-in_err-chunk_length-clause-first_fault c)

pub returns-in_err-message_index_offsets-clause-first_fault : goal.returns-in_err-message_index_offsets-clause-first_fault
returns-in_err-message_index_offsets-clause-first_fault c =
    let content = c.args.content.now in
    let first : NumberAt 8 content 0 c.in_ok-message_start_time.message_start_time c.in_ok-message_start_time.at = subst (ReadsNumber 8 content 0) c.in_ok-message_start_time.ensures.ok c.take_u64.ensures in
    let second : NumberAt 8 content c.in_ok-message_start_time.at c.in_ok-message_end_time.message_end_time c.in_ok-message_end_time.at = subst (ReadsNumber 8 content c.in_ok-message_start_time.at) c.in_ok-message_end_time.ensures.ok c.take_u64-2.ensures in
    let third : NumberAt 8 content c.in_ok-message_end_time.at c.in_ok-chunk_start_offset.chunk_start_offset c.in_ok-chunk_start_offset.at = subst (ReadsNumber 8 content c.in_ok-message_end_time.at) c.in_ok-chunk_start_offset.ensures.ok c.take_u64-3.ensures in
    let fourth : NumberAt 8 content c.in_ok-chunk_start_offset.at c.in_ok-chunk_length.chunk_length c.in_ok-chunk_length.at = subst (ReadsNumber 8 content c.in_ok-chunk_start_offset.at) c.in_ok-chunk_length.ensures.ok c.take_u64-4.ensures in
    let bad = c.in_err-message_index_offsets.field-0.0 in
    let fails : CountsFail content c.in_ok-chunk_length.at bad.why = subst (ReadsCounts content c.in_ok-chunk_length.at) c.in_err-message_index_offsets.ensures.err.1 c.take_counts.ensures in
    let is : c.from_residual-in_err-message_index_offsets.result ≡ Err bad = search rules in
    rw is (inr (_, _, first, inr (_, _, second, inr (_, _, third, inr (_, _, fourth, inl (c.in_err-message_index_offsets.ensures.err.0, fails))))))

pub returns-in_err-message_index_offsets-clause-none : goal.returns-in_err-message_index_offsets-clause-none
returns-in_err-message_index_offsets-clause-none c = chunk_index_none c.args.content.now c.from_residual-in_err-message_index_offsets.result (returns-in_err-message_index_offsets-clause-first_fault c)

pub returns-in_err-message_index_length-clause-first_fault : goal.returns-in_err-message_index_length-clause-first_fault
returns-in_err-message_index_length-clause-first_fault c =
    let content = c.args.content.now in
    let first : NumberAt 8 content 0 c.in_ok-message_start_time.message_start_time c.in_ok-message_start_time.at = subst (ReadsNumber 8 content 0) c.in_ok-message_start_time.ensures.ok c.take_u64.ensures in
    let second : NumberAt 8 content c.in_ok-message_start_time.at c.in_ok-message_end_time.message_end_time c.in_ok-message_end_time.at = subst (ReadsNumber 8 content c.in_ok-message_start_time.at) c.in_ok-message_end_time.ensures.ok c.take_u64-2.ensures in
    let third : NumberAt 8 content c.in_ok-message_end_time.at c.in_ok-chunk_start_offset.chunk_start_offset c.in_ok-chunk_start_offset.at = subst (ReadsNumber 8 content c.in_ok-message_end_time.at) c.in_ok-chunk_start_offset.ensures.ok c.take_u64-3.ensures in
    let fourth : NumberAt 8 content c.in_ok-chunk_start_offset.at c.in_ok-chunk_length.chunk_length c.in_ok-chunk_length.at = subst (ReadsNumber 8 content c.in_ok-chunk_start_offset.at) c.in_ok-chunk_length.ensures.ok c.take_u64-4.ensures in
    let fifth : CountsAt content c.in_ok-chunk_length.at c.in_ok-message_index_offsets.message_index_offsets c.in_ok-message_index_offsets.at = subst (ReadsCounts content c.in_ok-chunk_length.at) c.in_ok-message_index_offsets.ensures.ok c.take_counts.ensures in
    let bad = c.in_err-message_index_length.field-0.0 in
    let fails : NumberFails 8 content c.in_ok-message_index_offsets.at bad.why = subst (ReadsNumber 8 content c.in_ok-message_index_offsets.at) c.in_err-message_index_length.ensures.err.1 c.take_u64-5.ensures in
    let is : c.from_residual-in_err-message_index_length.result ≡ Err bad = search rules in
    rw is (inr (_, _, first, inr (_, _, second, inr (_, _, third, inr (_, _, fourth, inr (_, _, fifth, inl (c.in_err-message_index_length.ensures.err.0, fails)))))))

pub returns-in_err-message_index_length-clause-none : goal.returns-in_err-message_index_length-clause-none
returns-in_err-message_index_length-clause-none c = chunk_index_none c.args.content.now c.from_residual-in_err-message_index_length.result (returns-in_err-message_index_length-clause-first_fault c)

pub returns-in_err-compression-clause-first_fault : goal.returns-in_err-compression-clause-first_fault
returns-in_err-compression-clause-first_fault c =
    let content = c.args.content.now in
    let first : NumberAt 8 content 0 c.in_ok-message_start_time.message_start_time c.in_ok-message_start_time.at = subst (ReadsNumber 8 content 0) c.in_ok-message_start_time.ensures.ok c.take_u64.ensures in
    let second : NumberAt 8 content c.in_ok-message_start_time.at c.in_ok-message_end_time.message_end_time c.in_ok-message_end_time.at = subst (ReadsNumber 8 content c.in_ok-message_start_time.at) c.in_ok-message_end_time.ensures.ok c.take_u64-2.ensures in
    let third : NumberAt 8 content c.in_ok-message_end_time.at c.in_ok-chunk_start_offset.chunk_start_offset c.in_ok-chunk_start_offset.at = subst (ReadsNumber 8 content c.in_ok-message_end_time.at) c.in_ok-chunk_start_offset.ensures.ok c.take_u64-3.ensures in
    let fourth : NumberAt 8 content c.in_ok-chunk_start_offset.at c.in_ok-chunk_length.chunk_length c.in_ok-chunk_length.at = subst (ReadsNumber 8 content c.in_ok-chunk_start_offset.at) c.in_ok-chunk_length.ensures.ok c.take_u64-4.ensures in
    let fifth : CountsAt content c.in_ok-chunk_length.at c.in_ok-message_index_offsets.message_index_offsets c.in_ok-message_index_offsets.at = subst (ReadsCounts content c.in_ok-chunk_length.at) c.in_ok-message_index_offsets.ensures.ok c.take_counts.ensures in
    let sixth : NumberAt 8 content c.in_ok-message_index_offsets.at c.in_ok-message_index_length.message_index_length c.in_ok-message_index_length.at = subst (ReadsNumber 8 content c.in_ok-message_index_offsets.at) c.in_ok-message_index_length.ensures.ok c.take_u64-5.ensures in
    let bad = c.in_err-compression.field-0.0 in
    let fails : TextFails content c.in_ok-message_index_length.at bad.why = subst (ReadsText content c.in_ok-message_index_length.at) c.in_err-compression.ensures.err.1 c.take_text.ensures in
    let is : c.from_residual-in_err-compression.result ≡ Err bad = search rules in
    rw is (inr (_, _, first, inr (_, _, second, inr (_, _, third, inr (_, _, fourth, inr (_, _, fifth, inr (_, _, sixth, inl (c.in_err-compression.ensures.err.0, fails))))))))

pub returns-in_err-compression-clause-none : goal.returns-in_err-compression-clause-none
returns-in_err-compression-clause-none c = chunk_index_none c.args.content.now c.from_residual-in_err-compression.result (returns-in_err-compression-clause-first_fault c)

pub returns-in_err-compressed_size-clause-first_fault : goal.returns-in_err-compressed_size-clause-first_fault
returns-in_err-compressed_size-clause-first_fault c =
    let content = c.args.content.now in
    let first : NumberAt 8 content 0 c.in_ok-message_start_time.message_start_time c.in_ok-message_start_time.at = subst (ReadsNumber 8 content 0) c.in_ok-message_start_time.ensures.ok c.take_u64.ensures in
    let second : NumberAt 8 content c.in_ok-message_start_time.at c.in_ok-message_end_time.message_end_time c.in_ok-message_end_time.at = subst (ReadsNumber 8 content c.in_ok-message_start_time.at) c.in_ok-message_end_time.ensures.ok c.take_u64-2.ensures in
    let third : NumberAt 8 content c.in_ok-message_end_time.at c.in_ok-chunk_start_offset.chunk_start_offset c.in_ok-chunk_start_offset.at = subst (ReadsNumber 8 content c.in_ok-message_end_time.at) c.in_ok-chunk_start_offset.ensures.ok c.take_u64-3.ensures in
    let fourth : NumberAt 8 content c.in_ok-chunk_start_offset.at c.in_ok-chunk_length.chunk_length c.in_ok-chunk_length.at = subst (ReadsNumber 8 content c.in_ok-chunk_start_offset.at) c.in_ok-chunk_length.ensures.ok c.take_u64-4.ensures in
    let fifth : CountsAt content c.in_ok-chunk_length.at c.in_ok-message_index_offsets.message_index_offsets c.in_ok-message_index_offsets.at = subst (ReadsCounts content c.in_ok-chunk_length.at) c.in_ok-message_index_offsets.ensures.ok c.take_counts.ensures in
    let sixth : NumberAt 8 content c.in_ok-message_index_offsets.at c.in_ok-message_index_length.message_index_length c.in_ok-message_index_length.at = subst (ReadsNumber 8 content c.in_ok-message_index_offsets.at) c.in_ok-message_index_length.ensures.ok c.take_u64-5.ensures in
    let seventh : TextAt content c.in_ok-message_index_length.at c.in_ok-compression.compression.now c.in_ok-compression.at = subst (ReadsText content c.in_ok-message_index_length.at) c.in_ok-compression.ensures.ok c.take_text.ensures in
    let bad = c.in_err-compressed_size.field-0.0 in
    let fails : NumberFails 8 content c.in_ok-compression.at bad.why = subst (ReadsNumber 8 content c.in_ok-compression.at) c.in_err-compressed_size.ensures.err.1 c.take_u64-6.ensures in
    let is : c.from_residual-in_err-compressed_size.result ≡ Err bad = search rules in
    rw is (inr (_, _, first, inr (_, _, second, inr (_, _, third, inr (_, _, fourth, inr (_, _, fifth, inr (_, _, sixth, inr (_, _, seventh, inl (c.in_err-compressed_size.ensures.err.0, fails)))))))))

pub returns-in_err-compressed_size-clause-none : goal.returns-in_err-compressed_size-clause-none
returns-in_err-compressed_size-clause-none c = chunk_index_none c.args.content.now c.from_residual-in_err-compressed_size.result (returns-in_err-compressed_size-clause-first_fault c)

pub returns-in_err-uncompressed_size-clause-first_fault : goal.returns-in_err-uncompressed_size-clause-first_fault
returns-in_err-uncompressed_size-clause-first_fault c =
    let content = c.args.content.now in
    let first : NumberAt 8 content 0 c.in_ok-message_start_time.message_start_time c.in_ok-message_start_time.at = subst (ReadsNumber 8 content 0) c.in_ok-message_start_time.ensures.ok c.take_u64.ensures in
    let second : NumberAt 8 content c.in_ok-message_start_time.at c.in_ok-message_end_time.message_end_time c.in_ok-message_end_time.at = subst (ReadsNumber 8 content c.in_ok-message_start_time.at) c.in_ok-message_end_time.ensures.ok c.take_u64-2.ensures in
    let third : NumberAt 8 content c.in_ok-message_end_time.at c.in_ok-chunk_start_offset.chunk_start_offset c.in_ok-chunk_start_offset.at = subst (ReadsNumber 8 content c.in_ok-message_end_time.at) c.in_ok-chunk_start_offset.ensures.ok c.take_u64-3.ensures in
    let fourth : NumberAt 8 content c.in_ok-chunk_start_offset.at c.in_ok-chunk_length.chunk_length c.in_ok-chunk_length.at = subst (ReadsNumber 8 content c.in_ok-chunk_start_offset.at) c.in_ok-chunk_length.ensures.ok c.take_u64-4.ensures in
    let fifth : CountsAt content c.in_ok-chunk_length.at c.in_ok-message_index_offsets.message_index_offsets c.in_ok-message_index_offsets.at = subst (ReadsCounts content c.in_ok-chunk_length.at) c.in_ok-message_index_offsets.ensures.ok c.take_counts.ensures in
    let sixth : NumberAt 8 content c.in_ok-message_index_offsets.at c.in_ok-message_index_length.message_index_length c.in_ok-message_index_length.at = subst (ReadsNumber 8 content c.in_ok-message_index_offsets.at) c.in_ok-message_index_length.ensures.ok c.take_u64-5.ensures in
    let seventh : TextAt content c.in_ok-message_index_length.at c.in_ok-compression.compression.now c.in_ok-compression.at = subst (ReadsText content c.in_ok-message_index_length.at) c.in_ok-compression.ensures.ok c.take_text.ensures in
    let eighth : NumberAt 8 content c.in_ok-compression.at c.in_ok-compressed_size.compressed_size c.in_ok-compressed_size.at = subst (ReadsNumber 8 content c.in_ok-compression.at) c.in_ok-compressed_size.ensures.ok c.take_u64-6.ensures in
    let bad = c.in_err-uncompressed_size.field-0.0 in
    let fails : NumberFails 8 content c.in_ok-compressed_size.at bad.why = subst (ReadsNumber 8 content c.in_ok-compressed_size.at) c.in_err-uncompressed_size.ensures.err.1 c.take_u64-7.ensures in
    let is : c.from_residual-in_err-uncompressed_size.result ≡ Err bad = search rules in
    rw is (inr (_, _, first, inr (_, _, second, inr (_, _, third, inr (_, _, fourth, inr (_, _, fifth, inr (_, _, sixth, inr (_, _, seventh, inr (_, _, eighth, inl (c.in_err-uncompressed_size.ensures.err.0, fails))))))))))

pub returns-in_err-uncompressed_size-clause-none : goal.returns-in_err-uncompressed_size-clause-none
returns-in_err-uncompressed_size-clause-none c = chunk_index_none c.args.content.now c.from_residual-in_err-uncompressed_size.result (returns-in_err-uncompressed_size-clause-first_fault c)

pub returns-clause-shown : goal.returns-clause-shown
returns-clause-shown c =
    let content = c.args.content.now in
    let first : NumberAt 8 content 0 c.in_ok-message_start_time.message_start_time c.in_ok-message_start_time.at = subst (ReadsNumber 8 content 0) c.in_ok-message_start_time.ensures.ok c.take_u64.ensures in
    let second : NumberAt 8 content c.in_ok-message_start_time.at c.in_ok-message_end_time.message_end_time c.in_ok-message_end_time.at = subst (ReadsNumber 8 content c.in_ok-message_start_time.at) c.in_ok-message_end_time.ensures.ok c.take_u64-2.ensures in
    let third : NumberAt 8 content c.in_ok-message_end_time.at c.in_ok-chunk_start_offset.chunk_start_offset c.in_ok-chunk_start_offset.at = subst (ReadsNumber 8 content c.in_ok-message_end_time.at) c.in_ok-chunk_start_offset.ensures.ok c.take_u64-3.ensures in
    let fourth : NumberAt 8 content c.in_ok-chunk_start_offset.at c.in_ok-chunk_length.chunk_length c.in_ok-chunk_length.at = subst (ReadsNumber 8 content c.in_ok-chunk_start_offset.at) c.in_ok-chunk_length.ensures.ok c.take_u64-4.ensures in
    let fifth : CountsAt content c.in_ok-chunk_length.at c.in_ok-message_index_offsets.message_index_offsets c.in_ok-message_index_offsets.at = subst (ReadsCounts content c.in_ok-chunk_length.at) c.in_ok-message_index_offsets.ensures.ok c.take_counts.ensures in
    let sixth : NumberAt 8 content c.in_ok-message_index_offsets.at c.in_ok-message_index_length.message_index_length c.in_ok-message_index_length.at = subst (ReadsNumber 8 content c.in_ok-message_index_offsets.at) c.in_ok-message_index_length.ensures.ok c.take_u64-5.ensures in
    let seventh : TextAt content c.in_ok-message_index_length.at c.in_ok-compression.compression.now c.in_ok-compression.at = subst (ReadsText content c.in_ok-message_index_length.at) c.in_ok-compression.ensures.ok c.take_text.ensures in
    let eighth : NumberAt 8 content c.in_ok-compression.at c.in_ok-compressed_size.compressed_size c.in_ok-compressed_size.at = subst (ReadsNumber 8 content c.in_ok-compression.at) c.in_ok-compressed_size.ensures.ok c.take_u64-6.ensures in
    let ninth : NumberAt 8 content c.in_ok-compressed_size.at c.in_ok-uncompressed_size.uncompressed_size c.in_ok-uncompressed_size._after = subst (ReadsNumber 8 content c.in_ok-compressed_size.at) c.in_ok-uncompressed_size.ensures.ok c.take_u64-7.ensures in
    (drop c.in_ok-uncompressed_size._after content, begins (a_number 8) _ content _ _ _ _ _ first (begins (a_number 8) _ content _ _ _ _ _ second (begins (a_number 8) _ content _ _ _ _ _ third (begins (a_number 8) _ content _ _ _ _ _ fourth (begins (a_count_map) _ content _ _ _ _ _ fifth (begins (a_number 8) _ content _ _ _ _ _ sixth (begins (a_text) _ content _ _ _ _ _ seventh (begins (a_number 8) _ content _ _ _ _ _ eighth (begins (a_number 8) _ content _ _ _ _ _ ninth (begins_end (drop c.in_ok-uncompressed_size._after content)))))))))))
