use Rattle.std.proofs.Common.{rules, ◌≡◌, subst, inl, inr, Err, drop}
use Rattle.mcap_wire.specs.Reading.{NumberFails, ReadsNumber, TextAt, TextFails, ReadsText, BytesAt, BytesFail, ReadsBytes}
use Rattle.mcap_wire.specs.Layout.{NumberAt}
use Rattle.mcap_wire.specs.Contents.{a_number, a_text, some_bytes}
use Rattle.mcap_wire.proofs.Contents.{begins, begins_end}
use Rattle.rec_index.proofs.Contents.{chunk_none}
use Rattle.rec_index.proofs.chunk.Chunk.parse.Goals as goal

pub returns-in_err-message_start_time-clause-none : goal.returns-in_err-message_start_time-clause-none
returns-in_err-message_start_time-clause-none c = chunk_none c.args.content.now c.from_residual.result (search rules)

pub returns-in_err-message_end_time-clause-none : goal.returns-in_err-message_end_time-clause-none
returns-in_err-message_end_time-clause-none c = chunk_none c.args.content.now c.from_residual-in_err-message_end_time.result (search rules)

pub returns-in_err-uncompressed_size-clause-none : goal.returns-in_err-uncompressed_size-clause-none
returns-in_err-uncompressed_size-clause-none c = chunk_none c.args.content.now c.from_residual-in_err-uncompressed_size.result (search rules)

pub returns-in_err-uncompressed_crc-clause-first_fault : goal.returns-in_err-uncompressed_crc-clause-first_fault
returns-in_err-uncompressed_crc-clause-first_fault c =
    let content = c.args.content.now in
    let first : NumberAt 8 content 0 c.in_ok-message_start_time.message_start_time c.in_ok-message_start_time.at = subst (ReadsNumber 8 content 0) c.in_ok-message_start_time.ensures.ok c.take_u64.ensures in
    let second : NumberAt 8 content c.in_ok-message_start_time.at c.in_ok-message_end_time.message_end_time c.in_ok-message_end_time.at = subst (ReadsNumber 8 content c.in_ok-message_start_time.at) c.in_ok-message_end_time.ensures.ok c.take_u64-2.ensures in
    let third : NumberAt 8 content c.in_ok-message_end_time.at c.in_ok-uncompressed_size.uncompressed_size c.in_ok-uncompressed_size.at = subst (ReadsNumber 8 content c.in_ok-message_end_time.at) c.in_ok-uncompressed_size.ensures.ok c.take_u64-3.ensures in
    let bad = c.in_err-uncompressed_crc.field-0.0 in
    let fails : NumberFails 4 content c.in_ok-uncompressed_size.at bad.why = subst (ReadsNumber 4 content c.in_ok-uncompressed_size.at) c.in_err-uncompressed_crc.ensures.err.1 c.take_u32.ensures in
    let is : c.from_residual-in_err-uncompressed_crc.result ≡ Err bad = search rules in
    rw is (inr (_, _, first, inr (_, _, second, inr (_, _, third, inl (c.in_err-uncompressed_crc.ensures.err.0, fails)))))

pub returns-in_err-uncompressed_crc-clause-none : goal.returns-in_err-uncompressed_crc-clause-none
returns-in_err-uncompressed_crc-clause-none c = chunk_none c.args.content.now c.from_residual-in_err-uncompressed_crc.result (returns-in_err-uncompressed_crc-clause-first_fault c)

pub returns-in_err-compression-clause-first_fault : goal.returns-in_err-compression-clause-first_fault
returns-in_err-compression-clause-first_fault c =
    let content = c.args.content.now in
    let first : NumberAt 8 content 0 c.in_ok-message_start_time.message_start_time c.in_ok-message_start_time.at = subst (ReadsNumber 8 content 0) c.in_ok-message_start_time.ensures.ok c.take_u64.ensures in
    let second : NumberAt 8 content c.in_ok-message_start_time.at c.in_ok-message_end_time.message_end_time c.in_ok-message_end_time.at = subst (ReadsNumber 8 content c.in_ok-message_start_time.at) c.in_ok-message_end_time.ensures.ok c.take_u64-2.ensures in
    let third : NumberAt 8 content c.in_ok-message_end_time.at c.in_ok-uncompressed_size.uncompressed_size c.in_ok-uncompressed_size.at = subst (ReadsNumber 8 content c.in_ok-message_end_time.at) c.in_ok-uncompressed_size.ensures.ok c.take_u64-3.ensures in
    let fourth : NumberAt 4 content c.in_ok-uncompressed_size.at c.in_ok-uncompressed_crc.uncompressed_crc c.in_ok-uncompressed_crc.at = subst (ReadsNumber 4 content c.in_ok-uncompressed_size.at) c.in_ok-uncompressed_crc.ensures.ok c.take_u32.ensures in
    let bad = c.in_err-compression.field-0.0 in
    let fails : TextFails content c.in_ok-uncompressed_crc.at bad.why = subst (ReadsText content c.in_ok-uncompressed_crc.at) c.in_err-compression.ensures.err.1 c.take_text.ensures in
    let is : c.from_residual-in_err-compression.result ≡ Err bad = search rules in
    rw is (inr (_, _, first, inr (_, _, second, inr (_, _, third, inr (_, _, fourth, inl (c.in_err-compression.ensures.err.0, fails))))))

pub returns-in_err-compression-clause-none : goal.returns-in_err-compression-clause-none
returns-in_err-compression-clause-none c = chunk_none c.args.content.now c.from_residual-in_err-compression.result (returns-in_err-compression-clause-first_fault c)

pub returns-in_err-records-clause-first_fault : goal.returns-in_err-records-clause-first_fault
returns-in_err-records-clause-first_fault c =
    let content = c.args.content.now in
    let first : NumberAt 8 content 0 c.in_ok-message_start_time.message_start_time c.in_ok-message_start_time.at = subst (ReadsNumber 8 content 0) c.in_ok-message_start_time.ensures.ok c.take_u64.ensures in
    let second : NumberAt 8 content c.in_ok-message_start_time.at c.in_ok-message_end_time.message_end_time c.in_ok-message_end_time.at = subst (ReadsNumber 8 content c.in_ok-message_start_time.at) c.in_ok-message_end_time.ensures.ok c.take_u64-2.ensures in
    let third : NumberAt 8 content c.in_ok-message_end_time.at c.in_ok-uncompressed_size.uncompressed_size c.in_ok-uncompressed_size.at = subst (ReadsNumber 8 content c.in_ok-message_end_time.at) c.in_ok-uncompressed_size.ensures.ok c.take_u64-3.ensures in
    let fourth : NumberAt 4 content c.in_ok-uncompressed_size.at c.in_ok-uncompressed_crc.uncompressed_crc c.in_ok-uncompressed_crc.at = subst (ReadsNumber 4 content c.in_ok-uncompressed_size.at) c.in_ok-uncompressed_crc.ensures.ok c.take_u32.ensures in
    let fifth : TextAt content c.in_ok-uncompressed_crc.at c.in_ok-compression.compression.now c.in_ok-compression.at = subst (ReadsText content c.in_ok-uncompressed_crc.at) c.in_ok-compression.ensures.ok c.take_text.ensures in
    let bad = c.in_err-records.field-0.0 in
    let fails : BytesFail 8 content c.in_ok-compression.at bad.why = subst (ReadsBytes 8 content c.in_ok-compression.at) c.in_err-records.ensures.err.1 c.take_bytes64.ensures in
    let is : c.from_residual-in_err-records.result ≡ Err bad = search rules in
    rw is (inr (_, _, first, inr (_, _, second, inr (_, _, third, inr (_, _, fourth, inr (_, _, fifth, inl (c.in_err-records.ensures.err.0, fails)))))))

pub returns-in_err-records-clause-none : goal.returns-in_err-records-clause-none
returns-in_err-records-clause-none c = chunk_none c.args.content.now c.from_residual-in_err-records.result (returns-in_err-records-clause-first_fault c)

pub returns-clause-shown : goal.returns-clause-shown
returns-clause-shown c =
    let content = c.args.content.now in
    let first : NumberAt 8 content 0 c.in_ok-message_start_time.message_start_time c.in_ok-message_start_time.at = subst (ReadsNumber 8 content 0) c.in_ok-message_start_time.ensures.ok c.take_u64.ensures in
    let second : NumberAt 8 content c.in_ok-message_start_time.at c.in_ok-message_end_time.message_end_time c.in_ok-message_end_time.at = subst (ReadsNumber 8 content c.in_ok-message_start_time.at) c.in_ok-message_end_time.ensures.ok c.take_u64-2.ensures in
    let third : NumberAt 8 content c.in_ok-message_end_time.at c.in_ok-uncompressed_size.uncompressed_size c.in_ok-uncompressed_size.at = subst (ReadsNumber 8 content c.in_ok-message_end_time.at) c.in_ok-uncompressed_size.ensures.ok c.take_u64-3.ensures in
    let fourth : NumberAt 4 content c.in_ok-uncompressed_size.at c.in_ok-uncompressed_crc.uncompressed_crc c.in_ok-uncompressed_crc.at = subst (ReadsNumber 4 content c.in_ok-uncompressed_size.at) c.in_ok-uncompressed_crc.ensures.ok c.take_u32.ensures in
    let fifth : TextAt content c.in_ok-uncompressed_crc.at c.in_ok-compression.compression.now c.in_ok-compression.at = subst (ReadsText content c.in_ok-uncompressed_crc.at) c.in_ok-compression.ensures.ok c.take_text.ensures in
    let sixth : BytesAt 8 content c.in_ok-compression.at c.in_ok-records.records.now c.in_ok-records._after = subst (ReadsBytes 8 content c.in_ok-compression.at) c.in_ok-records.ensures.ok c.take_bytes64.ensures in
    (drop c.in_ok-records._after content, begins (a_number 8) _ content _ _ _ _ _ first (begins (a_number 8) _ content _ _ _ _ _ second (begins (a_number 8) _ content _ _ _ _ _ third (begins (a_number 4) _ content _ _ _ _ _ fourth (begins (a_text) _ content _ _ _ _ _ fifth (begins (some_bytes 8) _ content _ _ _ _ _ sixth (begins_end (drop c.in_ok-records._after content))))))))
