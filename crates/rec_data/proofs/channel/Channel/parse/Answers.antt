use Rattle.std.proofs.Common.{rules, ◌≡◌, subst, inl, inr, Err, drop}
use Rattle.mcap_wire.specs.Reading.{ReadsNumber, TextAt, TextFails, ReadsText}
use Rattle.mcap_wire.specs.Layout.{NumberAt}
use Rattle.mcap_wire.specs.MapReading.{PairsAt, PairsFail, ReadsPairs}
use Rattle.mcap_wire.specs.Contents.{a_number, a_text, a_text_map}
use Rattle.mcap_wire.proofs.Contents.{begins, begins_end}
use Rattle.rec_data.proofs.MapContents.{channel_none}
use Rattle.rec_data.proofs.channel.Channel.parse.Goals as goal

pub returns-in_err-id-clause-none : goal.returns-in_err-id-clause-none
returns-in_err-id-clause-none c = channel_none c.args.content.now c.from_residual.result (search rules)

pub returns-in_err-schema_id-clause-none : goal.returns-in_err-schema_id-clause-none
returns-in_err-schema_id-clause-none c = channel_none c.args.content.now c.from_residual-in_err-schema_id.result (search rules)

pub returns-in_err-topic-clause-none : goal.returns-in_err-topic-clause-none
returns-in_err-topic-clause-none c = channel_none c.args.content.now c.from_residual-in_err-topic.result (search rules)

pub returns-in_err-message_encoding-clause-first_fault : goal.returns-in_err-message_encoding-clause-first_fault
returns-in_err-message_encoding-clause-first_fault c =
    let content = c.args.content.now in
    let first : NumberAt 2 content 0 c.in_ok-id.id c.in_ok-id.at = subst (ReadsNumber 2 content 0) c.in_ok-id.ensures.ok c.take_u16.ensures in
    let second : NumberAt 2 content c.in_ok-id.at c.in_ok-schema_id.schema_id c.in_ok-schema_id.at = subst (ReadsNumber 2 content c.in_ok-id.at) c.in_ok-schema_id.ensures.ok c.take_u16-2.ensures in
    let third : TextAt content c.in_ok-schema_id.at c.in_ok-topic.topic.now c.in_ok-topic.at = subst (ReadsText content c.in_ok-schema_id.at) c.in_ok-topic.ensures.ok c.take_text.ensures in
    let bad = c.in_err-message_encoding.field-0.0 in
    let fails : TextFails content c.in_ok-topic.at bad.why = subst (ReadsText content c.in_ok-topic.at) c.in_err-message_encoding.ensures.err.1 c.take_text-2.ensures in
    let is : c.from_residual-in_err-message_encoding.result ≡ Err bad = search rules in
    rw is (inr (_, _, first, inr (_, _, second, inr (_, _, third, inl (c.in_err-message_encoding.ensures.err.0, fails)))))

pub returns-in_err-message_encoding-clause-none : goal.returns-in_err-message_encoding-clause-none
returns-in_err-message_encoding-clause-none c = channel_none c.args.content.now c.from_residual-in_err-message_encoding.result (returns-in_err-message_encoding-clause-first_fault c)

pub returns-in_err-metadata-clause-first_fault : goal.returns-in_err-metadata-clause-first_fault
returns-in_err-metadata-clause-first_fault c =
    let content = c.args.content.now in
    let first : NumberAt 2 content 0 c.in_ok-id.id c.in_ok-id.at = subst (ReadsNumber 2 content 0) c.in_ok-id.ensures.ok c.take_u16.ensures in
    let second : NumberAt 2 content c.in_ok-id.at c.in_ok-schema_id.schema_id c.in_ok-schema_id.at = subst (ReadsNumber 2 content c.in_ok-id.at) c.in_ok-schema_id.ensures.ok c.take_u16-2.ensures in
    let third : TextAt content c.in_ok-schema_id.at c.in_ok-topic.topic.now c.in_ok-topic.at = subst (ReadsText content c.in_ok-schema_id.at) c.in_ok-topic.ensures.ok c.take_text.ensures in
    let fourth : TextAt content c.in_ok-topic.at c.in_ok-message_encoding.message_encoding.now c.in_ok-message_encoding.at = subst (ReadsText content c.in_ok-topic.at) c.in_ok-message_encoding.ensures.ok c.take_text-2.ensures in
    let bad = c.in_err-metadata.field-0.0 in
    let fails : PairsFail content c.in_ok-message_encoding.at bad.why = subst (ReadsPairs content c.in_ok-message_encoding.at) c.in_err-metadata.ensures.err.1 c.take_pairs.ensures in
    let is : c.from_residual-in_err-metadata.result ≡ Err bad = search rules in
    rw is (inr (_, _, first, inr (_, _, second, inr (_, _, third, inr (_, _, fourth, inl (c.in_err-metadata.ensures.err.0, fails))))))

pub returns-in_err-metadata-clause-none : goal.returns-in_err-metadata-clause-none
returns-in_err-metadata-clause-none c = channel_none c.args.content.now c.from_residual-in_err-metadata.result (returns-in_err-metadata-clause-first_fault c)

pub returns-clause-shown : goal.returns-clause-shown
returns-clause-shown c =
    let content = c.args.content.now in
    let first : NumberAt 2 content 0 c.in_ok-id.id c.in_ok-id.at = subst (ReadsNumber 2 content 0) c.in_ok-id.ensures.ok c.take_u16.ensures in
    let second : NumberAt 2 content c.in_ok-id.at c.in_ok-schema_id.schema_id c.in_ok-schema_id.at = subst (ReadsNumber 2 content c.in_ok-id.at) c.in_ok-schema_id.ensures.ok c.take_u16-2.ensures in
    let third : TextAt content c.in_ok-schema_id.at c.in_ok-topic.topic.now c.in_ok-topic.at = subst (ReadsText content c.in_ok-schema_id.at) c.in_ok-topic.ensures.ok c.take_text.ensures in
    let fourth : TextAt content c.in_ok-topic.at c.in_ok-message_encoding.message_encoding.now c.in_ok-message_encoding.at = subst (ReadsText content c.in_ok-topic.at) c.in_ok-message_encoding.ensures.ok c.take_text-2.ensures in
    let fifth : PairsAt content c.in_ok-message_encoding.at c.in_ok-metadata.metadata c.in_ok-metadata._after = subst (ReadsPairs content c.in_ok-message_encoding.at) c.in_ok-metadata.ensures.ok c.take_pairs.ensures in
    (drop c.in_ok-metadata._after content, begins (a_number 2) _ content _ _ _ _ _ first (begins (a_number 2) _ content _ _ _ _ _ second (begins a_text _ content _ _ _ _ _ third (begins a_text _ content _ _ _ _ _ fourth (begins a_text_map _ content _ _ _ _ _ fifth (begins_end (drop c.in_ok-metadata._after content)))))))
