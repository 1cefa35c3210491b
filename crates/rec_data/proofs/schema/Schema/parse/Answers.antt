use Rattle.std.proofs.Common.{rules, ◌≡◌, subst, inl, inr, Err, drop}
use Rattle.mcap_wire.specs.Reading.{ReadsNumber, TextAt, ReadsText, BytesAt, BytesFail, ReadsBytes}
use Rattle.mcap_wire.specs.Layout.{NumberAt}
use Rattle.mcap_wire.specs.Contents.{a_number, a_text, some_bytes}
use Rattle.mcap_wire.proofs.Contents.{begins, begins_end}
use Rattle.rec_data.proofs.Contents.{schema_none}
use Rattle.rec_data.proofs.schema.Schema.parse.Goals as goal

pub returns-in_err-id-clause-none : goal.returns-in_err-id-clause-none
returns-in_err-id-clause-none c = schema_none c.args.content.now c.from_residual.result (search rules)

pub returns-in_err-name-clause-none : goal.returns-in_err-name-clause-none
returns-in_err-name-clause-none c = schema_none c.args.content.now c.from_residual-in_err-name.result (search rules)

pub returns-in_err-encoding-clause-none : goal.returns-in_err-encoding-clause-none
returns-in_err-encoding-clause-none c = schema_none c.args.content.now c.from_residual-in_err-encoding.result (search rules)

pub returns-in_err-payload-clause-first_fault : goal.returns-in_err-payload-clause-first_fault
returns-in_err-payload-clause-first_fault c =
    let content = c.args.content.now in
    let first : NumberAt 2 content 0 c.in_ok-id.id c.in_ok-id.at = subst (ReadsNumber 2 content 0) c.in_ok-id.ensures.ok c.take_u16.ensures in
    let second : TextAt content c.in_ok-id.at c.in_ok-name.name.now c.in_ok-name.at = subst (ReadsText content c.in_ok-id.at) c.in_ok-name.ensures.ok c.take_text.ensures in
    let third : TextAt content c.in_ok-name.at c.in_ok-encoding.encoding.now c.in_ok-encoding.at = subst (ReadsText content c.in_ok-name.at) c.in_ok-encoding.ensures.ok c.take_text-2.ensures in
    let bad = c.in_err-payload.field-0.0 in
    let fails : BytesFail 4 content c.in_ok-encoding.at bad.why = subst (ReadsBytes 4 content c.in_ok-encoding.at) c.in_err-payload.ensures.err.1 c.take_bytes32.ensures in
    let is : c.from_residual-in_err-payload.result ≡ Err bad = search rules in
    rw is (inr (_, _, first, inr (_, _, second, inr (_, _, third, inl (c.in_err-payload.ensures.err.0, fails)))))

pub returns-in_err-payload-clause-none : goal.returns-in_err-payload-clause-none
returns-in_err-payload-clause-none c = schema_none c.args.content.now c.from_residual-in_err-payload.result (returns-in_err-payload-clause-first_fault c)

pub returns-clause-shown : goal.returns-clause-shown
returns-clause-shown c =
    let content = c.args.content.now in
    let first : NumberAt 2 content 0 c.in_ok-id.id c.in_ok-id.at = subst (ReadsNumber 2 content 0) c.in_ok-id.ensures.ok c.take_u16.ensures in
    let second : TextAt content c.in_ok-id.at c.in_ok-name.name.now c.in_ok-name.at = subst (ReadsText content c.in_ok-id.at) c.in_ok-name.ensures.ok c.take_text.ensures in
    let third : TextAt content c.in_ok-name.at c.in_ok-encoding.encoding.now c.in_ok-encoding.at = subst (ReadsText content c.in_ok-name.at) c.in_ok-encoding.ensures.ok c.take_text-2.ensures in
    let fourth : BytesAt 4 content c.in_ok-encoding.at c.in_ok-payload.payload.now c.in_ok-payload._after = subst (ReadsBytes 4 content c.in_ok-encoding.at) c.in_ok-payload.ensures.ok c.take_bytes32.ensures in
    (drop c.in_ok-payload._after content, begins (a_number 2) _ content _ _ _ _ _ first (begins a_text _ content _ _ _ _ _ second (begins a_text _ content _ _ _ _ _ third (begins (some_bytes 4) _ content _ _ _ _ _ fourth (begins_end (drop c.in_ok-payload._after content))))))
