use Rattle.std.proofs.Common.{rules, ◌≡◌, subst, inl, inr, Err, drop}
use Rattle.mcap_wire.specs.Reading.{TextAt, ReadsText}
use Rattle.mcap_wire.specs.MapReading.{PairsAt, PairsFail, ReadsPairs}
use Rattle.mcap_wire.specs.Contents.{a_text, a_text_map}
use Rattle.mcap_wire.proofs.Contents.{begins, begins_end}
use Rattle.rec_data.proofs.MapContents.{metadata_none}
use Rattle.rec_data.proofs.metadata.Metadata.parse.Goals as goal

pub returns-in_err-name-clause-none : goal.returns-in_err-name-clause-none
returns-in_err-name-clause-none c = metadata_none c.args.content.now c.from_residual.result (search rules)

pub returns-in_err-metadata-clause-first_fault : goal.returns-in_err-metadata-clause-first_fault
returns-in_err-metadata-clause-first_fault c =
    let content = c.args.content.now in
    let first : TextAt content 0 c.in_ok-name.name.now c.in_ok-name.at = subst (ReadsText content 0) c.in_ok-name.ensures.ok c.take_text.ensures in
    let bad = c.in_err-metadata.field-0.0 in
    let fails : PairsFail content c.in_ok-name.at bad.why = subst (ReadsPairs content c.in_ok-name.at) c.in_err-metadata.ensures.err.1 c.take_pairs.ensures in
    let is : c.from_residual-in_err-metadata.result ≡ Err bad = search rules in
    rw is (inr (_, _, first, inl (c.in_err-metadata.ensures.err.0, fails)))

pub returns-in_err-metadata-clause-none : goal.returns-in_err-metadata-clause-none
returns-in_err-metadata-clause-none c = metadata_none c.args.content.now c.from_residual-in_err-metadata.result (returns-in_err-metadata-clause-first_fault c)

pub returns-clause-shown : goal.returns-clause-shown
returns-clause-shown c =
    let content = c.args.content.now in
    let first : TextAt content 0 c.in_ok-name.name.now c.in_ok-name.at = subst (ReadsText content 0) c.in_ok-name.ensures.ok c.take_text.ensures in
    let second : PairsAt content c.in_ok-name.at c.in_ok-metadata.metadata c.in_ok-metadata._after = subst (ReadsPairs content c.in_ok-name.at) c.in_ok-metadata.ensures.ok c.take_pairs.ensures in
    (drop c.in_ok-metadata._after content, begins a_text _ content _ _ _ _ _ first (begins a_text_map _ content _ _ _ _ _ second (begins_end (drop c.in_ok-metadata._after content))))
