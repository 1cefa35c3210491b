use Rattle.std.proofs.Common.{◌≡◌, ◌++◌, sym, ap, append-nil, ◌∙◌, rules}
use Rattle.mcap_model.specs.Made.{top}
use Rattle.mcap_model.proofs.ShownMessages.{ok_then}
use Rattle.merge_walk.specs.SpanHeads.{heads_under}
use Rattle.merge_walk.specs.Spans.{spans_one}
use Rattle.merge_walk.proofs.Noted.{noted_other, listed_other}
use Rattle.merge_walk.proofs.noting.note_spans.Goals as goal

pub returns-in-5-clause-spans : goal.returns-in-5-clause-spans
returns-in-5-clause-spans c = ok_then c.note_message.result c.note_message.ensures.spans (λ noted. noted ∙ ap (λ n. c.args.spans.now.items ++ spans_one c.args.offset (top n c.args.content.now)) (sym c.in-5.is))

pub returns-in-5-clause-heads : goal.returns-in-5-clause-heads
returns-in-5-clause-heads c = ok_then c.note_message.result c.note_message.ensures.heads (λ listed. listed ∙ ap (λ n. heads_under (top n c.args.content.now)) (sym c.in-5.is))

pub returns-in-6-clause-spans : goal.returns-in-6-clause-spans
returns-in-6-clause-spans c = ok_then c.note_chunk.result c.note_chunk.ensures.spans (λ noted. noted ∙ ap (λ n. c.args.spans.now.items ++ spans_one c.args.offset (top n c.args.content.now)) (sym c.in-6.is))

pub returns-in-6-clause-heads : goal.returns-in-6-clause-heads
returns-in-6-clause-heads c = ok_then c.note_chunk.result c.note_chunk.ensures.heads (λ listed. listed ∙ ap (λ n. heads_under (top n c.args.content.now)) (sym c.in-6.is))

pub returns-in_default-clause-spans : goal.returns-in_default-clause-spans
returns-in_default-clause-spans c =
    let five : c.args.op ≡ 5 → ⊥ = search rules in
    let six : c.args.op ≡ 6 → ⊥ = search rules in
    sym (append-nil c.args.spans.now.items) ∙ ap (λ l. c.args.spans.now.items ++ l) (sym (noted_other c.args.offset c.args.op c.args.content.now five six))

pub returns-in_default-clause-heads : goal.returns-in_default-clause-heads
returns-in_default-clause-heads c =
    let five : c.args.op ≡ 5 → ⊥ = search rules in
    let six : c.args.op ≡ 6 → ⊥ = search rules in
    c.clear.ensures.items ∙ sym (listed_other c.args.op c.args.content.now five six)
