use Rattle.std.proofs.Common.{◌≡◌, ◌++◌, List, length, refl, ap, ◌∙◌}
use Rattle.rec_index.specs.Parsed.{chunk_fields}
use Rattle.mcap_model.specs.Made.{top}
use Rattle.mcap_model.specs.Fields.{IsChunk}
use Rattle.mcap_model.proofs.ShownMessages.{ok_then}
use Rattle.mcap_scan.specs.declared.message_heads.MessageHead.{MessageHead}
use Rattle.mcap_scan.specs.Heads.{heads_in}
use Rattle.merge_walk.specs.SpanHeads.{times_in}
use Rattle.merge_walk.specs.Spans.{spans_timed}
use Rattle.merge_walk.proofs.ListedSpans.{chunk_listed}
use Rattle.merge_walk.proofs.Noted.{noted_chunk}
use Rattle.merge_walk.proofs.noting.note_chunk.Goals as goal

pub returns-clause-spans : goal.returns-clause-spans
returns-clause-spans c =
    let f = chunk_fields c.in-Ok.chunk in
    let shows : IsChunk (top 6 c.args.content.now) f = record { kind = refl; layout = c.in-Ok.ensures.shown } in
    let at = c.in_ok-at.at in
    let listed : c.list_heads.new.heads.items ≡ heads_in f.records = c.in_ok-list_heads.ensures ∙ ap (λ (l : List MessageHead). l ++ heads_in f.records) c.requires in
    ok_then c.add_span.result c.add_span.ensures (λ added.
    added
    ∙ ap (λ (l : List MessageHead). c.args.spans.now.items ++ spans_timed c.args.offset at (length f.records) (times_in l)) (c.deref.ensures.value ∙ listed)
    ∙ ap (λ l. c.args.spans.now.items ++ l) (noted_chunk c.args.offset c.args.content.now f at (length f.records) shows c.in_ok-at.ensures refl))

pub returns-clause-heads : goal.returns-clause-heads
returns-clause-heads c =
    let f = chunk_fields c.in-Ok.chunk in
    let shows : IsChunk (top 6 c.args.content.now) f = record { kind = refl; layout = c.in-Ok.ensures.shown } in
    ok_then c.add_span.result c.add_span.ensures (λ added.
    c.in_ok-list_heads.ensures ∙ ap (λ (l : List MessageHead). l ++ heads_in f.records) c.requires ∙ chunk_listed c.args.content.now f shows)
