use Rattle.std.proofs.Common.{◌≡◌, ◌++◌, ◌∷◌, [], List, sym, ap, ◌∙◌, append-nil}
use Rattle.mcap_model.specs.Made.{top}
use Rattle.mcap_model.proofs.ShownMessages.{ok_then}
use Rattle.mcap_scan.specs.declared.message_heads.MessageHead.{MessageHead}
use Rattle.merge_walk.specs.SpanHeads.{heads_one, heads_under, times_in}
use Rattle.merge_walk.specs.Spans.{spans_timed}
use Rattle.merge_walk.proofs.Noted.{noted_message}
use Rattle.merge_walk.proofs.noting.note_message.Goals as goal

pub returns-clause-spans : goal.returns-clause-spans
returns-clause-spans c =
    let old = c.args.spans.now.items in
    let at = c.args.offset in
    let len = c.in_ok-length.length in
    let listed : c.push.new.self.items ≡ heads_under (top 5 c.args.content.now) =
    c.in-Ok.ensures.items
    ∙ ap (λ (l : List MessageHead). l ++ c.in_ok-head.head ∷ []) c.requires
    ∙ sym c.in_ok-head.ensures
    ∙ sym (append-nil (heads_one 0 (top 5 c.args.content.now))) in
    ok_then c.add_span.result c.add_span.ensures (λ added.
    added
    ∙ ap (λ (l : List MessageHead). old ++ spans_timed at at len (times_in l)) (c.deref.ensures.value ∙ listed)
    ∙ ap (λ l. old ++ l) (noted_message at c.args.content.now len c.in_ok-length.ensures))
