use Rattle.std.proofs.Common.{◌<◌, List, length, false, refl, sym, subst, ◌∙◌}
use Rattle.std.proofs.lemmas.Bool.{both_ways}
use Rattle.mcap_model.specs.Places.{At, Has}
use Rattle.mcap_model.proofs.Places.{at_within}
use Rattle.mcap_scan.specs.declared.message_heads.MessageHead.{MessageHead}
use Rattle.index_check.proofs.Apart.{front_more, at_index, inside}
use Rattle.index_check.proofs.chunk_messages.ChunkMessages.are_on.Goals as goal

pub returns-then-not-has : goal.returns-then-not-has
returns-then-not-has c = (
  λ e. absurd (both_ways false refl e),
  λ on.
      let items = c.self.inside.messages.items in
      let within : c.messages.i < length items = subst (λ n. c.messages.i < n) (c.len-i-end.ensures ∙ c.self.inside.messages.ok.0) c.messages-test.true in
      let at = subst (λ (l : List MessageHead). At l c.messages.i c.index.result.now) c.self.view_is (at_index items c.messages.i c.index.result.now within c.index.ensures) in
      absurd (both_ways c.has.result c.if-not-has.true (c.has.ensures.1 (on c.messages.i c.index.result.now at))),
)

pub messages-preserved : goal.messages-preserved
messages-preserved c =
    let items = c.self.inside.messages.items in
    let within : c.messages.i < length items = subst (λ n. c.messages.i < n) (c.len-i-end.ensures ∙ c.self.inside.messages.ok.0) c.messages-test.true in
    let at = subst (λ (l : List MessageHead). At l c.messages.i c.index.result.now) c.self.view_is (at_index items c.messages.i c.index.result.now within c.index.ensures) in
    front_more (λ (heard : MessageHead). Has c.args.channels.now heard.channel) c.args.self.now c.messages.i c.index.result.now c.messages.invariant at (c.has.ensures.0 c.if-not-has.false)

pub returns : goal.returns
returns c = (
  λ e n x at.
      let within = at_within c.self.inside.messages.items n x (subst (λ (l : List MessageHead). At l n x) (sym c.self.view_is) at) in
      c.messages.invariant n x at (inside n c.messages.i c.len-i-end.result (length c.self.inside.messages.items) within c.messages-test.false (c.len-i-end.ensures ∙ c.self.inside.messages.ok.0)),
  λ on. refl,
)
