-- What a record shows was kept.
use Rattle.std.proofs.Common.{rules, ◌≡◌, ℕ, refl, subst}
use Rattle.mcap_wire.specs.Layout.{framed}
use Rattle.mcap_model.specs.Made.{top}
use Rattle.mcap_model.specs.Rules.{V6}
use Rattle.record_keeping.specs.Keeping.{extras_of, IsFrame}
use Rattle.record_keeping.proofs.Inners.{one_taken, other_taken}
use Rattle.record_keeping.proofs.keeping.keep_record.Goals as goal

pub keep_message-requires-clause-is : goal.keep_message-requires-clause-is
keep_message-requires-clause-is g c = subst (λ (n : ℕ). c.in-Some.bytes.now ≡ framed n c.args.content.now) c.if-op-eq-MESSAGE.true (subst (IsFrame c.args.op c.args.content.now) c.in-Some.is c.requires.framed)

pub keep_message-requires-clause-v6 : goal.keep_message-requires-clause-v6
keep_message-requires-clause-v6 g c = subst (λ (n : ℕ). V6 (top n c.args.content.now)) c.if-op-eq-MESSAGE.true c.requires.v6

pub keep_lone_message-requires-clause-v6 : goal.keep_lone_message-requires-clause-v6
keep_lone_message-requires-clause-v6 g c = subst (λ (n : ℕ). V6 (top n c.args.content.now)) c.if-op-eq-MESSAGE.true c.requires.v6

pub returns-in-Some-clause-takes : goal.returns-in-Some-clause-takes
returns-in-Some-clause-takes g c = one_taken g.L.LiveStore.state c.args.k.now c.keep_message.new.k c.args.frame c.args.op 5 c.args.content.now c.if-op-eq-MESSAGE.true refl refl c.keep_message.ensures.takes

pub returns-in-None-clause-takes : goal.returns-in-None-clause-takes
returns-in-None-clause-takes g c = one_taken g.L.LiveStore.state c.args.k.now c.keep_lone_message.new.k c.args.frame c.args.op 5 c.args.content.now c.if-op-eq-MESSAGE.true refl refl c.keep_lone_message.ensures.takes

pub returns-in-Schema-clause-takes : goal.returns-in-Schema-clause-takes
returns-in-Schema-clause-takes g c = one_taken g.L.LiveStore.state c.args.k.now c.keep_schema.new.k c.args.frame c.args.op 3 c.args.content.now c.in-Schema.ensures.0 refl refl (c.keep_schema.ensures.takes c.args.content.now c.in-Schema.ensures.1)

pub returns-in-Channel-clause-takes : goal.returns-in-Channel-clause-takes
returns-in-Channel-clause-takes g c = one_taken g.L.LiveStore.state c.args.k.now c.keep_channel.new.k c.args.frame c.args.op 4 c.args.content.now c.in-Channel.ensures.0 refl refl (c.keep_channel.ensures.takes c.args.content.now c.in-Channel.ensures.1)

pub returns-in-Header-clause-takes : goal.returns-in-Header-clause-takes
returns-in-Header-clause-takes g c =
    other_taken g.L.LiveStore.state c.args.k.now c.keep_other.new.k c.args.frame c.args.op c.args.content.now (extras_of c.args.frame (top c.args.op c.args.content.now)) (λ kind. search rules) (λ kind. search rules) (λ kind. search rules)
    refl c.keep_other.ensures.takes
