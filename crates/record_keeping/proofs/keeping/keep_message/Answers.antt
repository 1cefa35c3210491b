use Rattle.std.proofs.Common.{ℕ, ◌+◌, refl, ap, ◌∙◌}
use Rattle.mcap_model.specs.History.{message_of}
use Rattle.record_keeping.specs.Keeping.{counted}
use Rattle.record_keeping.proofs.Keepings.{going_apart}
use Rattle.record_keeping.proofs.Inners.{message_framed, message_put}
use Rattle.record_keeping.proofs.keeping.keep_message.Goals as goal

pub put-requires-clause-framed : goal.put-requires-clause-framed
put-requires-clause-framed g c =
    let (channel, f, is) = c.requires.v6.message refl in
    (message_of channel f, record { framed = message_framed c.args.bytes.now c.args.content.now channel f c.requires.is is.layout; inner = refl })

pub returns-in-Err-clause-takes : goal.returns-in-Err-clause-takes
returns-in-Err-clause-takes g c =
    let (channel, f, is) = c.requires.v6.message refl in
    message_put g.L.LiveStore.state c.args.k.now c.put.new.k c.args.bytes.now c.args.content.now channel f is.layout c.requires.going
    (c.in-Err.ensures.grows (message_of channel f) (message_framed c.args.bytes.now c.args.content.now channel f c.requires.is is.layout))
    (λ going. absurd (going_apart c.put.new.k.scribe.plan.phase c.in-Err.stop c.in-Err.ensures.stopped going))

pub returns-clause-takes : goal.returns-clause-takes
returns-clause-takes g c =
    let (channel, f, is) = c.requires.v6.message refl in
    let (schemas, channels, messages, others) = c.in-Ok.ensures.same in
    message_put g.L.LiveStore.state c.args.k.now _ c.args.bytes.now c.args.content.now channel f is.layout c.requires.going
    (c.in-Ok.ensures.grows (message_of channel f) (message_framed c.args.bytes.now c.args.content.now channel f c.requires.is is.layout))
    (λ going. (ap (λ v. v.keys) schemas, ap (λ v. v.keys) channels, c.saturating_add-k.ensures ∙ ap (λ (n : ℕ). counted (n + 1)) messages, others, c.in-Ok.ensures.counts c.in-Ok.ensures.goes_on))
