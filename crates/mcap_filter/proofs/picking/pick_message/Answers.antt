-- The Message was put after what it needs, or it isn't asked for.
use Rattle.std.proofs.Common.{sym, ◌∙◌, refl}
use Rattle.rec_data.specs.Parsed.{message_fields}
use Rattle.mcap_filter.specs.Picked.{asking}
use Rattle.mcap_filter.proofs.Messages.{message_left, message_put, message_stopped, untimely, unwanted}
use Rattle.record_keeping.proofs.Keepings.{keeps_same}
use Rattle.chunk_writer.proofs.Taking.{keeps_more}
use Rattle.mcap_filter.proofs.picking.pick_message.Goals as goal

pub returns-then-not-is_within-clause-takes : goal.returns-then-not-is_within-clause-takes
returns-then-not-is_within-clause-takes g c = λ asked.
    let a = asking c.args.range asked in
    let m = c.args.message.now in
    message_left g.L.LiveStore.state a c.args.k.now c.args.choices.now c.args.frame c.args.content.now m.channel_id (message_fields m) c.requires.going c.requires.shown
    (λ history finds. untimely a history m.channel_id (message_fields m) (sym c.is_within.ensures ∙ c.if-not-is_within.true))

pub returns-in-None-clause-takes : goal.returns-in-None-clause-takes
returns-in-None-clause-takes g c = λ asked.
    let a = asking c.args.range asked in
    let m = c.args.message.now in
    message_left g.L.LiveStore.state a c.args.k.now c.args.choices.now c.args.frame c.args.content.now m.channel_id (message_fields m) c.requires.going c.requires.shown
    (λ history finds. unwanted a c.args.choices.now history m.channel_id (message_fields m) finds c.in-None.ensures)

pub returns-in_err-put_channel-clause-takes : goal.returns-in_err-put_channel-clause-takes
returns-in_err-put_channel-clause-takes g c = λ asked.
    let m = c.args.message.now in
    message_stopped g.L.LiveStore.state (asking c.args.range asked) c.args.k.now c.put_channel.new.k c.args.choices.now c.args.frame c.args.content.now m.channel_id (message_fields m) c.in-Some.channel.now _ c.requires.going c.requires.shown
    c.in-Some.ensures (sym c.is_within.ensures ∙ c.if-not-is_within.false) c.in_err-put_channel.ensures.takes c.in_err-put_channel.ensures.stopped

pub returns-clause-takes : goal.returns-clause-takes
returns-clause-takes g c = λ asked.
    let m = c.args.message.now in
    message_put g.L.LiveStore.state (asking c.args.range asked) c.args.k.now c.put_channel.new.k c.put_message.new.k c.args.choices.now c.args.frame c.args.content.now m.channel_id (message_fields m) c.in-Some.channel.now c.requires.going c.requires.shown
    c.in-Some.ensures (sym c.is_within.ensures ∙ c.if-not-is_within.false) c.in_ok-put_channel.ensures.takes c.put_message.ensures.takes

pub returns-then-not-is_within-clause-keeps : goal.returns-then-not-is_within-clause-keeps
returns-then-not-is_within-clause-keeps g c = keeps_same g.L.LiveStore.state c.args.k.now.scribe.store _ refl

pub returns-in-None-clause-keeps : goal.returns-in-None-clause-keeps
returns-in-None-clause-keeps g c = keeps_same g.L.LiveStore.state c.args.k.now.scribe.store _ refl

pub returns-clause-keeps : goal.returns-clause-keeps
returns-clause-keeps g c = keeps_more (g.L.LiveStore.state c.args.k.now.scribe.store).held (g.L.LiveStore.state c.put_channel.new.k.scribe.store).held (g.L.LiveStore.state c.put_message.new.k.scribe.store).held c.in_ok-put_channel.ensures.keeps c.put_message.ensures.keeps
