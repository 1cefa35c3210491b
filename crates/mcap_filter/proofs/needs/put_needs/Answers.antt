use Rattle.std.proofs.Common.{[], ◌∷◌}
use Rattle.mcap_model.specs.Made.{top}
use Rattle.mcap_filter.proofs.Messages.{takes_on, takes_stopped}
use Rattle.chunk_writer.proofs.Taking.{keeps_more}
use Rattle.mcap_filter.proofs.needs.put_needs.Goals as goal

pub returns-in_err-put_schema-clause-takes : goal.returns-in_err-put_schema-clause-takes
returns-in_err-put_schema-clause-takes g c = λ content shown.
    let (declared, is, takes) = c.in_err-put_schema.ensures.takes in
    (declared, is, takes_stopped g.L.LiveStore.state c.args.k.now c.put_schema.new.k declared (top 4 content ∷ []) _ c.in_err-put_schema.ensures.stopped takes)

pub returns-clause-takes : goal.returns-clause-takes
returns-clause-takes g c = λ content shown.
    let (declared, is, takes) = c.in_ok-put_schema.ensures.takes in
    (declared, is, takes_on g.L.LiveStore.state c.args.k.now c.put_schema.new.k c.keep_channel.new.k declared (top 4 content ∷ []) takes (c.keep_channel.ensures.takes content shown))

pub returns-clause-keeps : goal.returns-clause-keeps
returns-clause-keeps g c = keeps_more (g.L.LiveStore.state c.args.k.now.scribe.store).held (g.L.LiveStore.state c.put_schema.new.k.scribe.store).held (g.L.LiveStore.state c.keep_channel.new.k.scribe.store).held c.in_ok-put_schema.ensures.keeps c.keep_channel.ensures.keeps
