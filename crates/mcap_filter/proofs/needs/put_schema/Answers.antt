use Rattle.std.proofs.Common.{[], ◌∷◌, inl, inr, refl}
use Rattle.mcap_model.specs.Made.{top}
use Rattle.mcap_filter.proofs.Messages.{declared_schema, no_schema_put, takes_none}
use Rattle.record_keeping.proofs.Keepings.{keeps_same}
use Rattle.mcap_filter.proofs.needs.put_schema.Goals as goal

pub returns-then-id-eq0-clause-takes : goal.returns-then-id-eq0-clause-takes
returns-then-id-eq0-clause-takes g c = ([], inl (c.if-id-eq0.true, refl), takes_none g.L.LiveStore.state c.args.k.now)

pub returns-in-None-clause-takes : goal.returns-in-None-clause-takes
returns-in-None-clause-takes g c = ([], inr (c.if-id-eq0.false, inl (c.in-None.ensures, refl)), takes_none g.L.LiveStore.state c.args.k.now)

pub returns-in-Ok-clause-takes : goal.returns-in-Ok-clause-takes
returns-in-Ok-clause-takes g c = (top 3 c.in-Some.content.now ∷ [], declared_schema c.args.schemas.now c.args.id c.in-Some.content.now c.if-id-eq0.false c.in-Some.ensures, c.keep_schema.ensures.takes c.in-Some.content.now c.in-Ok.ensures.shown)

pub returns-in-Err-clause-takes : goal.returns-in-Err-clause-takes
returns-in-Err-clause-takes g c = (top 3 c.in-Some.content.now ∷ [], declared_schema c.args.schemas.now c.args.id c.in-Some.content.now c.if-id-eq0.false c.in-Some.ensures, no_schema_put g.L.LiveStore.state c.args.k.now c.in-Some.content.now c.in-Err.ensures.none)

pub returns-then-id-eq0-clause-keeps : goal.returns-then-id-eq0-clause-keeps
returns-then-id-eq0-clause-keeps g c = keeps_same g.L.LiveStore.state c.args.k.now.scribe.store _ refl

pub returns-in-None-clause-keeps : goal.returns-in-None-clause-keeps
returns-in-None-clause-keeps g c = keeps_same g.L.LiveStore.state c.args.k.now.scribe.store _ refl

pub returns-in-Err-clause-keeps : goal.returns-in-Err-clause-keeps
returns-in-Err-clause-keeps g c = keeps_same g.L.LiveStore.state c.args.k.now.scribe.store _ refl
