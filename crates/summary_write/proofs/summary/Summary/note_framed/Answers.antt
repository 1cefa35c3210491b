-- A framed record is noted by what its bytes say.
use Rattle.std.proofs.Common.{refl, sym, ◌∙◌}
use Rattle.std.proofs.lemmas.Result.{on_ok_weaker}
use Rattle.summary_write.specs.Fields.{tally_of}
use Rattle.summary_write.proofs.Tallying.{stands_by}
use Rattle.summary_write.proofs.Framed.{schema_noted, channel_noted}
use Rattle.summary_write.proofs.summary.Summary.note_framed.Goals as goal

pub returns-in-Some-clause-ok : goal.returns-in-Some-clause-ok
returns-in-Some-clause-ok c =
    on_ok_weaker c.note_message.result
    (λ noted r is n stands. stands_by c.args.self.now c.args.self.now c.note_message.new.self n r is.inner refl (noted r (sym (c.mark_of_bytes.ensures.mark r is.framed) ∙ c.in-Some.is)) stands) c.note_message.ensures.ok

pub returns-in-Ok-clause-ok : goal.returns-in-Ok-clause-ok
returns-in-Ok-clause-ok c r is n stands =
    stands_by (tally_of c.self.inside) c.args.self.now _ n r is.inner c.self.view_is
    (schema_noted (tally_of c.self.inside) c.args.bytes.now r c.id_of_bytes-id.result c.declare.new.ids.keys c.declare.new.framed.items is.framed c.if-bytes-eq-SCHEMA.true (c.id_of_bytes-id.ensures r is)
    c.in-Ok.ensures.ids c.in-Ok.ensures.framed) stands

pub returns-in-Ok-declare-clause-ok : goal.returns-in-Ok-declare-clause-ok
returns-in-Ok-declare-clause-ok c r is n stands =
    stands_by (tally_of c.self.inside) c.args.self.now _ n r is.inner c.self.view_is
    (channel_noted (tally_of c.self.inside) c.args.bytes.now r c.id_of_bytes-id.result c.declare-2.new.ids.keys c.declare-2.new.framed.items is (sym c.in-None.is ∙ c.mark_of_bytes.ensures.mark r is.framed)
    c.if-bytes-eq-SCHEMA.false (c.id_of_bytes-id.ensures r is) c.in-Ok-declare.ensures.ids c.in-Ok-declare.ensures.framed) stands
