-- An extra is counted, and noted.
use Rattle.std.proofs.Common.{refl, sym, subst, length}
use Rattle.chunk_writer.specs.Held.{planning}
use Rattle.chunk_writer.specs.Planning.{Planning}
use Rattle.chunk_writer.specs.Plans.{IsFilled}
use Rattle.chunk_writer.proofs.Gathered.{filled_more, extra_aside}
use Rattle.chunk_writer.proofs.plan.Plan.note_extra.Goals as goal

pub returns-clause-ok : goal.returns-clause-ok
returns-clause-ok c = λ t is options extras history filled.
    filled_more options extras t history (planning c.self.inside) c.note_behind.new.body c.self.inside.phase c.args.framed.now (length c.args.framed.now) is refl (c.in-Ok-note_behind.ensures t is)
    (subst (λ (v : Planning). IsFilled options extras history v) (sym c.self.view_is) filled)

pub note_behind-requires-clause-extra : goal.note_behind-requires-clause-extra
note_behind-requires-clause-extra c = extra_aside c.args.framed.now c.requires.extra
