-- A history is ended.
use Rattle.std.proofs.Common.{List, ℕ, length, ap, sym, subst, ◌∙◌}
use Rattle.mcap_model.specs.File.{front}
use Rattle.chunk_writer.specs.declared.phase.Phase.TheVariants as phases
use Rattle.chunk_writer.specs.Held.{planning}
use Rattle.chunk_writer.specs.Planning.{Planning}
use Rattle.chunk_writer.specs.Plans.{Plans, LastStopped}
use Rattle.chunk_writer.proofs.Planned.{has_size, ended_plain, ended_waits, ended_block, stopped_last}
use Rattle.chunk_writer.proofs.plan.Plan.last.Goals as goal

pub returns-in-None-clause-ok : goal.returns-in-None-clause-ok
returns-in-None-clause-ok c = λ o h plans.
    ended_plain o h (planning c.self.inside) phases.Ended c.in-None.is (subst (λ (v : Planning). Plans o h v) (sym c.self.view_is) plans)

pub last_block-requires-clause-stands : goal.last_block-requires-clause-stands
last_block-requires-clause-stands c =
    let (o, h, plans) = c.self.invariant.stands (ap (λ (v : Planning). v.phase) c.self.view_is ∙ c.requires.goes_on) in
    let (size, chunk, so) = has_size o h (planning c.self.inside) c.in-Some.body c.in-Some.is plans in
    (size, o.span, length (front o.profile), h, so)

pub returns-in-Ok-None-clause-ok : goal.returns-in-Ok-None-clause-ok
returns-in-Ok-None-clause-ok c = λ o h plans.
    ended_waits o h (planning c.self.inside) c.in-Some.body c.last_block.new.body _ phases.Ended c.in-Ok-None.field-0-is c.in-Some.is
    (subst (λ (v : Planning). Plans o h v) (sym c.self.view_is) plans) c.in-Ok-None.ensures.ok

pub returns-in-Ok-Some-clause-ok : goal.returns-in-Ok-Some-clause-ok
returns-in-Ok-Some-clause-ok c = λ o h plans.
    ended_block o h (planning c.self.inside) c.in-Some.body c.last_block.new.body _ c.in-Ok-Some.block phases.Ended (length c.as_slice.result.now) c.in-Ok-Some.field-0-is c.in-Some.is
    (ap (λ (l : List ℕ). length l) c.as_slice.ensures) c.in-Ok-Some.ensures.room (subst (λ (v : Planning). Plans o h v) (sym c.self.view_is) plans) c.in-Ok-Some.ensures.ok

pub returns-in-Err-clause-err : goal.returns-in-Err-clause-err
returns-in-Err-clause-err c = λ o h.
    subst (λ (v : Planning). Plans o h v → LastStopped o.chunk o.span h v.blocks v.bytes c.in-Err.stop) c.self.view_is
    (λ plans. stopped_last o h (planning c.self.inside) c.in-Some.body c.in-Err.stop c.in-Some.is plans c.in-Err.ensures.err)
