use Rattle.std.proofs.Common.{ℕ, List, ◌∷◌, [], sym, subst, ◌∙◌}
use Rattle.std.proofs.lemmas.Result.{IfOk-weaker, on_ok_weaker}
use Rattle.chunk_build.specs.Chunker.{AreFramed}
use Rattle.chunk_writer.specs.Scribes.{blocks_through}
use Rattle.chunk_writer.proofs.Gathered.{extra_meets}
use Rattle.chunk_writer.proofs.Taking.{stopped_on}
use Rattle.chunk_writer.proofs.Writing.{going_apart}
use Rattle.chunk_writer.proofs.scribe.Scribe.put.Goals as goal

pub returns-in-Stopped-clause-stands : goal.returns-in-Stopped-clause-stands
returns-in-Stopped-clause-stands g c = λ options extras opened history (stands, waits, through).
    (stopped_on options opened.held _ history (c.args.r.now ∷ []) c.args.self.now.plan c.in-Stopped.stop (sym c.phase.ensures ∙ c.in-Stopped.is) stands, waits, through)

pub returns-clause-stands : goal.returns-clause-stands
returns-clause-stands g c = c.put_framed.ensures.grows c.args.r.now (subst (λ (l : List ℕ). AreFramed l c.args.r.now) (sym c.as_slice.ensures) c.in-Ok.ensures)

pub returns-clause-entry : goal.returns-clause-entry
returns-clause-entry g c = IfOk-weaker c.put_framed.result _ _ (λ entry gives. gives c.args.r.now (subst (λ (l : List ℕ). AreFramed l c.args.r.now) (sym c.as_slice.ensures) c.in-Ok.ensures)) c.put_framed.ensures.entry

pub returns-clause-goes_on : goal.returns-clause-goes_on
returns-clause-goes_on g c = on_ok_weaker c.put_framed.result (λ after. (sym c.phase.ensures ∙ c.in-Going.is, after)) c.put_framed.ensures.goes_on

pub returns-clause-kept : goal.returns-clause-kept
returns-clause-kept g c = λ stop stopped. absurd (going_apart c.args.self.now.plan.phase stop stopped (sym c.phase.ensures ∙ c.in-Going.is))

pub returns-clause-cause : goal.returns-clause-cause
returns-clause-cause g c = λ going. c.put_framed.ensures.cause

pub returns-clause-through : goal.returns-clause-through
returns-clause-through g c =
    on_ok_weaker c.put_framed.result
    (blocks_through g.L.LiveStore.state c.args.self.now c.put_framed.new.self (c.args.r.now ∷ []) (c.put_framed.ensures.grows c.args.r.now (subst (λ (l : List ℕ). AreFramed l c.args.r.now) (sym c.as_slice.ensures) c.in-Ok.ensures)))
    c.put_framed.ensures.goes_on

pub framed_of-requires-clause-extra : goal.framed_of-requires-clause-extra
framed_of-requires-clause-extra g c = extra_meets c.args.r.now c.requires.extra
