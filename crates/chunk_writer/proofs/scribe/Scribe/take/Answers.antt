use Rattle.std.proofs.Common.{[], length, Some, refl, sym, ap, ◌∙◌, append-nil, arith}
use Rattle.std.proofs.lemmas.Result.{on_ok_weaker}
use Rattle.chunk_writer.proofs.Writing.{going_apart}
use Rattle.chunk_writer.proofs.Taking.{front_so, stopped_on}
use Rattle.chunk_writer.proofs.scribe.Scribe.take.Goals as goal

pub returns-in-Going-clause-grows : goal.returns-in-Going-clause-grows
returns-in-Going-clause-grows g c = c.put_all-end.ensures.grows

pub returns-in-Going-clause-front : goal.returns-in-Going-clause-front
returns-in-Going-clause-front g c = λ going.
    front_so g.L.LiveStore.state _ c.args.self.now c.args.full.records _ _ _ _ _ (ap (λ v. v.items) c.taken.ensures.entries) c.taken.ensures.end c.put_all-end.ensures.front

pub returns-in-Going-clause-counted : goal.returns-in-Going-clause-counted
returns-in-Going-clause-counted g c = rw c.taken.ensures.entries c.put_all-end.ensures.counted

pub returns-in-Going-clause-keeps : goal.returns-in-Going-clause-keeps
returns-in-Going-clause-keeps g c = c.put_all-end.ensures.keeps

pub returns-in-Going-clause-cleared : goal.returns-in-Going-clause-cleared
returns-in-Going-clause-cleared g c = c.taken.ensures.cleared

pub returns-in-Going-clause-stopped : goal.returns-in-Going-clause-stopped
returns-in-Going-clause-stopped g c = rw c.taken.ensures.end c.put_all-end.ensures.stopped

pub returns-in-Going-clause-kept : goal.returns-in-Going-clause-kept
returns-in-Going-clause-kept g c = λ stop stopped. absurd (going_apart c.args.self.now.plan.phase stop stopped (sym c.phase.ensures ∙ c.in-Going.is))

pub returns-in-Going-clause-cause : goal.returns-in-Going-clause-cause
returns-in-Going-clause-cause g c = λ going. rw c.taken.ensures.end c.put_all-end.ensures.cause

pub returns-in-Stopped-clause-grows : goal.returns-in-Stopped-clause-grows
returns-in-Stopped-clause-grows g c = λ options extras opened history (stands, waits, through).
    (stopped_on options opened.held _ history c.args.full.records c.args.self.now.plan c.in-Stopped.stop (sym c.phase.ensures ∙ c.in-Stopped.is) stands, waits, through)

pub returns-in-Stopped-clause-front : goal.returns-in-Stopped-clause-front
returns-in-Stopped-clause-front g c = λ going. absurd (going_apart c.args.self.now.plan.phase c.in-Stopped.stop (sym c.phase.ensures ∙ c.in-Stopped.is) going)

pub returns-in-Stopped-clause-keeps : goal.returns-in-Stopped-clause-keeps
returns-in-Stopped-clause-keeps g c = λ before told. ([], told ∙ ap Some (sym (append-nil before)))

pub returns-in-Stopped-clause-cleared : goal.returns-in-Stopped-clause-cleared
returns-in-Stopped-clause-cleared g c = c.taken-in-Stopped.ensures.cleared

pub returns-in-Stopped-clause-goes_on : goal.returns-in-Stopped-clause-goes_on
returns-in-Stopped-clause-goes_on g c = rw c.taken-in-Stopped.ensures.end tt

pub returns-in-Stopped-clause-stopped : goal.returns-in-Stopped-clause-stopped
returns-in-Stopped-clause-stopped g c = rw c.taken-in-Stopped.ensures.end (sym c.phase.ensures ∙ c.in-Stopped.is)

pub returns-in-Stopped-clause-cause : goal.returns-in-Stopped-clause-cause
returns-in-Stopped-clause-cause g c = λ going. absurd (going_apart c.args.self.now.plan.phase c.in-Stopped.stop (sym c.phase.ensures ∙ c.in-Stopped.is) going)

pub returns-in-Stopped-clause-kept : goal.returns-in-Stopped-clause-kept
returns-in-Stopped-clause-kept g c = λ other stopped. (cc, cc, refl)

pub put_all-end-requires-clause-going : goal.put_all-end-requires-clause-going
put_all-end-requires-clause-going g c = sym c.phase.ensures ∙ c.in-Going.is

pub put_all-end-requires-clause-none : goal.put_all-end-requires-clause-none
put_all-end-requires-clause-none g c = c.new-entries.ensures.items

pub returns-in-Going-clause-goes_on : goal.returns-in-Going-clause-goes_on
returns-in-Going-clause-goes_on g c = rw c.taken.ensures.end (on_ok_weaker c.put_all-end.result (λ after. (sym c.phase.ensures ∙ c.in-Going.is, after)) c.put_all-end.ensures.goes_on)

pub returns-in-Stopped-clause-counted : goal.returns-in-Stopped-clause-counted
returns-in-Stopped-clause-counted g c =
    let none = ap (λ l. length l) (ap (λ v. v.items) c.taken-in-Stopped.ensures.entries ∙ c.new-entries.ensures.items) in
    omega (arith, none)

pub unreachable-requires : goal.unreachable-requires
unreachable-requires g c = c.requires.unended (sym c.phase.ensures ∙ c.in-Ended.is)

pub returns-in-Going-clause-through : goal.returns-in-Going-clause-through
returns-in-Going-clause-through g c = rw c.taken.ensures.end c.put_all-end.ensures.through

pub returns-in-Stopped-clause-through : goal.returns-in-Stopped-clause-through
returns-in-Stopped-clause-through g c = rw c.taken-in-Stopped.ensures.end tt
