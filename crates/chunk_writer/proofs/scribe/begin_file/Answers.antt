-- A front that was refused.
use Rattle.std.proofs.Common.{ℕ, List, subst, ◌∙◌, Err, arith}
use Rattle.chunk_writer.specs.StopSteps.{Added}
use Rattle.chunk_writer.proofs.Planned.{length-front}
use Rattle.chunk_writer.proofs.Stopping.{front_stopped, front_still, front_refused, added_err}
use Rattle.chunk_writer.proofs.scribe.begin_file.Goals as goal

pub returns-in-Err-clause-refused : goal.returns-in-Err-clause-refused
returns-in-Err-clause-refused g c = λ extras history. front_stopped Unit c.args.options.now extras (g.L.LiveStore.state c.args.store.now).held history c.in-Err.stop c.in-Err.ensures.limit

pub returns-in-Err-clause-cause : goal.returns-in-Err-clause-cause
returns-in-Err-clause-cause g c = front_still Unit Unit _ _ c.in-Err.stop c.in-Err.ensures.limit

pub returns-in-Err-append_through-clause-refused : goal.returns-in-Err-append_through-clause-refused
returns-in-Err-append_through-clause-refused g c = λ extras history.
    front_refused c.args.options.now extras (g.L.LiveStore.state c.args.store.now).held (g.L.LiveStore.state c.append_through.new.store).held history c.in-Err-append_through.stop
    (omega (arith, c.requires.profile, length-front c.args.options.now.profile)) c.in-Ok.ensures.limit
    (subst (λ (l : List ℕ). Added (g.L.LiveStore.state c.args.store.now).held (g.L.LiveStore.state c.append_through.new.store).held l (Err c.in-Err-append_through.stop)) (c.as_slice.ensures.value ∙ c.in-Ok.ensures.front)
    (added_err {X = g.row.L-Extent.Denot} (λ e. g.L.Extent.Extent.tells e) (λ e. g.L.Extent.Extent.size e) (g.L.LiveStore.state c.args.store.now) (g.L.LiveStore.state c.append_through.new.store) c.as_slice.result.now
    c.in-Err-append_through.stop c.in-Err-append_through.ensures.appends))
