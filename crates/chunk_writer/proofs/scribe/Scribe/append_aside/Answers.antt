use Rattle.chunk_writer.proofs.Stopping.{added_err}
use Rattle.chunk_writer.proofs.scribe.Scribe.append_aside.Goals as goal

pub returns-in-Ok-clause-appends : goal.returns-in-Ok-clause-appends
returns-in-Ok-clause-appends g c = c.in-Ok.ensures.appends.0

pub returns-in-Ok-clause-cause : goal.returns-in-Ok-clause-cause
returns-in-Ok-clause-cause g c = c.in-Ok.ensures.cause

pub returns-in-Err-clause-appends : goal.returns-in-Err-clause-appends
returns-in-Err-clause-appends g c =
    added_err {X = g.row.L-Extent.Denot} (λ e. g.L.Extent.Extent.tells e) (λ e. g.L.Extent.Extent.size e) (g.L.LiveStore.state c.args.self.now.store) (g.L.LiveStore.state c.append_through.new.store) c.args.framed.now c.in-Err.stop c.in-Err.ensures.appends

pub returns-in-Err-clause-cause : goal.returns-in-Err-clause-cause
returns-in-Err-clause-cause g c = c.in-Err.ensures.cause
