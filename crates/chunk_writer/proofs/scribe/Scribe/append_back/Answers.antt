-- The back was appended, or refused.
use Rattle.std.proofs.Common.{List, ℕ, subst, Err}
use Rattle.mcap_io.specs.Outside.{Adds}
use Rattle.chunk_writer.specs.StopSteps.{Added}
use Rattle.chunk_writer.proofs.Stopping.{added_err}
use Rattle.chunk_writer.proofs.Writing.{back_ends, back_not_appended, back_stopped}
use Rattle.chunk_writer.proofs.scribe.Scribe.append_back.Goals as goal

pub returns-in-Ok-append_through-clause-ends : goal.returns-in-Ok-append_through-clause-ends
returns-in-Ok-append_through-clause-ends g c = λ options extras opened history fills.
    back_ends options extras opened.held (g.L.LiveStore.state c.args.self.now.store).held (g.L.LiveStore.state c.append_through.new.store).held history c.args.self.now.plan c.back.new.self c.in-Ok.piece c.in-Ok.ensures.ok
    c.in-Ok.ensures.same.0 c.in-Ok.ensures.counted
    (subst (λ (l : List ℕ). Adds (g.L.LiveStore.state c.args.self.now.store).held (g.L.LiveStore.state c.append_through.new.store).held l) c.as_slice.ensures c.in-Ok-append_through.ensures.appends.0) fills

pub returns-in-Err-append_through-clause-ends : goal.returns-in-Err-append_through-clause-ends
returns-in-Err-append_through-clause-ends g c = λ options extras opened history fills.
    back_not_appended options extras opened.held (g.L.LiveStore.state c.args.self.now.store).held (g.L.LiveStore.state c.append_through.new.store).held history c.args.self.now.plan c.stop.new.self c.in-Ok.piece c.in-Err-append_through.stop _ _
    c.in-Ok.ensures.ok c.in-Ok.ensures.room c.blocks-blocks.ensures.value c.bytes-bytes.ensures.value c.stop.ensures
    (subst (λ (l : List ℕ). Added (g.L.LiveStore.state c.args.self.now.store).held (g.L.LiveStore.state c.append_through.new.store).held l (Err c.in-Err-append_through.stop)) c.as_slice.ensures
    (added_err {X = g.row.L-Extent.Denot} (λ e. g.L.Extent.Extent.tells e) (λ e. g.L.Extent.Extent.size e) (g.L.LiveStore.state c.args.self.now.store) (g.L.LiveStore.state c.append_through.new.store) c.as_slice.result.now
    c.in-Err-append_through.stop c.in-Err-append_through.ensures.appends)) fills

pub returns-in-Err-clause-ends : goal.returns-in-Err-clause-ends
returns-in-Err-clause-ends g c = λ options extras opened history fills.
    back_stopped options extras opened.held _ history c.args.self.now.plan c.back.new.self c.in-Err.stop c.in-Err.ensures.err c.in-Err.ensures.stopped fills
