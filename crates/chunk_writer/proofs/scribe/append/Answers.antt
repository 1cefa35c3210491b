use Rattle.chunk_writer.proofs.Stopping.{refused_appends}
use Rattle.chunk_writer.proofs.scribe.append.Goals as goal

pub returns-in-Err-clause-appends : goal.returns-in-Err-clause-appends
returns-in-Err-clause-appends g c =
    refused_appends {X = g.row.L-Extent.Denot} (λ e. g.L.Extent.Extent.tells e) (λ e. g.L.Extent.Extent.size e) (g.L.LiveStore.state c.args.store.now) (g.L.LiveStore.state c.append.new.self)
    c.args.piece.now _ c.in-Err.why c.refused.result c.refused.ensures c.in-Err.ensures.leaves
