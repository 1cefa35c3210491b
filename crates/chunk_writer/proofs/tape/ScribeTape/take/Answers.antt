use Rattle.std.proofs.Common.{}
use Rattle.chunk_writer.specs.Tapes.{MeetsLimit}
use Rattle.chunk_writer.proofs.Taped.{takes, meets, ends_for}
use Rattle.chunk_writer.proofs.tape.ScribeTape.take.Goals as goal

pub returns-clause-grows : goal.returns-clause-grows
returns-clause-grows g c =
    takes {X = g.row.L-Extent.Denot} g.L.LiveStore.state (λ e. g.L.Extent.Extent.tells e) (λ e. g.L.Extent.Extent.size e) c.args.self.now c.take.new.self c.args.full.records c.take.result.entries.items c.take.result.end
    c.take.ensures.grows c.take.ensures.front c.take.ensures.keeps c.take.ensures.goes_on c.take.ensures.stopped c.take.ensures.through c.take.ensures.kept c.take.ensures.cause

pub returns-clause-cause : goal.returns-clause-cause
returns-clause-cause g c = λ going.
    ends_for _ _ c.take.new.self.plan.phase (MeetsLimit g.L.LiveStore.state c.take.new.self) c.take.result.end (c.take.ensures.cause going) c.take.ensures.stopped (meets g.L.LiveStore.state c.take.new.self)
