use Rattle.std.proofs.Common.{}
use Rattle.chunk_writer.specs.Tapes.{MeetsLimit}
use Rattle.chunk_writer.proofs.Taped.{meets, ends_for}
use Rattle.chunk_writer.proofs.tape.ScribeTape.finish.Goals as goal

pub returns-clause-cause : goal.returns-clause-cause
returns-clause-cause g c = λ going.
    ends_for _ _ c.finish.new.self.plan.phase (MeetsLimit g.L.LiveStore.state c.finish.new.self) c.finish.result.end (c.finish.ensures.cause going) c.finish.ensures.stopped (meets g.L.LiveStore.state c.finish.new.self)
