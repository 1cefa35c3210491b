use Rattle.std.proofs.Common.{arith}
use Rattle.io_files.proofs.Gathering.{part-longer, puts-after}
use Rattle.io_files.proofs.gather.Gather.put_through.Goals as goal

pub returns-in-Ok-clause-puts : goal.returns-in-Ok-clause-puts
returns-in-Ok-clause-puts g c = puts-after _ (g.K.Sink.state c.flush.new.self.sink).took _ _ _ _ _ c.in-Ok.ensures.written c.write_past.ensures.puts

pub returns-in-Err-clause-puts : goal.returns-in-Err-clause-puts
returns-in-Err-clause-puts g c =
    (omega (arith, c.in-Err.ensures.none_taken), part-longer _ _ _ _ c.in-Err.ensures.part, λ some. absurd (omega (arith, c.in-Err.ensures.none_taken, some)))
