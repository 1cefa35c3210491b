use Rattle.chunk_writer.proofs.Planned.{body_new}
use Rattle.chunk_writer.proofs.plan.body_for.Goals as goal

pub returns-in-Ok : goal.returns-in-Ok
returns-in-Ok c = λ at. body_new c.args.size c.args.span at c.in-Some.size c.in-Ok.body c.in-Some.is c.in-Ok.ensures
