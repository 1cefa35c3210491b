use Rattle.chunk_writer.proofs.Gathered.{inner_there}
use Rattle.chunk_writer.proofs.plan.stands_inside.Goals as goal

pub returns : goal.returns
returns c = λ r framed. inner_there c.args.framed.now r framed
