use Rattle.std.proofs.Common.{◌≡◌, [], take}
use Rattle.chunk_writer.specs.declared.phase.Phase.TheVariants as phases
use Rattle.mcap_merge.specs.Writing.{extras_of}
use Rattle.mcap_merge.proofs.extras.write_extras.Given as goal

abbrev pub invariant-inputs : goal.invariant-inputs
invariant-inputs g l = (g.P.Pen.phase l.pen ≡ phases.Going) × (g.P.Pen.failures l.pen ≡ g.P.Pen.failures l.fn.pen) × g.P.Pen.adds l.fn.pen l.pen (extras_of (take l.k l.inputs)) []
