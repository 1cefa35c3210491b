use Rattle.std.proofs.Common.{◌≡◌, [], take}
use Rattle.chunk_writer.specs.declared.phase.Phase.TheVariants as phases
use Rattle.mcap_merge.specs.Inputs.{extra_tops}
use Rattle.mcap_merge.proofs.extras.write_held.Given as goal

abbrev pub invariant-extras : goal.invariant-extras
invariant-extras g l = (g.P.Pen.phase l.pen ≡ phases.Going) × (g.P.Pen.failures l.pen ≡ g.P.Pen.failures l.fn.pen) × g.P.Pen.adds l.fn.pen l.pen (extra_tops (take l.k l.extras)) []
