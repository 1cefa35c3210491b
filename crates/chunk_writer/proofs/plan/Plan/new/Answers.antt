use Rattle.std.proofs.Common.{[], arith}
use Rattle.chunk_writer.specs.declared.phase.Phase.TheVariants as phases
use Rattle.chunk_writer.proofs.Planned.{plans_new}
use Rattle.chunk_writer.proofs.plan.Plan.new.Goals as goal

pub invariant_of-result : goal.invariant_of-result
invariant_of-result c = record {
  within = record { few = omega arith; small = c.requires.small };
  stands = λ going. (c.args.options.now, [], plans_new c.args.options.now c.in-Ok.body c.args.bytes phases.Going c.in-Ok.ensures c.requires.front c.requires.header);
}
