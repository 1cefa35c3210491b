use Rattle.std.proofs.Common.{◌≡◌, [], take}
use Rattle.chunk_writer.specs.declared.phase.Phase.TheVariants as phases
use Rattle.mcap_merge.specs.Inputs.{extra_tops}
use Rattle.record_keeping.specs.Keeping.{AddsRecords}
use Rattle.mcap_sort.proofs.putting.put_extras.Given as goal

abbrev pub invariant-extras : goal.invariant-extras
invariant-extras g l = (l.k.scribe.plan.phase ≡ phases.Going) × ((g.L.LiveStore.state l.k.scribe.store).faults ≡ (g.L.LiveStore.state l.fn.k.scribe.store).faults) × AddsRecords g.L.LiveStore.state l.fn.k l.k (extra_tops (take l.i l.extras)) []
