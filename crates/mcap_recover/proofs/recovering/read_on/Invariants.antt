use Rattle.std.proofs.Common.{◌≡◌}
use Rattle.mcap_io.specs.Outside.{SourceState, LiveState}
use Rattle.mcap_model.specs.declared.options.FileOptions.{FileOptions}
use Rattle.mcap_scan.specs.Walking.{flat_left}
use Rattle.chunk_writer.specs.declared.phase.Phase.TheVariants as phases
use Rattle.mcap_recover.specs.Readings.{Repairing}
use Rattle.mcap_recover.proofs.recovering.read_on.Given as goal

abbrev pub decreases-records : goal.decreases-records
decreases-records g l = flat_left l.reader

abbrev pub invariant-records : goal.invariant-records
invariant-records g l =
    ((options : FileOptions) × (before : SourceState) × (opened : LiveState) × Repairing g.L.LiveStore.state options before (g.S.Source.state l.source) opened l.reader l.k)
    × ((options : FileOptions) (before : SourceState) (opened : LiveState) → Repairing g.L.LiveStore.state options before (g.S.Source.state l.fn.source) opened l.fn.reader l.fn.k
    → Repairing g.L.LiveStore.state options before (g.S.Source.state l.source) opened l.reader l.k)
    × (l.k.scribe.plan.phase ≡ phases.Going) × ((g.L.LiveStore.state l.k.scribe.store).faults ≡ (g.L.LiveStore.state l.fn.k.scribe.store).faults)
    × g.S.Source.stays l.fn.source l.source
