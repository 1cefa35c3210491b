use Rattle.std.proofs.Common.{◌≡◌}
use Rattle.mcap_io.specs.Outside.{SourceState, LiveState}
use Rattle.mcap_model.specs.declared.options.FileOptions.{FileOptions}
use Rattle.mcap_model.specs.Plain.{asked_topic}
use Rattle.mcap_scan.specs.Walking.{flat_left}
use Rattle.chunk_writer.specs.declared.phase.Phase.TheVariants as phases
use Rattle.mcap_filter.specs.Picked.{asking}
use Rattle.mcap_filter.specs.Picking.{start, PicksSoFar}
use Rattle.mcap_filter.proofs.filtering.pick_on.Given as goal

abbrev pub decreases-records : goal.decreases-records
decreases-records g l = flat_left l.reader

abbrev pub invariant-records : goal.invariant-records
invariant-records g l =
    let a = asking l.asked.range (asked_topic l.asked.topic) in
    ((options : FileOptions) × (before : SourceState) × (opened : LiveState) × PicksSoFar g.L.LiveStore.state (start a options before opened) (g.S.Source.state l.source) l.reader l.k l.choices)
    × ((options : FileOptions) (before : SourceState) (opened : LiveState) → PicksSoFar g.L.LiveStore.state (start a options before opened) (g.S.Source.state l.fn.source) l.fn.reader l.fn.k l.fn.choices
    → PicksSoFar g.L.LiveStore.state (start a options before opened) (g.S.Source.state l.source) l.reader l.k l.choices)
    × (l.k.scribe.plan.phase ≡ phases.Going) × ((g.L.LiveStore.state l.k.scribe.store).faults ≡ (g.L.LiveStore.state l.fn.k.scribe.store).faults)
    × g.S.Source.stays l.fn.source l.source
