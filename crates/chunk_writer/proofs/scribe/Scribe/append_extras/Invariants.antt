use Rattle.std.proofs.Common.{◌≡◌, ◌-◌, ◌≤◌, length}
use Rattle.chunk_writer.specs.declared.phase.Phase.TheVariants as phases
use Rattle.chunk_writer.proofs.Gathered.{Filling}
use Rattle.chunk_writer.proofs.scribe.Scribe.append_extras.Given as goal

abbrev pub decreases-extras : goal.decreases-extras
decreases-extras g l = l.count - l.place

abbrev pub invariant-extras : goal.invariant-extras
invariant-extras g l =
    Filling g.L.LiveStore.state l.fn.self l.self l.place × (l.count ≡ length l.fn.self.extras) × (l.place ≤ l.count) × (l.self.extras ≡ l.fn.self.extras) × (l.self.plan.phase ≡ phases.Ended)
    × (l.self.plan.blocks ≡ l.fn.self.plan.blocks) × ((g.L.LiveStore.state l.self.store).faults ≡ (g.L.LiveStore.state l.fn.self.store).faults)
