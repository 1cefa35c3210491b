use Rattle.std.proofs.Common.{◌≡◌, ◌-◌, length}
use Rattle.std.specs.Prelude.{All}
use Rattle.mcap_model.specs.History.{history_bytes}
use Rattle.record_cache.specs.KeptRecords.{IsKept}
use Rattle.live_entry.specs.Entries.{seen_before}
use Rattle.chunk_writer.proofs.Taking.{Partway}
use Rattle.chunk_writer.proofs.scribe.Scribe.put_each.Given as goal

abbrev pub invariant-records : goal.invariant-records
invariant-records g l =
    Partway g.L.LiveStore.state (seen_before {X = g.row.L-Extent.Denot} (λ e. g.L.Extent.Extent.tells e) (λ e. g.L.Extent.Extent.size e) (g.L.LiveStore.state l.fn.self.store)) l.fn.self l.self l.full.records l.at l.entries.items
    × (l.held ≡ length (history_bytes l.full.records)) × All IsKept l.full.records

abbrev pub decreases-records : goal.decreases-records
decreases-records g l = l.held - l.at
