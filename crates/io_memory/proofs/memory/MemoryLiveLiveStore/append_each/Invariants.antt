use Rattle.std.proofs.Common.{length, ◌-◌, ◌+◌, ◌≤◌, ◌≡◌, Some}
use Rattle.std.specs.List.{concat}
use Rattle.io_memory.proofs.Planning.{AddedAsPlanned}
use Rattle.io_memory.proofs.memory.MemoryLiveLiveStore.append_each.Given as goal

abbrev pub invariant-pieces : goal.invariant-pieces
invariant-pieces g l =
    AddedAsPlanned (Some l.fn.self.store.bytes.items) (Some l.self.store.bytes.items) l.fn.self.appends.failing.items l.fn.self.appends.made l.self.appends.made (g.P.Pieces.list l.pieces) l.at
    × (l.self.faults ≡ l.fn.self.faults)
    × (l.self.appends.failing ≡ l.fn.self.appends.failing)
    × (l.len ≡ length (concat (g.P.Pieces.list l.pieces)))
    × (l.self.store.waiting ≤ l.fn.self.store.waiting + l.at)

abbrev pub decreases-pieces : goal.decreases-pieces
decreases-pieces g l = l.len - l.at
