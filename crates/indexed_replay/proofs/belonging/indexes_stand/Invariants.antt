use Rattle.std.proofs.Common.{◌≡◌, ℕ, ◌+◌, ◌-◌, ◌*◌, ◌≤◌, List, length, Some}
use Rattle.mcap_io.specs.StoreAnswers.{StoreStays}
use Rattle.indexed_replay.specs.Reaching.{IndexesStand, head_length}
use Rattle.indexed_replay.proofs.belonging.indexes_stand.Given as goal

abbrev pub invariant-indexes : goal.invariant-indexes
invariant-indexes g l = record {
  stays : StoreStays (g.T.Store.state l.fn.store) (g.T.Store.state l.store);
  still : (g.T.Store.state l.store).faults ≡ (g.T.Store.state l.fn.store).faults;
  walked : (file : List ℕ) → (g.T.Store.state l.fn.store).bytes ≡ Some file → length file ≡ l.len → (walked : IndexesStand file l.from l.at) × ((g.T.Store.state l.store).asked ≤ (g.T.Store.state l.fn.store).asked + head_length * length walked.indexes);
  ahead : (file : List ℕ) → (g.T.Store.state l.fn.store).bytes ≡ Some file → length file ≡ l.len → IndexesStand file l.from l.to → IndexesStand file l.at l.to;
}

abbrev pub decreases-indexes : goal.decreases-indexes
decreases-indexes g l = l.to - l.at
