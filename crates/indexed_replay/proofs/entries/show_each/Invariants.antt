use Rattle.std.proofs.Common.{◌≡◌, ℕ, ◌+◌, ◌≤◌, List, length, take, Some}
use Rattle.mcap_io.specs.StoreAnswers.{StoreStays}
use Rattle.indexed_replay.specs.Steps.{AddsEachOnce, IsLedInRange}
use Rattle.indexed_replay.specs.Costs.{entries_cost}
use Rattle.time_player.specs.Keeping.{kept_in}
use Rattle.indexed_replay.specs.HoldingSteps.{HoldsExactly}
use Rattle.indexed_replay.proofs.entries.show_each.Given as goal

abbrev pub invariant-entries : goal.invariant-entries
invariant-entries g l = record {
  stays : StoreStays (g.T.Store.state l.fn.store) (g.T.Store.state l.store);
  still : (g.T.Store.state l.store).faults ≡ (g.T.Store.state l.fn.store).faults;
  shows : (file : List ℕ) → (g.T.Store.state l.fn.store).bytes ≡ Some file → length file ≡ l.len → AddsEachOnce (IsLedInRange file l.range l.spot (take l.i l.entries)) (kept_in l.fn.shown) (kept_in l.shown);
  holds : HoldsExactly l.len l.shown;
  asks : (file : List ℕ) → (g.T.Store.state l.fn.store).bytes ≡ Some file → length file ≡ l.len → (g.T.Store.state l.store).asked ≤ (g.T.Store.state l.fn.store).asked + entries_cost file l.range l.spot.chunk (take l.i l.entries);
}
