use Rattle.std.proofs.Common.{◌≡◌, ℕ, ◌+◌, ◌≤◌, Bool, List, length, take, drop, Some}
use Rattle.mcap_io.specs.StoreAnswers.{StoreStays}
use Rattle.indexed_replay.specs.Steps.{AddsEachOnce}
use Rattle.indexed_replay.specs.Lists.{KnowsSummaryChannels, Chooses}
use Rattle.indexed_replay.specs.HoldingSteps.{HoldsExactly}
use Rattle.indexed_replay.specs.Gathering.{AreApart, IsLedFrom}
use Rattle.indexed_replay.specs.Costs.{IndexesCost}
use Rattle.time_player.specs.Keeping.{kept_in}
use Rattle.indexed_replay.proofs.gathering.gather.Given as goal

abbrev pub invariant-chunks : goal.invariant-chunks
invariant-chunks g l = record {
  stays : StoreStays (g.T.Store.state l.fn.store) (g.T.Store.state l.store);
  still : (g.T.Store.state l.store).faults ≡ (g.T.Store.state l.fn.store).faults;
  shows : (file : List ℕ) → (g.T.Store.state l.fn.store).bytes ≡ Some file → length file ≡ l.request.len → KnowsSummaryChannels file l.request.tables.now.channels → AreApart l.loaded.chunk_indexes → AddsEachOnce (IsLedFrom file l.request (take l.i l.loaded.chunk_indexes)) (kept_in l.fn.shown) (kept_in l.shown);
  holds : HoldsExactly l.request.len l.shown;
  asks : (file : List ℕ) (chosen : ℕ → Bool) (cost : ℕ) → (g.T.Store.state l.fn.store).bytes ≡ Some file → Chooses l.request chosen → length file ≡ l.request.len → IndexesCost file l.request.range chosen l.loaded.chunk_indexes cost
      → (rest : ℕ) × IndexesCost file l.request.range chosen (drop l.i l.loaded.chunk_indexes) rest × ((g.T.Store.state l.store).asked + rest ≤ (g.T.Store.state l.fn.store).asked + cost);
}
