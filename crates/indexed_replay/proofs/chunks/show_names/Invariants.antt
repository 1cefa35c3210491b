use Rattle.std.proofs.Common.{◌≡◌, ℕ, ◌+◌, ◌≤◌, Bool, List, length, take, drop, Some}
use Rattle.mcap_io.specs.StoreAnswers.{StoreStays}
use Rattle.indexed_replay.specs.Steps.{AddsEachOnce}
use Rattle.indexed_replay.specs.Lists.{KnowsSummaryChannels, Chooses}
use Rattle.indexed_replay.specs.Chunks.{IsLedAmong}
use Rattle.indexed_replay.specs.Costs.{NamesCost}
use Rattle.time_player.specs.Keeping.{kept_in}
use Rattle.mcap_model.specs.Places.{Has}
use Rattle.indexed_replay.specs.Reaching.{LacksIndex}
use Rattle.indexed_replay.specs.HoldingSteps.{HoldsExactly}
use Rattle.indexed_replay.proofs.chunks.show_names.Given as goal

abbrev pub invariant-names : goal.invariant-names
invariant-names g l = record {
  stays : StoreStays (g.T.Store.state l.fn.store) (g.T.Store.state l.store);
  still : (g.T.Store.state l.store).faults ≡ (g.T.Store.state l.fn.store).faults;
  shows : (file : List ℕ) → (g.T.Store.state l.fn.store).bytes ≡ Some file → length file ≡ l.request.len → KnowsSummaryChannels file l.request.tables.now.channels → AddsEachOnce (IsLedAmong file l.request l.index.chunk_start_offset (take l.i l.index.message_index_offsets)) (kept_in l.fn.shown) (kept_in l.shown);
  found : (file : List ℕ) → (g.T.Store.state l.fn.store).bytes ≡ Some file → length file ≡ l.request.len → (named : ℕ × ℕ) → Has {X = ℕ × ℕ} (take l.i l.index.message_index_offsets) named → LacksIndex file named.0 named.1 → ⊥;
  holds : HoldsExactly l.request.len l.shown;
  asks : (file : List ℕ) (chosen : ℕ → Bool) (cost : ℕ) (ends : Bool) → (g.T.Store.state l.fn.store).bytes ≡ Some file → Chooses l.request chosen → length file ≡ l.request.len → NamesCost file l.request.range chosen l.index.chunk_start_offset l.index.message_index_offsets cost ends
      → (rest : ℕ) × NamesCost file l.request.range chosen l.index.chunk_start_offset (drop l.i l.index.message_index_offsets) rest ends × ((g.T.Store.state l.store).asked + rest ≤ (g.T.Store.state l.fn.store).asked + cost);
}
