-- What is written of a merge: the extras of its inputs, what is put of its turns, and the end of the file.
use Rattle.std.specs.Prelude.{◌≡◌, List, [], ◌++◌, length, filter, min, ◌-◌, ◌^◌, Result, Err, IsPermutation}
use Rattle.rec_data.specs.declared.owned.Rec.{Rec}
use Rattle.mcap_model.specs.declared.ends.Stop.{Stop}
use Rattle.mcap_model.specs.Tops.{Top}
use Rattle.mcap_model.specs.History.{is_message}
use Rattle.chunk_writer.specs.declared.phase.Phase.{Phase}
use Rattle.chunk_writer.specs.declared.phase.Phase.TheVariants as phases
use Rattle.history_ids.specs.Tables.{HasSchemas}
use Rattle.merge_walk.specs.declared.turns.Turn.{Turn}
use Rattle.merge_walk.specs.declared.walk.Walk.{Walk}
use Rattle.merge_walk.specs.Pieces.{InputBytes}
use Rattle.merge_walk.specs.Walks.{Text, pieces_in, pieces_loaded, peak_of, WalkStands, AllGiven}
use Rattle.mcap_merge.specs.declared.answers.MergeRefused.{MergeRefused}
use Rattle.mcap_merge.specs.declared.answers.MergeRefused.TheVariants as merges
use Rattle.mcap_merge.specs.declared.answers.Merged.{Merged}
use Rattle.mcap_merge.specs.declared.input.Input.{Input}
use Rattle.mcap_merge.specs.declared.starting.Begun.{Begun}
use Rattle.mcap_merge.specs.Joining.{JoinerStands, IsSized}
use Rattle.mcap_merge.specs.Pieces.{pieces_from}
use Rattle.mcap_merge.specs.Uses.{history_of}
use Rattle.mcap_merge.specs.Writing.{extras_of}
use Rattle.mcap_merge.specs.Turns.{UsesOf, stop_of}

-- The walk goes through just the pieces of the inputs, and has given nothing; no channel of theirs has an id.
pub record IsBegun (inputs : List Input) (b : Begun) : Type 0 where
  pub pieces : IsPermutation (pieces_from 0 inputs) (pieces_in b.walk)
  pub stands : (files : InputBytes) → WalkStands files b.walk [] []
  pub sized : IsSized (length inputs) b.joiner
  pub schemas : HasSchemas b.joiner.table
  pub none : (all : List (List Top)) → JoinerStands all [] b.joiner

-- how many messages and records a history has
pub record CountsMerged (history : List Rec) (m : Merged) : Type 0 where
  pub messages : m.messages ≡ length (filter is_message history)
  pub records : m.records ≡ min (length history) (2 ^ 64 - 1)

-- what is merged: what the stores tell, the inputs as they were read of them, and a walk that has given nothing
pub record MergeStart : Type 0 where
  pub files : InputBytes
  pub inputs : List Input
  pub walk : Walk

-- The pen stands for the extras with what was put of all turns of a walk through the pieces, which is at its end; this is what it
-- comes to.
pub record WholeStands {P : Type 0} (adds : P → P → List Top → List Rec → Type 0) (start : MergeStart) (old all : P)
    (m : Merged) : Type 0 where
  pub walk : Walk
  pub pieces : pieces_in walk ≡ pieces_in start.walk
  pub loaded : pieces_loaded walk ≡ pieces_in walk
  pub texts : List Text
  pub given : List Turn
  pub stands : WalkStands start.files walk texts given
  pub all_given : AllGiven start.files (pieces_in walk) texts given
  pub uses : UsesOf start.inputs texts given (λ tops uses. adds old all (extras_of start.inputs) (history_of uses)
      × CountsMerged (history_of uses) m)
  pub peak : m.peak ≡ peak_of walk

-- it stands for the extras with what was put of some turns, and with whatever would have come behind them
pub record PartStands {P : Type 0} (adds : P → P → List Top → List Rec → Type 0) (start : MergeStart) (old now : P)
    : Type 0 where
  pub walk : Walk
  pub pieces : pieces_in walk ≡ pieces_in start.walk
  pub texts : List Text
  pub given : List Turn
  pub stands : WalkStands start.files walk texts given
  pub uses : UsesOf start.inputs texts given (λ tops uses. (more : List Rec)
      → adds old now (extras_of start.inputs) (history_of uses ++ more))

-- the whole stands with a pen, and the end of its file came to this
pub record EndsWhole {P : Type 0} (adds : P → P → List Top → List Rec → Type 0)
    (ends : P → P → Result Unit Stop → Type 0) (start : MergeStart) (old new : P) (m : Merged) (end : Result Unit Stop)
    : Type 0 where
  pub all : P
  pub whole : WholeStands adds start old all m
  pub ends_file : ends all new end

-- the pen stopped before the end
pub record StopsBefore {P : Type 0} (adds : P → P → List Top → List Rec → Type 0) (phase : P → Phase)
    (start : MergeStart) (old new : P) (why : MergeRefused) : Type 0 where
  pub part : PartStands adds start old new
  pub stopped : phase new ≡ phases.Stopped (stop_of why)

-- or at the end
abbrev pub StopsAtEnd : {P : Type 0} → (P → P → List Top → List Rec → Type 0) → (P → P → Result Unit Stop → Type 0)
    → MergeStart → P → P → MergeRefused → Type 0
StopsAtEnd adds ends start old new why =
    (stop : Stop) × (why ≡ merges.Stopped stop) × (m : Merged) × EndsWhole adds ends start old new m (Err stop)
