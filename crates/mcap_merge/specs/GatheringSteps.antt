-- What is gathered of inputs that were read.
use Rattle.std.specs.Prelude.{◌≤◌, ℕ, List, length}
use Rattle.std.specs.List.{AllZip}
use Rattle.mcap_io.specs.Stores.{StoreState}
use Rattle.mcap_model.specs.Places.{Each}
use Rattle.mcap_model.specs.ReadBack.{IsReadBack}
use Rattle.mcap_model.specs.Tops.{Top}
use Rattle.mcap_merge.specs.declared.gathering.Gathered.{Gathered}
use Rattle.mcap_model.specs.Merged.{Sent, AreInTurn, MergeOf}
use Rattle.mcap_merge.specs.Uses.{Use, history_of, AreUses}
use Rattle.mcap_merge.specs.ReadInputs.{Read, read_tops}
use Rattle.mcap_merge.specs.Inputs.{HoldInputs}
use Rattle.mcap_merge.specs.Reading.{IsReadOf}
use Rattle.mcap_merge.specs.Contents.{IdsSuffice}
use Rattle.mcap_merge.specs.Writing.{ExtrasMeet, extras_of}

-- There are ids for what is used, and messages in their order, whose channels have contents; all make a merge whose records are
-- read back. None of it is held.
pub record IsPrepared (reads : List Read) (profile : List ℕ) (extras : List Top) : Type 0 where
  pub suffice : IdsSuffice (read_tops reads)
  pub messages : List Sent
  pub in_turn : AreInTurn (read_tops reads) messages
  pub uses : List Use
  pub used : AreUses (read_tops reads) messages uses
  pub back : Each IsReadBack (history_of uses)
  pub merge : MergeOf (read_tops reads) profile extras (history_of uses)

-- all stores were read to their Data Ends, and this was gathered of them
pub record IsGathered (stores : List StoreState) (g : Gathered) : Type 0 where
  pub reads : List Read
  pub are : AllZip IsReadOf stores reads
  pub hold : HoldInputs reads g.inputs.items
  pub few : length g.inputs.items ≤ 64
  pub meet : ExtrasMeet g.inputs.items
  pub prepared : IsPrepared reads g.profile (extras_of g.inputs.items)
