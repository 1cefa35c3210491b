-- The file of a merge, as its store shows it when the writing ends.
use Rattle.std.specs.Prelude.{◌≡◌, ◌⊎◌, ℕ, ◌≤◌, List, length, Result, Err}
use Rattle.std.specs.List.{AllZip}
use Rattle.mcap_wire.specs.Layout.{content_limit}
use Rattle.rec_data.specs.declared.owned.Rec.{Rec}
use Rattle.mcap_io.specs.Outside.{LiveState}
use Rattle.mcap_io.specs.Stores.{StoreState}
use Rattle.mcap_model.specs.declared.options.FileOptions.{FileOptions}
use Rattle.mcap_model.specs.declared.ends.Stop.{Stop}
use Rattle.mcap_model.specs.Tops.{Top}
use Rattle.mcap_merge.specs.declared.answers.MergeRefused.{MergeRefused}
use Rattle.mcap_merge.specs.declared.answers.MergeRefused.TheVariants as merges
use Rattle.mcap_merge.specs.declared.answers.Merged.{Merged}
use Rattle.mcap_merge.specs.declared.merge_stores.Ready.{Ready}
use Rattle.mcap_merge.specs.Reading.{FaultsStand}
use Rattle.mcap_merge.specs.ReadingSteps.{SpansFit}
use Rattle.mcap_merge.specs.GatheringSteps.{IsGathered}
use Rattle.mcap_merge.specs.Turns.{stop_of}
use Rattle.mcap_merge.specs.Putting.{IsBegun, MergeStart, WholeStands, PartStands}
use Rattle.mcap_merge.specs.Filed.{merged_options, FileStands}

-- all stores were read, and all that is needed for the writing is there
pub record IsReadyToWrite (olds news : List StoreState) (chunk : ℕ) (r : Ready) : Type 0 where
  pub gathered : IsGathered olds r.gathered
  pub still : AllZip FaultsStand olds news
  pub fits : AllZip SpansFit news r.gathered.inputs.items
  pub options_are : r.options ≡ merged_options r.gathered.profile chunk
  pub short : length r.options.profile ≤ content_limit
  pub begun : IsBegun r.gathered.inputs.items r.begun

-- what a store shows of the file of extras and a history, whose writing ended so
abbrev pub FilesAs : FileOptions → Result Unit Stop → LiveState → LiveState → List Top → List Rec → Type 0
FilesAs options end opened now extras history = FileStands options extras history opened now end

-- The writing was stopped behind some turns, at a piece of their file, whatever would have come behind them; or behind all, at a
-- piece of theirs.
abbrev pub FileStops : FileOptions → MergeStart → LiveState → LiveState → MergeRefused → Type 0
FileStops options start opened now why = PartStands (FilesAs options (Err (stop_of why))) start opened now
    ⊎ ((stop : Stop) × (why ≡ merges.Stopped stop) × (m : Merged) × WholeStands (FilesAs options (Err stop)) start opened now m)
