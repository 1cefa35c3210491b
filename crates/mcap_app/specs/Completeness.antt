-- What commands do for whatever they can: where the names that they read are there and hold what they want, no count rises and no
-- limit is passed, all is done, or the program ran out of memory.
use Rattle.std.specs.Prelude.{◌≡◌, ◌≢◌, ◌<◌, ◌≤◌, ◌-◌, ◌⊎◌, ℕ, List, length, true, Option, Some, None, IsUtf8}
use Rattle.std.specs.List.{AllZip, range_with_len}
use Rattle.mcap_wire.specs.Limits.{id_limit, record_count_limit}
use Rattle.mcap_io.specs.Outside.{Told}
use Rattle.rec_data.specs.declared.channel.ChannelDef.{ChannelDef}
use Rattle.rec_data.specs.declared.footer.Footer.{Footer}
use Rattle.rec_data.specs.declared.owned.Rec.{Rec}
use Rattle.mcap_model.specs.declared.ends.End.{End}
use Rattle.mcap_model.specs.Places.{Has, Each}
use Rattle.mcap_model.specs.Tops.{Top, Begins, flat}
use Rattle.mcap_model.specs.Rules.{V1}
use Rattle.mcap_model.specs.Kept.{Halt, reading_limits, Good, at_end, Halts}
use Rattle.mcap_model.specs.Blocks.{pieces_of, blocks_in}
use Rattle.mcap_model.specs.File.{file_of}
use Rattle.mcap_model.specs.Valid.{IsFullyIndexed}
use Rattle.mcap_model.specs.Laws.{IsValid}
use Rattle.mcap_model.specs.Repaired.{Repaired}
use Rattle.mcap_model.specs.Merged.{Merged as MergesTo, AreRead, IsUsed, SchemaIsUsed, MoreThan}
use Rattle.summary_read.specs.Reached.{summary_limit, EndsIn, SummaryStartsAt}
use Rattle.summary_read.specs.Parts.{Parts, IsLoaded}
use Rattle.indexed_replay.specs.Reaching.{LeadsPastLimit}
use Rattle.indexed_replay.specs.Laws.{IsFlawless}
use Rattle.file_check.specs.Laws.{IsShort}
use Rattle.chunk_writer.specs.Limits.{FileHolds}
use Rattle.play_clock.specs.declared.line.Line.{Line}
use Rattle.play_clock.specs.Script.{IsScript}
use Rattle.record_keeping.specs.NewFiles.{recovered_options}
use Rattle.mcap_filter.specs.Picked.{filtered}
use Rattle.record_core.specs.declared.answers.CallRefused.{CallRefused}
use Rattle.feed_lane.specs.Lanes.{HasTooMuchData, IsChannelOf, IsWide}
use Rattle.buffer_swap.specs.Shown.{IdsLack}
use Rattle.recorder.specs.Assembled.{LanePart, Assembled}
use Rattle.recorder.specs.Recorded.{FeedRecorded, Sides, Recorded}
use Rattle.mcap_model.specs.declared.options.RecordOptions.{RecordOptions}
use Rattle.recorder.specs.declared.report.Report.{Report}
use Rattle.command_record.specs.declared.recording.RecordingReport.{RecordingReport}
use Rattle.recorder.specs.Findings.{passes_limit}
use Rattle.command_base.specs.declared.statuses.Status.{Status}
use Rattle.command_base.specs.declared.statuses.Status.TheVariants as statuses
use Rattle.command_base.specs.Ran.{Scene, counts_in, AnyRose}
use Rattle.command_record.specs.Record.{FeedHalts}
use Rattle.command_record.specs.Watched.{Requested}
use Rattle.command_record.specs.WatchedAnswer.{watched_counts_in, AnyCountRose, Records}
use Rattle.command_read.specs.Cat.{Selection, Cats}
use Rattle.command_read.specs.Indexed.{IndexedCats}
use Rattle.command_read.specs.Check.{FileChecks}
use Rattle.command_read.specs.Info.{Describes}
use Rattle.command_read.specs.Play.{script_bytes, PlaysFile}
use Rattle.command_write.specs.Recover.{RecoversFile}
use Rattle.command_write.specs.Merge.{HoldsBytes, MergesFiles}
use Rattle.command_write.specs.Filter.{FilterRequest, FiltersFile}
use Rattle.command_generate.specs.declared.making.Numbers.{Numbers}
use Rattle.command_generate.specs.Feeds.{feed_bytes}
use Rattle.command_generate.specs.Allowed.{OptionsAllowed}
use Rattle.command_generate.specs.Generating.{Generates}
use Rattle.mcap_app.specs.Laws.{FitsWritingLimits}

-- all was done, or the program ran out of memory
abbrev pub IsAllDone : Status → Type 0
IsAllDone status = (status ≡ statuses.Done) ⊎ (status ≡ statuses.Memory)

-- A command ran in a world that told these names, and no count rose.
pub record RanCalmly (told : Told) (old new : Scene) : Type 0 where
  pub tells : old.world.told ≡ Some told
  pub quiet : AnyRose (counts_in old) (counts_in new) → ⊥

-- a reading of these bytes comes to their Data End
abbrev pub IsReadWhole : List ℕ → Type 0
IsReadWhole bytes = (tops : List Top) × (end : ℕ) × Halts reading_limits bytes tops (at_end end)

-- ---- commands of one file

-- A file that is read to its Data End is printed.
abbrev pub PrintingsSucceed : Type 0
PrintingsSucceed = (asked : Selection) (file bytes : List ℕ) (told : Told) (old new : Scene) (status : Status)
    → Cats asked file old new status → RanCalmly told old new → told.names file ≡ Some bytes → IsReadWhole bytes
    → IsAllDone status

-- A fully indexed one is printed by its indexes, where these lead to nothing that passes a limit.
abbrev pub IndexedPrintingsSucceed : Type 0
IndexedPrintingsSucceed =
    (asked : Selection) (file bytes : List ℕ) (told : Told) (old new : Scene) (status : Status)
    → IndexedCats asked file old new status → RanCalmly told old new → told.names file ≡ Some bytes → IsReadWhole bytes
    → IsFullyIndexed bytes → ((offset : ℕ) → LeadsPastLimit bytes asked.range offset → ⊥) → IsAllDone status

-- the summary is no longer than what is read
abbrev pub HasShortSummary : List ℕ → Type 0
HasShortSummary bytes = (start : ℕ) → SummaryStartsAt bytes start → length bytes - 37 - start ≤ summary_limit

-- What is told of: no rule fails in the file, though its chunks may name compressions, its Footer names a summary, which has
-- Statistics, and neither a content of it, nor the whole, nor the summary is longer than what is read.
pub record CanBeTold (bytes : List ℕ) : Type 0 where
  pub tops : List Top
  pub flawless : IsFlawless bytes tops
  pub footer : Footer
  pub ends : EndsIn bytes footer
  pub summed : footer.summary_start ≢ 0
  pub counted : (parts : Parts) → IsLoaded bytes parts → parts.statistics ≡ None → ⊥
  pub short : IsShort bytes
  pub summary : HasShortSummary bytes

abbrev pub TellingsSucceed : Type 0
TellingsSucceed = (file bytes : List ℕ) (told : Told) (old new : Scene) (status : Status)
    → Describes file old new status → RanCalmly told old new → told.names file ≡ Some bytes → CanBeTold bytes
    → IsAllDone status

-- A valid file, of which neither a content nor the whole is longer than what is read, is found so.
abbrev pub ChecksSucceed : Type 0
ChecksSucceed = (file bytes : List ℕ) (told : Told) (old new : Scene) (status : Status) → FileChecks file old new status
    → RanCalmly told old new → told.names file ≡ Some bytes → IsValid bytes → IsShort bytes → IsAllDone status

-- What can be played: a script, of no more bytes than one has at most.
pub record CanBePlayed (given : List ℕ) : Type 0 where
  pub lines : List Line
  pub are : IsScript given lines
  pub few : length given ≤ script_bytes

-- A file that is read to its Data End is played by it.
abbrev pub PlaysSucceed : Type 0
PlaysSucceed = (asked : Selection) (file script bytes given : List ℕ) (told : Told) (old new : Scene) (status : Status)
    → PlaysFile asked file script old new status → RanCalmly told old new → told.names file ≡ Some bytes
    → told.names script ≡ Some given → IsReadWhole bytes → CanBePlayed given → IsAllDone status

-- ---- commands that write a file

-- the file of this history and these extras, in chunks of that size, is within the limits of writing
abbrev pub IsFileWithin : ℕ → List ℕ → List Top → List Rec → Type 0
IsFileWithin chunk profile extras history = FileHolds profile (blocks_in (pieces_of (Some chunk) None history))
    (length (file_of (recovered_options profile chunk) extras history))

-- what repairing makes of some bytes is within the limits of writing
pub record IsRepairedWithin (chunk : ℕ) (bytes : List ℕ) : Type 0 where
  pub profile : List ℕ
  pub extras : List Top
  pub history : List Rec
  pub repaired : Repaired bytes profile extras history
  pub within : IsFileWithin chunk profile extras history

-- Of a file that begins with the magic what repairing makes of it is written, where that is within the limits.
abbrev pub RecoveriesSucceed : Type 0
RecoveriesSucceed =
    (chunk : ℕ) (input out bytes : List ℕ) (told : Told) (old new : Scene) (status : Status)
    → RecoversFile chunk input out old new status → RanCalmly told old new → told.names input ≡ Some bytes → V1 bytes
    → IsRepairedWithin chunk bytes → IsAllDone status

-- what is filtered of what repairing makes of some bytes is within the limits of writing
pub record IsFilteredWithin (asked : FilterRequest) (bytes : List ℕ) : Type 0 where
  pub profile : List ℕ
  pub extras : List Top
  pub history : List Rec
  pub repaired : Repaired bytes profile extras history
  pub within : IsFileWithin asked.chunk profile extras (filtered asked.asking history)

-- A file that is read to its Data End is filtered, where what is written of it is within the limits.
abbrev pub FiltersSucceed : Type 0
FiltersSucceed =
    (asked : FilterRequest) (input out bytes : List ℕ) (told : Told) (old new : Scene) (status : Status)
    → FiltersFile asked input out old new status → RanCalmly told old new → told.names input ≡ Some bytes
    → IsReadWhole bytes → IsFilteredWithin asked bytes → IsAllDone status

-- What can be merged: each file is read to its Data End, no more schemas and channels are used than there are ids, and what
-- merging makes of them is within the limits of writing.
pub record CanBeMerged (chunk : ℕ) (files : List (List ℕ)) : Type 0 where
  pub read : Each IsReadWhole files
  pub schemas : (inputs : List (List Top)) → AreRead files inputs → MoreThan id_limit (SchemaIsUsed inputs) → ⊥
  pub channels : (inputs : List (List Top)) → AreRead files inputs → MoreThan id_limit (IsUsed inputs) → ⊥
  pub within : (profile : List ℕ) (extras : List Top) (history : List Rec) → MergesTo files profile extras history
      → IsFileWithin chunk profile extras history

abbrev pub MergesSucceed : Type 0
MergesSucceed = (chunk : ℕ) (inputs : List (List ℕ)) (out : List ℕ) (files : List (List ℕ)) (told : Told)
    (old new : Scene) (status : Status) → MergesFiles chunk inputs out old new status → RanCalmly told old new
    → AllZip (HoldsBytes told) inputs files → CanBeMerged chunk files → IsAllDone status

-- ---- recordings

-- A recording would pass a limit: its file one of writing; a message of a feed that of a message's data; the records of its channel
-- that of a declaration; no id is left for it; or so many records were accepted that the next would be one too many.
pub data PassesNumber (options : RecordOptions) (history : List Rec) (feeds : List FeedRecorded) : Type 0 where
  by_file : (FitsWritingLimits options.file history → ⊥) → PassesNumber options history feeds
  by_data : (f : FeedRecorded) (index len : ℕ) → Has feeds f → HasTooMuchData (flat f.reports.tops) index len
      → PassesNumber options history feeds
  by_declaration : (f : FeedRecorded) (index len : ℕ) → Has feeds f → IsWide (flat f.reports.tops) index len
      → PassesNumber options history feeds
  by_ids : (f : FeedRecorded) (index : ℕ) (content : ChannelDef) (cause : CallRefused) → Has feeds f
      → IsChannelOf (flat f.reports.tops) index content → IdsLack history content cause
      → PassesNumber options history feeds
  by_records : record_count_limit ≤ length history → PassesNumber options history feeds

-- A report tells of a limit only where the recording would pass one.
abbrev pub RecordingLimitsAreReal : Type 0
RecordingLimitsAreReal = (options : RecordOptions) (before after : Sides) (r : Report)
    (it : Recorded options before after r) → passes_limit r ≡ true → PassesNumber options it.history it.feeds

-- records that may be read of a feed: its bytes begin with them, and they are good
pub record Gives (told : Told) (feed : List ℕ) (tops : List Top) : Type 0 where
  pub bytes : List ℕ
  pub there : told.names feed ≡ Some bytes
  pub begins : Begins bytes tops
  pub good : Good reading_limits tops

-- the same of a feed that is generated, by its number
abbrev pub Makes : Numbers → ℕ → List Top → Type 0
Makes numbers feed tops =
    Begins (feed_bytes numbers.seed feed numbers.messages) tops × Good reading_limits tops

-- a lane reads such records of the feed, whatever feeds are
pub record IsLaneOf {F : Type 0} (MayBeRead : F → List Top → Type 0) (feed : F) (lane : LanePart) : Type 0 where
  pub tops : List Top
  pub may : MayBeRead feed tops
  pub records_are : lane.records ≡ flat tops

-- A history that a recording of the feeds may come to, in whatever turn their lanes come, and wherever it ends.
pub record MayCome {F : Type 0} (MayBeRead : F → List Top → Type 0) (limit : ℕ) (feeds : List F) (history : List Rec)
    : Type 0 where
  pub lanes : List LanePart
  pub are : AllZip (IsLaneOf MayBeRead) feeds lanes
  pub end : End
  pub assembled : Assembled limit lanes history end

-- What can be recorded without passing a limit, by the records that may be read of the feeds.
pub record CanBeRecorded {F : Type 0} (MayBeRead : F → List Top → Type 0) (options : RecordOptions) (feeds : List F)
    : Type 0 where
  -- no message has more data than a message may have, and no channel with messages is longer than a declaration may be
  pub data_fits : (feed : F) (tops : List Top) (index len : ℕ) → Has feeds feed → MayBeRead feed tops
      → HasTooMuchData (flat tops) index len → ⊥
  pub declarations_fit : (feed : F) (tops : List Top) (index len : ℕ) → Has feeds feed → MayBeRead feed tops
      → IsWide (flat tops) index len → ⊥
  -- whatever history comes has ids for all channels, has fewer records than there may be, and its file is within the limits
  pub ids_suffice : (history : List Rec) (feed : F) (tops : List Top) (index : ℕ) (content : ChannelDef)
      (cause : CallRefused) → MayCome MayBeRead options.limit feeds history → Has feeds feed → MayBeRead feed tops
      → IsChannelOf (flat tops) index content → IdsLack history content cause → ⊥
  pub records_are_few : (history : List Rec) → MayCome MayBeRead options.limit feeds history
      → length history < record_count_limit
  pub file_fits : (history : List Rec) → MayCome MayBeRead options.limit feeds history
      → FitsWritingLimits options.file history

-- a reading of what stands under the feed's name comes to its Data End
abbrev pub FeedIsReadWhole : Told → List ℕ → Halt → Type 0
FeedIsReadWhole told feed halt = FeedHalts told feed halt × ((end : ℕ) × (halt ≡ at_end end))

-- Feeds that are read to their Data Ends, and can be recorded without passing a limit, are recorded, beside any number of watchers
-- whose sinks and views don't fail.
abbrev pub RecordingsSucceed : Type 0
RecordingsSucceed = (request : Requested) (halts : List Halt) (told : Told) (old new : Scene)
    (report : Option RecordingReport) (status : Status) → Records request old new report status
    → old.world.told ≡ Some told
    → (AnyCountRose (watched_counts_in request.names.watches old) (watched_counts_in request.names.watches new) → ⊥)
    → AllZip (FeedIsReadWhole told) request.names.feeds halts
    → CanBeRecorded (Gives told) request.options request.names.feeds → IsAllDone status

-- Feeds that are generated are recorded, where they can be without passing a limit, and what was recorded is read back.
abbrev pub GenerationsSucceed : Type 0
GenerationsSucceed = (options : RecordOptions) (numbers : Numbers) (out : List ℕ) (told : Told) (old new : Scene)
    (report : Option Report) (status : Status) → OptionsAllowed options → IsUtf8 options.file.profile
    → Generates options numbers out old new report status → RanCalmly told old new
    → CanBeRecorded (Makes numbers) options (range_with_len 0 numbers.feeds) → IsAllDone status
