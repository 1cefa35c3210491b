-- Laws of the commands: what is recorded, with any number of watchers, is printed, keeps all rules, is recovered where only a first
-- part of it is left, and is what watch files hold; what is recovered or merged keeps all rules.
use Rattle.std.specs.Prelude.{◌≡◌, ◌⊎◌, ◌^◌, ◌<◌, ◌≤◌, ℕ, List, [], ◌∷◌, ◌++◌, length, take, filter, refl, true, Option, Some, None, IsUtf8}
use Rattle.std.specs.List.{AllZip, flat_map}
use Rattle.mcap_wire.specs.Limits.{chunk_size_limit, file_limit}
use Rattle.mcap_io.specs.Outside.{SinkState, Told}
use Rattle.rec_data.specs.declared.owned.Rec.{Rec}
use Rattle.rec_data.specs.Records.{attachment_opcode, metadata_opcode}
use Rattle.mcap_model.specs.declared.checked.Verdict.{Verdict}
use Rattle.mcap_model.specs.declared.checked.Verdict.TheVariants as verdicts
use Rattle.mcap_model.specs.declared.ends.End.TheVariants as ends
use Rattle.mcap_model.specs.declared.options.FileOptions.{FileOptions}
use Rattle.mcap_model.specs.declared.replay.Range.{Range}
use Rattle.mcap_model.specs.Places.{Each}
use Rattle.mcap_model.specs.Tops.{Top, offset_behind, flat}
use Rattle.mcap_model.specs.Rules.{V1}
use Rattle.mcap_model.specs.History.{is_message}
use Rattle.mcap_model.specs.Histories.{flat_history}
use Rattle.mcap_model.specs.Scan.{Seen, Scan, Replay}
use Rattle.mcap_model.specs.Blocks.{pieces_of, blocks_in}
use Rattle.mcap_model.specs.File.{file_of, IsPrefix}
use Rattle.mcap_model.specs.Valid.{IsFullyIndexed}
use Rattle.mcap_model.specs.Whole.{count_of}
use Rattle.mcap_model.specs.Laws.{IsValid, HoldsSeen}
use Rattle.mcap_model.specs.Recovery.{piece_records}
use Rattle.mcap_laws.specs.Parts.{PartIsRepaired}
use Rattle.time_player.specs.Text.{cat_text}
use Rattle.live_watcher.specs.Text.{end_line}
use Rattle.mcap_model.specs.Merged.{Merged as MergesTo}
use Rattle.chunk_writer.specs.Limits.{FileHolds}
use Rattle.command_base.specs.declared.statuses.Status.{Status}
use Rattle.command_base.specs.declared.statuses.Status.TheVariants as statuses
use Rattle.command_base.specs.Printing.{TellsAll}
use Rattle.command_base.specs.Ran.{Scene, counts_in, AnyRose}
use Rattle.mcap_model.specs.declared.options.RecordOptions.{RecordOptions}
use Rattle.recorder.specs.Laws.{IsSoundFile}
use Rattle.mcap_recover.specs.declared.answers.Recovered.{Recovered}
use Rattle.mcap_recover.specs.declared.answers.Why.TheVariants as whys
use Rattle.record_keeping.specs.NewFiles.{recovered_options}
use Rattle.mcap_merge.specs.declared.answers.Merged.{Merged}
use Rattle.mcap_merge.specs.Filed.{merged_options}
use Rattle.command_record.specs.declared.recording.RecordingReport.{RecordingReport}
use Rattle.command_record.specs.RecordSteps.{AreAllowed}
use Rattle.command_record.specs.Watched.{requested}
use Rattle.command_record.specs.WatchedAnswer.{Records}
use Rattle.command_read.specs.Cat.{Selection, Cats}
use Rattle.command_read.specs.Check.{verdict_line, FileChecks}
use Rattle.command_write.specs.declared.recovering.Recovery.{Recovery}
use Rattle.command_write.specs.declared.recovering.Recovery.TheVariants as recoveries
use Rattle.command_write.specs.Recover.{recovered_line, RecoversFile}
use Rattle.command_write.specs.declared.merging.Merging.{Merging}
use Rattle.command_write.specs.declared.merging.Merging.TheVariants as mergings
use Rattle.command_write.specs.Merge.{HoldsBytes, merged_line, MergesFiles}

-- all messages are asked for
abbrev pub everything : Selection
everything = record { range = record { start = 0; end = None }; topic = None }

-- An output took the lines of the messages of a history, in the order of log time and place: these are the messages of a
-- file's records, which are those of the history, in chunks or not. So their topics and their order are the history's.
pub record PrintsHistory (history : List Rec) (before now : SinkState) : Type 0 where
  pub tops : List Top
  pub flat_are : flat tops ≡ flat_history history
  pub messages : List Seen
  pub scan : Scan tops messages
  pub shown : List Seen
  pub are : AllZip HoldsSeen (filter is_message history) messages
  pub replay : Replay everything.range everything.topic messages shown
  pub lines : TellsAll before now (cat_text shown)

-- A recording in which all was done, in a world that tells, and then a printing of its output there, in which no count rises: it
-- prints the messages of the recording's history, or memory lacked for that.
abbrev pub RecordingsArePrinted : Type 0
RecordingsArePrinted = (options : RecordOptions) (range : Range) (out : List ℕ) (watches feeds : List (List ℕ))
    (old new later last : Scene) (r : RecordingReport) (answer : Status) (told : Told) → AreAllowed options
    → IsUtf8 options.file.profile
    → (it : Records (requested options range out watches feeds) old new (Some r) statuses.Done)
    → old.world.told ≡ Some told → later.world ≡ new.world → Cats everything out later last answer
    → (AnyRose (counts_in later) (counts_in last) → ⊥)
    → ((answer ≡ statuses.Done) × PrintsHistory (it.reported r.recorded refl).recorded.history later.out last.out)
    ⊎ (answer ≡ statuses.Memory)

-- ---- what is recorded keeps all rules

-- what is said of the file of a recording: that it is fully indexed where it has chunks, and else that it is valid
abbrev pub IsSaid : Option ℕ → Verdict → Type 0
IsSaid chunk (verdicts.Indexed n) = chunk ≡ None → ⊥
IsSaid chunk (verdicts.Plain n) = chunk ≡ None
IsSaid chunk (verdicts.Flawed rule offset) = ⊥

-- that was printed
pub record PrintsSound (chunk : Option ℕ) (before now : SinkState) : Type 0 where
  pub verdict : Verdict
  pub said : IsSaid chunk verdict
  pub line : TellsAll before now (verdict_line verdict)

-- A recording in which all was done, in a world that tells, and then a check of its output there, in which no count rises: it
-- finds no flaw, no compression and no limit of reading, and prints that; or memory lacked for the check.
abbrev pub RecordingsAreSound : Type 0
RecordingsAreSound = (options : RecordOptions) (range : Range) (out : List ℕ) (watches feeds : List (List ℕ))
    (old new later last : Scene) (r : RecordingReport) (answer : Status) (told : Told) → AreAllowed options
    → IsUtf8 options.file.profile
    → Records (requested options range out watches feeds) old new (Some r) statuses.Done
    → old.world.told ≡ Some told → later.world ≡ new.world → FileChecks out later last answer
    → (AnyRose (counts_in later) (counts_in last) → ⊥)
    → ((answer ≡ statuses.Done) × PrintsSound options.file.chunk later.out last.out) ⊎ (answer ≡ statuses.Memory)

-- ---- what is recovered keeps all rules

-- a chunk size that the words of a recovery may give
abbrev pub IsChunkSize : ℕ → Type 0
IsChunkSize chunk = (1 ≤ chunk) × (chunk ≤ chunk_size_limit)

-- a summary has room for the number of Attachments among these extras, and for that of Metadata
abbrev pub AreCounted : List Top → Type 0
AreCounted extras = (count_of attachment_opcode extras < 2 ^ 32) × (count_of metadata_opcode extras < 2 ^ 32)

-- A recovery was made, and its line was printed. Under the output's name stands the file of some extras, which it counts, and of a
-- history; it is valid and fully indexed where a summary has room for the numbers of the extras.
pub record LeavesSound (chunk : ℕ) (out : List ℕ) (old new : Scene) (recovery : Recovery) : Type 0 where
  pub recovered : Recovered
  pub is_made : recovery ≡ recoveries.Made recovered
  pub line : TellsAll old.out new.out (recovered_line recovered)
  pub told : Told
  pub tells : new.world.told ≡ Some told
  pub profile : List ℕ
  pub extras : List Top
  pub history : List Rec
  pub extras_are : recovered.extras ≡ length extras
  pub there : told.names out ≡ Some (file_of (recovered_options profile chunk) extras history)
  pub valid : AreCounted extras → IsValid (file_of (recovered_options profile chunk) extras history)
  pub indexed : AreCounted extras → IsFullyIndexed (file_of (recovered_options profile chunk) extras history)

-- A recovery in which all was done, in a world that tells, leaves such a file, whatever its input was.
abbrev pub RecoveriesAreSound : Type 0
RecoveriesAreSound = (chunk : ℕ) (input out : List ℕ) (old new : Scene) (told : Told) → IsChunkSize chunk
    → (it : RecoversFile chunk input out old new statuses.Done) → old.world.told ≡ Some told
    → LeavesSound chunk out old new it.recovery

-- ---- what is merged keeps all rules

-- the file that merging makes of files with this profile, these extras and this history
abbrev pub merged_file : ℕ → List ℕ → List Top → List Rec → List ℕ
merged_file chunk profile extras history = file_of (merged_options profile chunk) extras history

-- A merge was made, and its line was printed. These were the files under the inputs' names, and under the output's name stands what
-- merging makes of them, with its numbers: all messages of all files, each once, in order. That file is valid and fully indexed
-- where a summary has room for the numbers of the files' extras.
pub record LeavesMerged (chunk : ℕ) (inputs : List (List ℕ)) (out : List ℕ) (old new : Scene) (before : Told)
    (merging : Merging) : Type 0 where
  pub merged : Merged
  pub is_made : merging ≡ mergings.Made merged
  pub line : TellsAll old.out new.out (merged_line (length inputs) merged)
  pub files : List (List ℕ)
  pub were_there : AllZip (HoldsBytes before) inputs files
  pub profile : List ℕ
  pub extras : List Top
  pub history : List Rec
  pub merges : MergesTo files profile extras history
  pub messages : merged.messages ≡ length (filter is_message history)
  pub records : merged.records ≡ length history
  pub told : Told
  pub tells : new.world.told ≡ Some told
  pub there : told.names out ≡ Some (merged_file chunk profile extras history)
  pub valid : AreCounted extras → IsValid (merged_file chunk profile extras history)
  pub indexed : AreCounted extras → IsFullyIndexed (merged_file chunk profile extras history)

-- A merge in which all was done, in a world that tells, leaves such a file, whatever its inputs were.
abbrev pub MergesAreSound : Type 0
MergesAreSound = (chunk : ℕ) (inputs : List (List ℕ)) (out : List ℕ) (old new : Scene) (told : Told) → IsChunkSize chunk
    → (it : MergesFiles chunk inputs out old new statuses.Done) → old.world.told ≡ Some told
    → LeavesMerged chunk inputs out old new told it.merging

-- ---- a recording of which a first part is left is recovered

-- a first part of the file of a history, which may be read
pub record IsFirstPart (options : FileOptions) (history : List Rec) (part : List ℕ) : Type 0 where
  pub part_is : IsPrefix part (file_of options [] history)
  pub short : length part ≤ file_limit

-- that file is within the limits of writing
abbrev pub FitsWritingLimits : FileOptions → List Rec → Type 0
FitsWritingLimits options history = FileHolds options.profile (blocks_in (pieces_of options.chunk options.span history))
    (length (file_of options [] history))

-- A recording in a world that tells, whatever its end, of which the output was kept, leaves a first part of its file under the
-- output's name, with the magic where a record was accepted; and where its writer closed, that file is within the limits.
abbrev pub RecordingsLeaveFirstParts : Type 0
RecordingsLeaveFirstParts = (options : RecordOptions) (range : Range) (out : List ℕ)
    (watches feeds : List (List ℕ)) (old new : Scene) (r : RecordingReport) (answer : Status) (told now : Told)
    → (it : Records (requested options range out watches feeds) old new (Some r) answer)
    → old.world.told ≡ Some told → new.world.told ≡ Some now → (it.reported r.recorded refl).live_kept ≡ true
    → ((part : List ℕ) × (now.names out ≡ Some part)
    × IsPrefix part (file_of options.file [] (it.reported r.recorded refl).recorded.history)
    × (((it.reported r.recorded refl).recorded.history ≡ [] → ⊥) → V1 part))
    × (r.recorded.writer.end ≡ ends.Closed
    → FitsWritingLimits options.file (it.reported r.recorded refl).recorded.history)

-- the records of the first so many pieces of the file of a history
abbrev pub records_in_pieces : FileOptions → List Rec → ℕ → List Rec
records_in_pieces options history pieces = flat_map piece_records (take pieces (pieces_of options.chunk options.span history))

-- What repairing makes of a first part of a file without extras: of the history just the records of those pieces that are whole
-- there, unchanged.
pub record KeepsFirst (options : FileOptions) (history : List Rec) (part : List ℕ) : Type 0 where
  pub front : PartIsRepaired options [] history part
  pub none : front.kept ≡ []
  pub records : front.first ≡ records_in_pieces options history front.piece_count

-- the options of the new file, and the file
abbrev pub new_options : {options : FileOptions} {history : List Rec} {part : List ℕ} → ℕ
    → KeepsFirst options history part → FileOptions
new_options chunk keeps = recovered_options keeps.front.profile chunk

abbrev pub new_file : {options : FileOptions} {history : List Rec} {part : List ℕ} → ℕ → KeepsFirst options history part
    → List ℕ
new_file chunk keeps = file_of (new_options chunk keeps) [] keeps.front.first

-- A check of that name in a world like this one, in which no count rises, finds no flaw, no compression and no limit of
-- reading, but that the file is fully indexed, and prints that; or memory lacked for the check.
abbrev pub IsFoundIndexed : ℕ → List ℕ → Scene → Type 0
IsFoundIndexed chunk name scene = (later last : Scene) (answer : Status) → later.world ≡ scene.world
    → FileChecks name later last answer → (AnyRose (counts_in later) (counts_in last) → ⊥)
    → ((answer ≡ statuses.Done) × PrintsSound (Some chunk) later.out last.out) ⊎ (answer ≡ statuses.Memory)

-- The file of what is kept of a first part stands under the output's name, sound; its numbers were printed, with where and why
-- the part ends; and a check finds it fully indexed.
pub record RecoversFirst (options : FileOptions) (history : List Rec) (chunk : ℕ) (part out : List ℕ) (old new : Scene)
    : Type 0 where
  pub keeps : KeepsFirst options history part
  pub told : Told
  pub tells : new.world.told ≡ Some told
  pub there : told.names out ≡ Some (new_file chunk keeps)
  pub sound : IsSoundFile (new_options chunk keeps) (new_file chunk keeps)
  pub recovered : Recovered
  pub messages : recovered.messages ≡ length (filter is_message keeps.front.first)
  pub records : recovered.records ≡ length keeps.front.first
  pub extras : recovered.extras ≡ 0
  pub at : recovered.at ≡ offset_behind keeps.front.whole
  pub complete : keeps.front.others ≡ [] → recovered.why ≡ whys.Complete
  -- the next record is cut short; or its end is past what is read
  pub short : (t : Top) (more : List Top) → keeps.front.others ≡ t ∷ more → (recovered.why ≡ whys.Short)
      ⊎ ((file_limit < offset_behind (keeps.front.whole ++ t ∷ [])) × (recovered.why ≡ whys.Limit))
  pub line : TellsAll old.out new.out (recovered_line recovered)
  pub checked : IsFoundIndexed chunk out new

-- that file would pass a limit of writing
abbrev pub PassesWritingLimit : FileOptions → List Rec → ℕ → List ℕ → Type 0
PassesWritingLimit options history chunk part = (keeps : KeepsFirst options history part)
    × (FitsWritingLimits (new_options chunk keeps) keeps.front.first → ⊥)

-- A recording, whatever its end, and a first part of its file that may be read, as its writer left it, under whatever name of a world
-- that tells. The whole file may pass the limits, if its offsets would fit their fields. A recovery of that name, in which no count
-- rises, leaves the file of just the records that are whole there; or that file would pass a limit; or the part doesn't hold the
-- magic, and the recovery is refused; or memory lacked.
abbrev pub RecordingsAreRecovered : Type 0
RecordingsAreRecovered = (options : RecordOptions) (range : Range) (out : List ℕ) (watches feeds : List (List ℕ))
    (old new : Scene) (r : RecordingReport) (answer : Status) → AreAllowed options → IsUtf8 options.file.profile
    → (it : Records (requested options range out watches feeds) old new (Some r) answer)
    → length (file_of options.file [] (it.reported r.recorded refl).recorded.history) < 2 ^ 64 → (part : List ℕ)
    → IsFirstPart options.file (it.reported r.recorded refl).recorded.history part
    → (chunk : ℕ) (input output : List ℕ) (later last : Scene) (status : Status) (told : Told) → IsChunkSize chunk
    → later.world.told ≡ Some told → told.names input ≡ Some part → RecoversFile chunk input output later last status
    → (AnyRose (counts_in later) (counts_in last) → ⊥)
    → ((status ≡ statuses.Done)
    × RecoversFirst options.file (it.reported r.recorded refl).recorded.history chunk part output later last)
    ⊎ (((status ≡ statuses.Limit)
    × PassesWritingLimit options.file (it.reported r.recorded refl).recorded.history chunk part)
    ⊎ (((status ≡ statuses.Refused) × (V1 part → ⊥)) ⊎ (status ≡ statuses.Memory)))

-- ---- watch files

-- Behind some lines, those of fronts, a watch file holds the line of the end, with the numbers of the file's blocks and of the
-- messages of the range, and the lines of these: of all messages of a history that lie in the range, in the order of log time and
-- place. They are those of records whose flat records are the history's; so their topics and their order are.
pub record HoldsWatchedMessages (range : Range) (history : List Rec) (blocks : ℕ) (file : Option (List ℕ))
    : Type 0 where
  pub tops : List Top
  pub flat_are : flat tops ≡ flat_history history
  pub messages : List Seen
  pub scan : Scan tops messages
  pub are : AllZip HoldsSeen (filter is_message history) messages
  pub shown : List Seen
  pub replay : Replay range None messages shown
  pub fronts : List ℕ
  pub lines : file ≡ Some (fronts ++ (end_line ends.Closed blocks (length shown) ++ cat_text shown))

-- A recording in chunks in which all was done, in a world that tells, leaves such a file under each watch name.
abbrev pub WatchFilesHoldMessages : Type 0
WatchFilesHoldMessages = (options : RecordOptions) (range : Range) (size : ℕ) (out : List ℕ)
    (watches feeds : List (List ℕ)) (old new : Scene) (r : RecordingReport) (told now : Told) → AreAllowed options
    → IsUtf8 options.file.profile → options.file.chunk ≡ Some size
    → (it : Records (requested options range out watches feeds) old new (Some r) statuses.Done)
    → old.world.told ≡ Some told → new.world.told ≡ Some now
    → Each
    (λ (name : List ℕ).
    HoldsWatchedMessages range (it.reported r.recorded refl).recorded.history r.recorded.writer.blocks (now.names name))
    watches
