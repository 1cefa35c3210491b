-- What a recording does to the names of the feeds and of the output, what it reports, and how its feeds end.
use Rattle.std.specs.Prelude.{◌≡◌, ◌⊎◌, not, ℕ, List, [], ◌∷◌, ◌++◌, map, length, Bool, true, false, if◌then◌else◌, Option, Some, None}
use Rattle.std.specs.List.{list_any}
use Rattle.mcap_io.specs.Outside.{WorldState, SourceState, LiveState, Told, Opening}
use Rattle.mcap_io.specs.declared.outside.ObjectKind.TheVariants as kinds
use Rattle.rec_data.specs.declared.owned.Rec.{Rec}
use Rattle.mcap_model.specs.declared.ends.End.{End}
use Rattle.mcap_model.specs.declared.ends.End.TheVariants as ends
use Rattle.mcap_model.specs.declared.refusals.ReadingRefused.{ReadingRefused}
use Rattle.mcap_model.specs.declared.refusals.ReadingRefused.TheVariants as refusals
use Rattle.mcap_model.specs.declared.options.FileOptions.{FileOptions}
use Rattle.mcap_model.specs.Places.{Has, Each}
use Rattle.mcap_model.specs.Tops.{Top}
use Rattle.mcap_model.specs.Kept.{Halt, reading_limits, Halts}
use Rattle.mcap_model.specs.File.{front, file_of}
use Rattle.mcap_model.specs.Pieces.{file_pieces, StoppedAt}
use Rattle.record_core.specs.declared.answers.CallRefused.{CallRefused}
use Rattle.record_core.specs.declared.answers.CallRefused.TheVariants as refusing
use Rattle.feed_lane.specs.declared.report.Refused.{Refused}
use Rattle.feed_lane.specs.declared.report.FeedReport.{FeedReport}
use Rattle.feed_lane.specs.declared.report.FeedEnd.{FeedEnd}
use Rattle.feed_lane.specs.declared.report.FeedEnd.TheVariants as feed_ends
use Rattle.mcap_model.specs.declared.options.RecordOptions.{RecordOptions}
use Rattle.recorder.specs.declared.report.Report.{Report}
use Rattle.recorder.specs.declared.report.WriterReport.{WriterReport}
use Rattle.command_base.specs.declared.statuses.Status.{Status}
use Rattle.command_base.specs.declared.statuses.Status.TheVariants as statuses
use Rattle.command_base.specs.Texts.{Trouble, is_status}
use Rattle.command_base.specs.OneFile.{refusal_ending, troubles_in}
use Rattle.recorder.specs.Findings.{lacks_memory, limit_passed}
use Rattle.command_base.specs.Inputs.{InputKept}
use Rattle.command_base.specs.Endings.{WritingEnding}
use Rattle.command_base.specs.Outputs.{LeftUnderName}
use Rattle.command_record.specs.ReportTexts.{printed}
use Rattle.command_base.specs.Ran.{kept, input_faults, output_faults}

-- ---- with a report

-- What stands of the file of a history, by how its writer ended: all of it, where it closed; else the whole pieces before the one
-- at hand, which have the bytes that are told, and nothing of that one unless the store failed, and then a first part at most.
abbrev pub StandsBy : FileOptions → List Rec → ℕ → End → List ℕ → Type 0
StandsBy options history bytes ends.Closed text = (text ≡ file_of options [] history) × (length text ≡ bytes)
StandsBy options history bytes (ends.Stopped stop) text =
    (place : ℕ) × StoppedAt (file_pieces options [] history) place stop text bytes

-- What stands under the output's name: what the writer's report says of the file of the history, or what stood there, where the
-- keeping failed. Where a record was accepted, and the output kept, the front of a file stands there.
pub record OutputHolds (options : FileOptions) (history : List Rec) (w : WriterReport) (well : Bool)
    (before now : Option (List ℕ)) : Type 0 where
  pub part : ((text : List ℕ) × (now ≡ Some text) × StandsBy options history w.bytes w.end text)
      ⊎ ((now ≡ before) × (well ≡ false))
  pub begun : (history ≡ [] → ⊥) → well ≡ true → (more : List ℕ) × (now ≡ Some (front options.profile ++ more))

-- a feed's source as the world took it back, and whether that went well
abbrev pub FeedKept : Type 0
FeedKept = InputKept SourceState

-- its entry
abbrev pub feed_entry : FeedKept → Opening
feed_entry f =
    kept kinds.Source f.name (record { well = f.well; faults = f.back.faults; left = f.back.left; asked = 0 })

abbrev pub live_entry : List ℕ → LiveState → Bool → Opening
live_entry out live well = kept kinds.Live out (record { well = well; faults = live.faults; left = None; asked = 0 })

abbrev pub feed_names_kept : List FeedKept → List (List ℕ)
feed_names_kept feeds = map (λ (f : FeedKept). f.name) feeds

abbrev pub back_sources : List FeedKept → List SourceState
back_sources feeds = map (λ (f : FeedKept). f.back) feeds

-- ---- without a report

-- Nothing was read from the feeds and nothing written: the output's name holds what it held, or nothing.
pub record Unreported (out : List ℕ) (old new : WorldState) (entries : List Opening) : Type 0 where
  pub inputs : input_faults entries ≡ 0
  pub outputs : output_faults entries ≡ 0
  pub left : (told : Told) → old.told ≡ Some told → Each (LeftUnderName told) entries
  pub file : (told now : Told) → old.told ≡ Some told → new.told ≡ Some now
      → (now.names out ≡ told.names out) ⊎ (now.names out ≡ Some [])

-- where one of the feeds isn't there, the output's name holds what it held
abbrev pub SparesOutput : List ℕ → List (List ℕ) → WorldState → WorldState → Type 0
SparesOutput out feeds old new = (told now : Told) → old.told ≡ Some told → new.told ≡ Some now
    → (feed : List ℕ) → Has feeds feed → told.names feed ≡ None → now.names out ≡ told.names out

-- ---- what a report tells

-- the text for standard output
abbrev pub report_text : Option Report → List ℕ
report_text None = []
report_text (Some r) = printed r

-- the trouble that a feed's end is
abbrev pub end_troubles : List ℕ → FeedEnd → List Trouble
end_troubles feed feed_ends.Done = []
end_troubles feed (feed_ends.Refused why) = troubles_in (refusal_ending feed why)
end_troubles feed feed_ends.Ended = []

-- the status that a refused reading of a feed asks for; a fault and a want of memory are told by themselves
abbrev pub refusal_status : ReadingRefused → Status
refusal_status (refusals.Fault faults) = statuses.Done
refusal_status (refusals.Grammar n rule) = statuses.Refused
refusal_status (refusals.Compressed n name) = statuses.Refused
refusal_status (refusals.Limit n) = statuses.Limit
refusal_status refusals.Memory = statuses.Done

abbrev pub end_status : FeedEnd → Status
end_status feed_ends.Done = statuses.Done
end_status (feed_ends.Refused why) = refusal_status why
end_status feed_ends.Ended = statuses.Done

-- the ends of all feeds, in their order
abbrev pub ends_of : List (List ℕ) → List FeedReport → List (List Trouble)
ends_of [] reports = []
ends_of (feed ∷ feeds) [] = []
ends_of (feed ∷ feeds) (report ∷ reports) = end_troubles feed report.end ∷ ends_of feeds reports

-- the same where there may be no report
abbrev pub reports_in : Option Report → List FeedReport
reports_in None = []
reports_in (Some r) = r.feeds.items

-- whether memory lacked, as the report names it; where there is none it did, unless some part of the outside failed
abbrev pub report_lack : Option Report → Bool → Bool
report_lack None some = not some
report_lack (Some r) some = lacks_memory r

abbrev pub fails_in : Option Report → Bool → Bool
fails_in None some = some
fails_in (Some r) some = false

-- How a recording ended, by whether some part of the outside failed.
abbrev pub ending_of_recording : List (List ℕ) → Option Report → Bool → WritingEnding
ending_of_recording feeds report some = record {
  text = report_text report;
  halts = ends_of feeds (reports_in report);
  passes_limit = limit_passed report;
  lacks_memory = report_lack report some;
  fails = fails_in report some;
}

-- ---- the status

-- a limit, or else a refusal, if it stands among the statuses; or else that all was done
abbrev pub worst : List Status → Status
worst asked = if list_any (is_status statuses.Limit) asked then statuses.Limit
    else (if list_any (is_status statuses.Refused) asked then statuses.Refused else statuses.Done)

abbrev pub ends_status : Report → Status
ends_status r = worst (map (λ (f : FeedReport). end_status f.end) r.feeds.items)

-- the buffer stood at its limit
abbrev pub is_full : CallRefused → Bool
is_full (refusing.Full held from to) = true
is_full cause = false

-- The whole feed was recorded: its Data End was read, and none of its messages was refused, but for a full buffer where lanes
-- don't wait for room.
pub record IsAllRecorded (lossless : Bool) (f : FeedReport) : Type 0 where
  pub end : f.end ≡ feed_ends.Done
  pub only_full : Each (λ (x : Refused). is_full x.cause ≡ true) f.refused.items
  pub none_refused : lossless ≡ true → f.refused.items ≡ []

-- all of the feeds was recorded, and the file was closed
pub record RecordsAll (options : RecordOptions) (r : Report) : Type 0 where
  pub each : Each (IsAllRecorded options.lossless) r.feeds.items
  pub closed : r.writer.end ≡ ends.Closed

-- the bytes of a feed halt so
pub record FeedHalts (told : Told) (feed : List ℕ) (halt : Halt) : Type 0 where
  pub bytes : List ℕ
  pub there : told.names feed ≡ Some bytes
  pub tops : List Top
  pub halts : Halts reading_limits bytes tops halt
