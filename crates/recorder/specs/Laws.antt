-- Laws of recordings.
use Rattle.std.specs.Prelude.{◌≡◌, ℕ, ◌<◌, ◌≤◌, List, [], length, filter, true, false, Some}
use Rattle.std.specs.List.{AllZip}
use Rattle.rec_data.specs.declared.owned.Rec.{Rec}
use Rattle.mcap_io.specs.Outside.{SourceState}
use Rattle.mcap_model.specs.declared.ends.End.{End}
use Rattle.mcap_model.specs.declared.ends.End.TheVariants as ends
use Rattle.mcap_model.specs.declared.options.FileOptions.{FileOptions}
use Rattle.mcap_model.specs.Places.{At, Each, EachBehind}
use Rattle.mcap_model.specs.Tops.{Top, flat}
use Rattle.mcap_model.specs.Rules.{Agrees}
use Rattle.mcap_model.specs.Kept.{Halts, reading_limits, is_beyond, at_end}
use Rattle.mcap_model.specs.Scan.{Seen, Scan}
use Rattle.mcap_model.specs.History.{is_message, history_bytes}
use Rattle.mcap_model.specs.Histories.{flat_history}
use Rattle.mcap_model.specs.File.{file_of}
use Rattle.mcap_model.specs.Whole.{offset_of, IsWhole}
use Rattle.mcap_model.specs.Laws.{IsValid, HoldsSeen, CanBeWritten}
use Rattle.mcap_model.specs.Valid.{IsFullyIndexed}
use Rattle.mcap_model.specs.declared.options.RecordOptions.{RecordOptions}
use Rattle.recorder.specs.declared.report.Report.{Report}
use Rattle.recorder.specs.Assembled.{LanePart, Assembled}
use Rattle.feed_lane.specs.declared.report.FeedReport.{FeedReport}
use Rattle.feed_lane.specs.Pass.{LackAt, filled}
use Rattle.feed_lane.specs.Lanes.{IsChannelOf, IsBetween, lacks_of}
use Rattle.buffer_swap.specs.Shown.{IdsLackAt, HeldThere}
use Rattle.record_core.specs.declared.answers.CallRefused.{CallRefused}
use Rattle.record_core.specs.declared.answers.CallRefused.TheVariants as refusing
use Rattle.recorder.specs.Recorded.{Sides, Recorded, AreReadable}

-- ---- recordings are read back

-- a file is read to its Data End: its flat records are those of a history, and its messages too, in order
pub record ReadsAs (file : List ℕ) (history : List Rec) : Type 0 where
  pub tops : List Top
  pub end : ℕ
  pub halts : Halts reading_limits file tops (at_end end)
  pub flat_are : flat tops ≡ flat_history history
  pub messages_are : (messages : List Seen) → Scan tops messages → AllZip HoldsSeen (filter is_message history) messages

-- The file of a recording that was closed is read back as its history, and so is what a store holds then, where it held
-- nothing before.
abbrev pub RecordingsAreReadBack : Type 0
RecordingsAreReadBack = (options : RecordOptions) (before now : Sides) (r : Report) → AreReadable options.file
    → (it : Recorded options before now r) → r.writer.end ≡ ends.Closed
    → ReadsAs (file_of options.file [] it.history) it.history
    × ((bytes : List ℕ) → before.live.held ≡ Some [] → now.live.held ≡ Some bytes → ReadsAs bytes it.history)

-- ---- recordings are valid

-- no record of the file has a content, or an end, past a limit of reading
abbrev pub IsWithinLimits : List ℕ → Type 0
IsWithinLimits file = (tops : List Top) (n : ℕ) (t : Top) → IsWhole file tops → At tops n t
    → is_beyond reading_limits (offset_of tops n) (length t.content) ≡ false

-- a file is valid, fully indexed where chunks were asked for, and within the limits of reading
pub record IsSoundFile (options : FileOptions) (file : List ℕ) : Type 0 where
  pub valid : IsValid file
  pub within : IsWithinLimits file
  pub indexed : (size : ℕ) → options.chunk ≡ Some size → IsFullyIndexed file

-- A file can be written of the history of a recording that was closed. That file is sound, and so is what a store holds
-- then, where it held nothing before.
abbrev pub RecordingsAreValid : Type 0
RecordingsAreValid = (options : RecordOptions) (before now : Sides) (r : Report) → AreReadable options.file
    → (it : Recorded options before now r) → r.writer.end ≡ ends.Closed
    → CanBeWritten options.file [] it.history
    × IsSoundFile options.file (file_of options.file [] it.history)
    × ((bytes : List ℕ) → before.live.held ≡ Some [] → now.live.held ≡ Some bytes → IsSoundFile options.file bytes)

-- ---- histories are given

-- lanes, and a history that they make up
pub record Assembly : Type 0 where
  pub limit : ℕ
  pub lanes : List LanePart
  pub history : List Rec
  pub end : End
  pub is : Assembled limit lanes history end

-- two lanes read the same records and report the same lists
pub record SameLists (one other : LanePart) : Type 0 where
  pub records : one.records ≡ other.records
  pub lists : one.lists ≡ other.lists

-- The records that lanes read, which agree as the flat records of a good list do, and the lists of their reports decide the
-- history.
abbrev pub HistoriesAreGiven : Type 0
HistoriesAreGiven = (one other : Assembly) → Each (λ lane. EachBehind Agrees lane.records) one.lanes
    → AllZip SameLists one.lanes other.lanes → one.history ≡ other.history

-- a recording: how it was to be made, what was seen of its sources and its store, and its report
pub record Account : Type 0 where
  pub options : RecordOptions
  pub before : Sides
  pub now : Sides
  pub report : Report
  pub is : Recorded options before now report

-- these are the bytes of the sources, in order
abbrev pub AreLeft : List SourceState → List (List ℕ) → Type 0
AreLeft sources all = AllZip (λ (s : SourceState) (bytes : List ℕ). s.left ≡ Some bytes) sources all

-- The bytes of the feeds and the reports on them decide the history, whatever the options and the store.
abbrev pub RecordingsAreGiven : Type 0
RecordingsAreGiven = (all : List (List ℕ)) (one other : Account) → AreLeft one.before.sources all
    → AreLeft other.before.sources all → one.report.feeds.items ≡ other.report.feeds.items
    → one.is.history ≡ other.is.history

-- ---- full buffers

-- the report has no refusal for a full buffer
abbrev pub RefusesNoneAsFull : FeedReport → Type 0
RefusesNoneAsFull f = Each (λ r. (held from to : ℕ) → r.cause ≡ refusing.Full held from to → ⊥) f.refused.items

-- A message is refused for a full buffer only where the frames of all that was recorded have as many bytes as fill a buffer.
abbrev pub FullBuffersAreNeeded : Type 0
FullBuffersAreNeeded = (options : RecordOptions) (before now : Sides) (r : Report) (it : Recorded options before now r)
    → length (history_bytes it.history) < options.limit → Each RefusesNoneAsFull r.feeds.items

-- Where it is, the buffer was full: it held the records of the history from where one was handed over last to where the
-- message came. They have the bytes that are told, as many as the limit or more, and before its last call it was below that.
abbrev pub BuffersWereFull : ℕ → List Rec → List ℕ → LanePart → Type 0
BuffersWereFull limit history swaps lane = Each (λ r. (held from to : ℕ) → r.cause ≡ refusing.Full held from to
    → (limit ≤ held) × HeldThere limit history swaps (filled held from to)) lane.lists.refused

abbrev pub FullBuffersWereFull : Type 0
FullBuffersWereFull = (limit : ℕ) (lanes : List LanePart) (history : List Rec) (end : End)
    (it : Assembled limit lanes history end) → Each (BuffersWereFull limit history it.swaps) lanes

-- No id was left for a message's channel when it came, at a place between those that its feed got for earlier messages and
-- for later ones: all had been given before.
pub record HadRunOut (history : List Rec) (lane : LanePart) (refusal : ℕ × CallRefused) : Type 0 where
  pub lack : LackAt
  pub cause : lack.cause ≡ refusal.1
  pub channel : IsChannelOf lane.records refusal.0 lack.content
  pub there : IdsLackAt history lack
  pub between : IsBetween lane.lists refusal.0 lack.at

-- So it is of each message that is refused for want of ids.
abbrev pub IdsHadRunOut : Type 0
IdsHadRunOut = (limit : ℕ) (lanes : List LanePart) (history : List Rec) (end : End) → Assembled limit lanes history end
    → Each (λ lane. Each (HadRunOut history lane) (lacks_of lane.lists.refused)) lanes

-- Where lanes wait for room, none is.
abbrev pub LosslessRefusesNoneAsFull : Type 0
LosslessRefusesNoneAsFull = (options : RecordOptions) (before now : Sides) (r : Report) → Recorded options before now r
    → options.lossless ≡ true → Each RefusesNoneAsFull r.feeds.items
