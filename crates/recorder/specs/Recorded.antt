-- What a recording did to its sources and to its store.
use Rattle.std.specs.Prelude.{◌≡◌, ℕ, ◌≤◌, length, Some, IsUtf8, ◌-◌, ◌⊎◌, List, [], map, true, Result, Ok, Err, OnOk}
use Rattle.mcap_wire.specs.Layout.{content_limit}
use Rattle.mcap_model.specs.declared.options.FileOptions.{FileOptions}
use Rattle.rec_data.specs.declared.owned.Rec.{Rec}
use Rattle.mcap_io.specs.Outside.{SourceState, LiveState}
use Rattle.mcap_model.specs.declared.ends.End.{End}
use Rattle.mcap_model.specs.declared.ends.End.TheVariants as ends
use Rattle.mcap_model.specs.declared.ends.Stop.{Stop}
use Rattle.mcap_model.specs.Places.{Each}
use Rattle.mcap_model.specs.Tops.{flat}
use Rattle.mcap_model.specs.File.{front}
use Rattle.record_cache.specs.KeptRecords.{IsKept}
use Rattle.chunk_writer.specs.Limits.{ChunkSizeFits, Holds}
use Rattle.chunk_writer.specs.Stops.{numbers, Cause, Ends}
use Rattle.feed_lane.specs.declared.report.FeedReport.{FeedReport}
use Rattle.feed_lane.specs.Pass.{PassState}
use Rattle.feed_lane.specs.Feeds.{reported, Reports}
use Rattle.mcap_model.specs.declared.options.RecordOptions.{RecordOptions}
use Rattle.recorder.specs.declared.report.Report.{Report}
use Rattle.recorder.specs.declared.report.WriterReport.{WriterReport}
use Rattle.recorder.specs.Assembled.{LanePart, Assembled}

-- ---- a feed

-- What came of a feed: its source as it was and is now, the report on it, and what the pass of its lane showed, of which the
-- report is true.
pub record FeedRecorded : Type 0 where
  pub before : SourceState
  pub now : SourceState
  pub feed : FeedReport
  pub pass : PassState
  pub reports : Reports before now pass feed

-- its lane
abbrev pub lane_of : FeedRecorded → LanePart
lane_of f =
    record { records = flat f.reports.tops; handled = f.reports.handled; lists = reported f.feed; pass = f.pass }

-- these are the feeds of a recording whose sources were and are so, and these are the reports on them, in the same order
pub record AreFeeds (feeds : List FeedRecorded) (before now : List SourceState) (reports : List FeedReport)
    : Type 0 where
  pub before_are : before ≡ map (λ (f : FeedRecorded). f.before) feeds
  pub now_are : now ≡ map (λ (f : FeedRecorded). f.now) feeds
  pub reports_are : reports ≡ map (λ (f : FeedRecorded). f.feed) feeds

-- ---- the writer

-- the end as an answer
abbrev pub answer_of : End → Result Unit Stop
answer_of ends.Closed = Ok tt
answer_of (ends.Stopped stop) = Err stop

-- the store took the front of a file whole; or nothing whole, and then nothing was accepted
abbrev pub TookFront : FileOptions → List Rec → ℕ → Type 0
TookFront options history bytes = (length (front options.profile) ≤ bytes) ⊎ ((bytes ≡ 0) × (history ≡ []))

-- What the writer's report says of its store. Where it closed, the file of the history stands behind what the store held, and
-- all of it is with the system; else the writer stopped at a piece of that file.
pub record WriterRecorded (options : FileOptions) (before now : LiveState) (history : List Rec) (w : WriterReport)
    : Type 0 where
  pub records : w.records ≡ length history
  pub wrote : Ends options [] before.held now.held history (numbers w.blocks w.bytes) (answer_of w.end)
  pub within : Holds w.blocks w.bytes
  pub begun : TookFront options history w.bytes
  pub through : OnOk (answer_of w.end) (now.waiting ≡ 0)
  -- the store's count rises by one where the writer stopped at a fault, which carries it, and stands still otherwise
  pub cause : Cause before.faults now.faults (answer_of w.end)

-- ---- the recording

-- what is seen of the sources and of the store
pub record Sides : Type 0 where
  pub sources : List SourceState
  pub live : LiveState

abbrev pub sides : List SourceState → LiveState → Sides
sides sources live = record { sources = sources; live = live }

-- What a recording came to: what its lanes read and showed, and the history, which its report describes and the store holds.
pub record Recorded (options : RecordOptions) (before now : Sides) (r : Report) : Type 0 where
  pub history : List Rec
  pub feeds : List FeedRecorded
  pub are : AreFeeds feeds before.sources now.sources r.feeds.items
  pub assembled : Assembled options.limit (map lane_of feeds) history r.writer.end
  -- where lanes wait for room, no call was answered that the buffer is full
  pub unfull : options.lossless ≡ true → Each (λ (f : FeedRecorded). f.pass.fulls ≡ []) feeds
  -- each record can be framed, and is read back from its frame
  pub kept : Each IsKept history
  pub writer : WriterRecorded options.file before.live now.live history r.writer

-- ---- recordings are read back

-- The profile is UTF-8, and so short that a reader takes the Header, which has 17 bytes besides; and the size of chunks fits.
pub record AreReadable (options : FileOptions) : Type 0 where
  pub profile : IsUtf8 options.profile
  pub short : length options.profile ≤ content_limit - 17
  pub size : ChunkSizeFits options.chunk
