-- The steps of a recording: which options and feeds it takes, and how a feed ends.
use Rattle.std.specs.Prelude.{◌≡◌, ◌≤◌, ℕ, List, [], ◌∷◌, length, Bool, Option, Some, None}
use Rattle.mcap_wire.specs.RecordingLimits.{buffer_limit, profile_limit}
use Rattle.mcap_model.specs.Places.{Each}
use Rattle.feed_lane.specs.declared.report.FeedReport.{FeedReport}
use Rattle.feed_lane.specs.Steps.{ListsMessages}
use Rattle.chunk_writer.specs.Limits.{ChunkSizeFits}
use Rattle.mcap_model.specs.declared.options.RecordOptions.{RecordOptions}
use Rattle.recorder.specs.declared.report.Report.{Report}
use Rattle.live_watcher.specs.declared.report.WatchReport.{WatchReport}
use Rattle.command_base.specs.Texts.{Trouble}
use Rattle.command_words.specs.Commands.{feed_limit}
use Rattle.command_record.specs.declared.recording.RecordingReport.{RecordingReport}
use Rattle.command_record.specs.Record.{end_troubles}

-- the options of a recording are in their ranges: a buffer of 1 byte to 1 GiB, chunks of 1 byte to 64 MiB, and a profile of at
-- most 65,535 bytes
pub record AreAllowed (options : RecordOptions) : Type 0 where
  pub some : 1 ≤ options.limit
  pub small : options.limit ≤ buffer_limit
  pub size : ChunkSizeFits options.file.chunk
  pub short : length options.file.profile ≤ profile_limit

-- so many feeds are recorded at once
abbrev pub AreFew : List (List ℕ) → Type 0
AreFew feeds = (1 ≤ length feeds) × (length feeds ≤ feed_limit)

-- the end of the feed of the first report
abbrev pub first_end : List ℕ → List FeedReport → List Trouble
first_end feed [] = []
first_end feed (f ∷ fs) = end_troubles feed f.end

-- a report, where there is one, lists the messages of each feed, or only counts them
abbrev pub AreListed : Option RecordingReport → Bool → Type 0
AreListed report listed =
    (r : RecordingReport) → report ≡ Some r → Each (λ f. ListsMessages f listed) r.recorded.feeds.items

-- the report of a recording has what the recorder reported, whether watchers were told of the end, and what they came to
abbrev pub IsReportOf : Option Report → Bool → List WatchReport → Option RecordingReport → Type 0
IsReportOf None sealed watchers report = report ≡ None
IsReportOf (Some r) sealed watchers report = (it : RecordingReport) × (report ≡ Some it) × (it.recorded ≡ r)
    × (it.sealed ≡ sealed) × (it.watchers.items ≡ watchers)
