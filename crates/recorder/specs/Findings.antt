-- What the report of a recording tells besides faults and ends: that a limit would be passed, and that memory lacked.
use Rattle.std.specs.Prelude.{◌||◌, Bool, true, false, Option, Some, None}
use Rattle.std.specs.List.{list_any}
use Rattle.mcap_model.specs.declared.ends.End.{End}
use Rattle.mcap_model.specs.declared.ends.End.TheVariants as ends
use Rattle.mcap_model.specs.declared.ends.Stop.TheVariants as stops
use Rattle.mcap_model.specs.RefusalKinds.{is_memory_refusal}
use Rattle.feed_lane.specs.Causes.{is_over, is_memory_stop, is_memory}
use Rattle.feed_lane.specs.declared.report.FeedEnd.{FeedEnd}
use Rattle.feed_lane.specs.declared.report.FeedEnd.TheVariants as feed_ends
use Rattle.recorder.specs.declared.report.Report.{Report}

abbrev pub is_limit : End → Bool
is_limit ends.Closed = false
is_limit (ends.Stopped (stops.Fault faults)) = false
is_limit (ends.Stopped (stops.Limit blocks bytes)) = true
is_limit (ends.Stopped stops.Memory) = false

-- the file or a message would pass a limit
abbrev pub passes_limit : Report → Bool
passes_limit r = is_limit r.writer.end || list_any (λ f. list_any (λ x. is_over x.cause) f.refused.items) r.feeds.items

-- memory lacked for a feed, for the file, or for a message
abbrev pub is_memory_end : FeedEnd → Bool
is_memory_end feed_ends.Done = false
is_memory_end (feed_ends.Refused why) = is_memory_refusal why
is_memory_end feed_ends.Ended = false

abbrev pub is_memory_writer : End → Bool
is_memory_writer ends.Closed = false
is_memory_writer (ends.Stopped stop) = is_memory_stop stop

abbrev pub lacks_memory : Report → Bool
lacks_memory r = is_memory_writer r.writer.end
    || list_any (λ f. is_memory_end f.end || list_any (λ x. is_memory x.cause) f.refused.items) r.feeds.items

-- the same where there may be no report
abbrev pub limit_passed : Option Report → Bool
limit_passed None = false
limit_passed (Some r) = passes_limit r
