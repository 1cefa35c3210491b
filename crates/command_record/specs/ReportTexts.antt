-- What is printed of a recording: a line for each feed, and one for the file.
use Rattle.std.specs.Prelude.{ℕ, ◌+◌, List, [], ◌∷◌, ◌++◌, length, codes, decimal}
use Rattle.recorder.specs.declared.report.Report.{Report}
use Rattle.recorder.specs.declared.report.WriterReport.{WriterReport}
use Rattle.feed_lane.specs.declared.report.FeedReport.{FeedReport}
use Rattle.feed_lane.specs.declared.report.FeedEnd.{FeedEnd}
use Rattle.feed_lane.specs.declared.report.FeedEnd.TheVariants as feed_ends
use Rattle.mcap_model.specs.declared.refusals.ReadingRefused.{ReadingRefused}
use Rattle.mcap_model.specs.declared.refusals.ReadingRefused.TheVariants as refusals
use Rattle.mcap_model.specs.declared.ends.End.{End}
use Rattle.mcap_model.specs.declared.ends.End.TheVariants as ends
use Rattle.mcap_model.specs.declared.ends.Stop.TheVariants as stops

abbrev pub refusal_text : ReadingRefused → List ℕ
refusal_text (refusals.Fault faults) = codes "fault"
refusal_text (refusals.Grammar n rule) = codes "grammar " ++ decimal n
refusal_text (refusals.Compressed n name) = codes "compressed " ++ decimal n
refusal_text (refusals.Limit n) = codes "limit " ++ decimal n
refusal_text refusals.Memory = codes "memory"

abbrev pub feed_end_text : FeedEnd → List ℕ
feed_end_text feed_ends.Done = codes "end"
feed_end_text (feed_ends.Refused why) = refusal_text why
feed_end_text feed_ends.Ended = codes "ended"

abbrev pub end_text : End → List ℕ
end_text ends.Closed = codes "closed"
end_text (ends.Stopped (stops.Fault faults)) = codes "stopped fault"
end_text (ends.Stopped (stops.Limit blocks bytes)) = codes "stopped limit"
end_text (ends.Stopped stops.Memory) = codes "stopped memory"

-- feed J accepted=A refused=R passed=P E
unfoldable pub feed_line : ℕ → FeedReport → List ℕ
feed_line j f = codes "feed " ++ (decimal j ++ (codes " accepted=" ++ (decimal (length f.accepted.items)
    ++ (codes " refused=" ++ (decimal (length f.refused.items) ++ (codes " passed=" ++ (decimal f.passed
    ++ (codes " " ++ (feed_end_text f.end ++ codes "\n")))))))))

-- the lines of the feeds, numbered from j
abbrev pub feed_lines : ℕ → List FeedReport → List ℕ
feed_lines j [] = []
feed_lines j (f ∷ fs) = feed_line j f ++ feed_lines (j + 1) fs

-- file records=H blocks=B bytes=L E
unfoldable pub file_line : WriterReport → List ℕ
file_line w = codes "file records=" ++ (decimal w.records ++ (codes " blocks=" ++ (decimal w.blocks
    ++ (codes " bytes=" ++ (decimal w.bytes ++ (codes " " ++ (end_text w.end ++ codes "\n")))))))

abbrev pub printed : Report → List ℕ
printed r = feed_lines 1 r.feeds.items ++ file_line r.writer
