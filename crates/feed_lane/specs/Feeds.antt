-- What the report on a feed says.
use Rattle.std.specs.Prelude.{◌≡◌, ◌⊎◌, ℕ, ◌+◌, ◌<◌, ◌≤◌, List, [], ◌∷◌, ◌++◌, length, false, Some}
use Rattle.mcap_io.specs.Outside.{SourceState}
use Rattle.mcap_model.specs.declared.ends.End.{End}
use Rattle.mcap_model.specs.Places.{Has, Each}
use Rattle.mcap_model.specs.Tops.{Top, flat}
use Rattle.mcap_model.specs.declared.refusals.ReadingRefused.TheVariants as refusals
use Rattle.mcap_model.specs.Kept.{reading_limits, Good, at_end}
use Rattle.mcap_model.specs.Written.{passed}
use Rattle.mcap_scan.specs.Sources.{ReadFromFront}
use Rattle.mcap_scan.specs.RefusedReadings.{HaltsSo, RefusalStands}
use Rattle.record_core.specs.declared.answers.Found.{Found}
use Rattle.feed_lane.specs.declared.report.Refused.{Refused}
use Rattle.feed_lane.specs.declared.report.FeedReport.{FeedReport}
use Rattle.feed_lane.specs.declared.report.FeedEnd.{FeedEnd}
use Rattle.feed_lane.specs.declared.report.FeedEnd.TheVariants as feed_ends
use Rattle.feed_lane.specs.Pass.{PassState, FoundAtLeast}
use Rattle.feed_lane.specs.Lanes.{ReportLists, messages, IsTried, LaneFits}
use Rattle.feed_lane.specs.Causes.{goes_on}

-- ---- ends

-- these records were read, and the source has what follows them
pub record ReadSoFar (before now : SourceState) (tops : List Top) : Type 0 where
  pub still : now.faults ≡ before.faults
  pub good : Good reading_limits tops
  pub read : ReadFromFront before now tops

-- The source as it was before and is now, and the records that were read: where the reading halted, that the source failed or
-- memory lacked, or that the records so far were read.
abbrev pub FeedEnds : SourceState → SourceState → List Top → FeedEnd → Type 0
FeedEnds before now tops feed_ends.Done = (offset : ℕ) × HaltsSo before now tops (at_end offset)
FeedEnds before now tops (feed_ends.Refused why) = RefusalStands why before now tops
FeedEnds before now tops feed_ends.Ended = ReadSoFar before now tops

-- All messages of the records were handled, and so many were passed over.
abbrev pub AllHandled : List Top → ℕ → ℕ → Type 0
AllHandled tops handled count = (handled ≡ length (messages (flat tops))) × (count ≡ passed tops)

-- The message of that index is one of the last of the records, and so many records were passed over: those before the last,
-- and some of its own.
pub record IsInLast (tops : List Top) (index count : ℕ) : Type 0 where
  pub earlier : List Top
  pub last : Top
  pub are : tops ≡ earlier ++ last ∷ []
  pub behind : length (messages (flat earlier)) ≤ index
  pub within : index < length (messages (flat tops))
  pub passed_before : passed earlier ≤ count
  pub passed_within : count ≤ passed tops

-- the intake had ended and refused the last message that was handled, which is one of the last record
abbrev EndsInLast : List Top → ℕ → ℕ → List Refused → Type 0
EndsInLast tops handled count refused =
    (r : Refused) × Has refused r × (r.index + 1 ≡ handled) × (goes_on r.cause ≡ false) × IsInLast tops r.index count

-- All were taken, unless memory lacked for the next message, which is one of the last record, or the intake had ended.
abbrev pub TakesMessages : List Top → ℕ → ℕ → List Refused → FeedEnd → Type 0
TakesMessages tops handled count refused feed_ends.Done = AllHandled tops handled count
TakesMessages tops handled count refused (feed_ends.Refused why) =
    AllHandled tops handled count ⊎ ((why ≡ refusals.Memory) × IsInLast tops handled count)
TakesMessages tops handled count refused feed_ends.Ended = EndsInLast tops handled count refused

-- the lists of a report
abbrev pub reported : FeedReport → ReportLists
reported report =
    record { accepted = report.accepted.items; declared = report.declared.items; refused = report.refused.items }

-- A report on a feed, of the source as it was before and is now and of the pass as it is now: records that were read, how
-- many of their messages were handled, how it ended, and that the lists fit. The feed ends with the intake where a message was
-- refused for an end of the intake, and where the pass found one.
pub record Reports (before now : SourceState) (pass : PassState) (report : FeedReport) : Type 0 where
  pub tops : List Top
  pub handled : ℕ
  pub ends : FeedEnds before now tops report.end
  pub takes : TakesMessages tops handled report.passed report.refused.items report.end
  pub fits : LaneFits (flat tops) handled (reported report) pass
  pub refused_ends : Each (λ r. goes_on r.cause ≡ false → report.end ≡ feed_ends.Ended) report.refused.items
  pub found_ends : (found : Found) (end : End) → pass.found ≡ Some found → found.end ≡ Some end
      → report.end ≡ feed_ends.Ended
  -- no declaration stands behind the records that the pass found
  pub firsts : Each (λ d. FoundAtLeast pass d.first) report.declared.items
  -- the channel of a message that is too large is declared all the same, and that of one for which memory lacked isn't
  pub tried : Each (IsTried (flat tops) report.declared.items) report.refused.items
