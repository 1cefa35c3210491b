-- Lanes beside a turn: as they are before they run, and once all have ended.
use Rattle.std.specs.Prelude.{◌≡◌, ℕ, List, [], length, Bool, true, false, Option, Some, None}
use Rattle.mcap_io.specs.Outside.{SourceState}
use Rattle.mcap_model.specs.Places.{Each}
use Rattle.record_cache.specs.Buffers.{Buffer}
use Rattle.feed_lane.specs.declared.report.FeedReport.{FeedReport}
use Rattle.feed_lane.specs.Pass.{PassState}
use Rattle.feed_lane.specs.Lanes.{InStep}
use Rattle.feed_lane.specs.Feeds.{Reports}
use Rattle.feed_lane.specs.Steps.{ListsMessages}
use Rattle.buffer_swap.specs.Calls.{reasoned}
use Rattle.buffer_swap.specs.Plays.{Unclosed}
use Rattle.buffer_swap.specs.Posts.{Gathered, Post}
use Rattle.buffer_swap.specs.declared.view.View.{View}
use Rattle.recorder.specs.declared.report.Report.{Report}
use Rattle.recorder.specs.Recorded.{FeedRecorded, AreFeeds}
use Rattle.recorder.specs.Writing.{empty_buffer}

-- A lane ran to its end: the pass that its publisher showed, with the reasons of all refusals, is one of which its report is
-- true; where it waits for room, no call was answered that the buffer is full. The report lists messages, or only counts them.
pub record LaneRan (limit : ℕ) (lossless listed : Bool) (before now : SourceState) (pass : PassState)
    (report : Option FeedReport) : Type 0 where
  pub feed : FeedReport
  pub is : report ≡ Some feed
  pub shown : PassState
  pub same : shown ≡ reasoned pass shown.reasons
  pub limited : shown.limit ≡ limit
  pub unfull : lossless ≡ true → shown.fulls ≡ []
  pub reports : Reports before now shown feed
  pub lists : ListsMessages feed listed

-- a control that made so many publishers, knows none, and hasn't closed
pub record IsFreshControl (post : Post) (many : ℕ) : Type 0 where
  pub made : post.made ≡ many
  pub known : post.known ≡ []
  pub unclosed : post.closed ≡ false

-- a control, a drain and a second buffer, as they are before there are lanes
pub record AreReady (control drain : View) (spare : Buffer) : Type 0 where
  pub fresh : IsFreshControl control.post 0
  pub spare_is : spare ≡ empty_buffer drain.pass.limit
  pub none : drain.post.taken ≡ []
  pub unstopped : drain.post.stop ≡ None

-- what a control knows of these feeds: their passes in the same order, none of which found a close
pub record ControlKnows (limit : ℕ) (feeds : List FeedRecorded) (known : List Gathered) : Type 0 where
  pub alike : InStep (λ f g. f.pass ≡ reasoned g.pass f.pass.reasons) feeds known
  pub unclosed : Each (λ g. Unclosed g.pass) known
  pub limits : Each (λ f. f.pass.limit ≡ limit) feeds

-- All lanes ran to their ends, and were gathered: these are the feeds that were recorded, and what the control knows of them.
pub record LanesRan (limit : ℕ) (lossless listed : Bool) (before now : List SourceState) (reports : List FeedReport)
    (post : Post) : Type 0 where
  pub feeds : List FeedRecorded
  pub are : AreFeeds feeds before now reports
  pub known : ControlKnows limit feeds post.known
  pub all : length post.known ≡ post.made
  pub unfull : lossless ≡ true → Each (λ f. f.pass.fulls ≡ []) feeds
  pub lists : Each (λ f. ListsMessages f listed) reports

-- a report, where there is one, lists the messages of each feed, or only counts them
abbrev pub AreMessagesListed : Option Report → Bool → Type 0
AreMessagesListed report listed = (r : Report) → report ≡ Some r → Each (λ f. ListsMessages f listed) r.feeds.items
