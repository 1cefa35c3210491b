-- What the openings and the keepings of the feeds of a recording do to a world.
use Rattle.std.specs.Prelude.{ℕ, List, Bool}
use Rattle.mcap_io.specs.Outside.{WorldState, SourceState}
use Rattle.mcap_io.specs.declared.outside.ObjectKind.TheVariants as kinds
use Rattle.mcap_io.specs.declared.outside.OutsideRefused.{OutsideRefused}
use Rattle.command_base.specs.InputsSteps.{source_keeping, SourceSeen, InputsOpened, InputOpeningRefused, InputsKept}

-- All were given, in their order, and this is seen of their sources.
abbrev pub FeedsOpened : WorldState → WorldState → List (List ℕ) → List SourceState → Type 0
FeedsOpened old new feeds sources = InputsOpened kinds.Source SourceSeen old new feeds sources

-- The first of them were given, and then one was refused.
abbrev pub FeedRefused : WorldState → WorldState → List (List ℕ) → List SourceState → OutsideRefused → Type 0
FeedRefused old new feeds sources why = InputOpeningRefused kinds.Source SourceSeen old new feeds sources why

-- The sources were taken back, each under its feed's name: where the openings of these feeds were the last of sources, their
-- entries say how. These failed.
abbrev pub FeedsKept : WorldState → WorldState → List (List ℕ) → List SourceState → List Bool → Type 0
FeedsKept old new feeds sources failed = InputsKept kinds.Source source_keeping old new feeds sources failed
