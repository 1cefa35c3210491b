-- What a survey comes to.
use Rattle.std.specs.Prelude.{◌≡◌, ℕ, List, Result, Ok, Err, ◌≤◌, AllPairs, Bool, true}
use Rattle.mcap_io.specs.Outside.{SourceState}
use Rattle.mcap_model.specs.Tops.{Top, flat}
use Rattle.mcap_model.specs.Kept.{reading_limits, Good, at_end}
use Rattle.mcap_model.specs.Scan.{Seen, Scan}
use Rattle.mcap_model.specs.Declarations.{TablesOf}
use Rattle.mcap_model.specs.declared.refusals.ReadingRefused.{ReadingRefused}
use Rattle.mcap_scan.specs.RefusedReadings.{HaltsSo, RefusalStands}
use Rattle.merge_walk.specs.declared.surveying.Survey.{Survey}
use Rattle.merge_walk.specs.Spans.{spans_of}
use Rattle.mcap_model.specs.Places.{Has, Each}

-- the source was read to its Data End: these are its records, which are good, and their messages; and it is known of them where
-- they stand, and what is declared
pub record IsSurveyOf (before now : SourceState) (s : Survey) : Type 0 where
  pub tops : List Top
  pub end : ℕ
  pub messages : List Seen
  pub halts : HaltsSo before now tops (at_end end)
  pub good : Good reading_limits tops
  pub scan : Scan tops messages
  pub tables_are : TablesOf (flat tops) s.tables
  pub spans_are : s.spans.items ≡ spans_of tops

-- or the reading was refused behind some records, for that reason
abbrev pub Surveys : SourceState → SourceState → Result Survey ReadingRefused → Type 0
Surveys before now (Ok s) = IsSurveyOf before now s
Surveys before now (Err why) = (tops : List Top) × RefusalStands why before now tops

-- ---- the times of a survey

-- these are the least and the greatest of some times, and whether none is less than one in front of it
pub record TimesSpan (times : List ℕ) (least greatest : ℕ) (in_order : Bool) : Type 0 where
  pub least_there : Has times least
  pub greatest_there : Has times greatest
  pub within : Each (λ t. (least ≤ t) × (t ≤ greatest)) times
  pub rise : in_order ≡ true → AllPairs (λ t u. t ≤ u) times
  pub fall : AllPairs (λ t u. t ≤ u) times → in_order ≡ true
