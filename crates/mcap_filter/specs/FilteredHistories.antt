-- What holds of what is written of a history that repairing makes of good records: a file can be written of it, its messages are
-- those of a scan that are asked for, and to filter it again is to filter once.
use Rattle.std.specs.Prelude.{◌≡◌, ◌⊎◌, ℕ, List, Bool, ◌&&◌, max, min, filter, Option, Some, None}
use Rattle.std.specs.List.{AllZip}
use Rattle.rec_data.specs.declared.owned.Rec.{Rec}
use Rattle.mcap_model.specs.declared.replay.Range.{Range}
use Rattle.mcap_model.specs.Places.{Has, Each}
use Rattle.mcap_model.specs.Tops.{Top}
use Rattle.mcap_model.specs.Fields.{ChannelFields}
use Rattle.mcap_model.specs.Kept.{Good, reading_limits}
use Rattle.mcap_model.specs.Scan.{Seen, Scan, is_within}
use Rattle.mcap_model.specs.History.{channel_of, is_message, without_repeats}
use Rattle.mcap_model.specs.Histories.{IdsAgree}
use Rattle.mcap_model.specs.ReadBack.{IsReadBack}
use Rattle.mcap_model.specs.Repaired.{Repairs}
use Rattle.mcap_model.specs.Laws.{HoldsSeen, IsNumberedRec, IsInner}
use Rattle.mcap_filter.specs.Picked.{Asking, asking, is_topic, picked, filtered}

-- A file can be written of the records of a history as they are: each is read back as itself, none is an extra, and their ids
-- agree, of which none is declared twice.
pub record StandsAsItIs (history : List Rec) : Type 0 where
  pub back : Each IsReadBack history
  pub numbered : Each IsNumberedRec history
  pub inner : Each IsInner history
  pub ids_agree : IdsAgree history
  pub once : without_repeats history ≡ history

-- whatever is asked for, what is written is such a history
abbrev pub FilteredHistoriesStand : Type 0
FilteredHistoriesStand = (a : Asking) (tops extras : List Top) (profile : List ℕ) (history : List Rec)
    → Good reading_limits tops → Repairs tops profile extras history → StandsAsItIs (filtered a history)

-- whether a message of a scan is asked for
abbrev pub is_seen_asked : Asking → Seen → Bool
is_seen_asked a s = is_within a.range s.message.log_time && is_topic a.topic s.topic

-- The messages that are picked are those of the scan that are asked for, in its order, and their Channels that are written have
-- the topics of the scan.
pub record PicksOfScan (a : Asking) (history : List Rec) (messages : List Seen) : Type 0 where
  pub are : AllZip HoldsSeen (picked a history) (filter (is_seen_asked a) messages)
  pub topics : (s : Seen) (f : ChannelFields) → Has messages s → Has (filtered a history) (channel_of s.channel f)
      → f.topic ≡ s.topic

-- so it is where the messages of the scan are those of the history
abbrev pub PickedAreAsked : Type 0
PickedAreAsked = (a : Asking) (tops extras : List Top) (profile : List ℕ) (history : List Rec) (messages : List Seen)
    → Good reading_limits tops → Repairs tops profile extras history → Scan tops messages
    → AllZip HoldsSeen (filter is_message history) messages → PicksOfScan a history messages

-- ---- filtering twice

-- what both of two ask for is asked for
pub record AsksForBoth (one other both : Asking) : Type 0 where
  pub times : (time : ℕ) → is_within both.range time ≡ (is_within one.range time && is_within other.range time)
  pub topics : (topic : List ℕ) → is_topic both.topic topic ≡ (is_topic one.topic topic && is_topic other.topic topic)

-- to filter what was filtered is to filter once, for what both ask for
abbrev pub FilteredTwiceIsOnce : Type 0
FilteredTwiceIsOnce = (one other both : Asking) (tops extras : List Top) (profile : List ℕ) (history : List Rec)
    → AsksForBoth one other both → Good reading_limits tops → Repairs tops profile extras history
    → filtered other (filtered one history) ≡ filtered both history

-- the sooner of two ends
abbrev pub sooner : Option ℕ → Option ℕ → Option ℕ
sooner None end = end
sooner (Some end) None = Some end
sooner (Some end) (Some other) = Some (min end other)

-- the times of both ranges
abbrev pub meeting : Range → Range → Range
meeting one other = record { start = max one.start other.start; end = sooner one.end other.end }

-- both ask for one topic or for all, or one asks for all and the other for this
abbrev pub TopicsMeet : Option (List ℕ) → Option (List ℕ) → Option (List ℕ) → Type 0
TopicsMeet one other both = ((one ≡ both) × (other ≡ both))
    ⊎ (((one ≡ None) × (other ≡ both)) ⊎ ((one ≡ both) × (other ≡ None)))

-- of two ranges with such topics there is what both ask for
abbrev pub AskingsMeet : Type 0
AskingsMeet = (range other_range : Range) (topic other_topic both : Option (List ℕ)) → TopicsMeet topic other_topic both
    → AsksForBoth (asking range topic) (asking other_range other_topic) (asking (meeting range other_range) both)
