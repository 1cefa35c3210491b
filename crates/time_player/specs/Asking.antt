-- The messages of records that are asked for, as a replay keeps them.
use Rattle.std.specs.Prelude.{◌≡◌, ℕ, List, ◌++◌, map, filter, Bool, true, ◌&&◌, nat_eq, Option, Some, None}
use Rattle.std.specs.List.{AllZip}
use Rattle.std.specs.Cmp.Lexicographic.{pointwise}
use Rattle.mcap_model.specs.declared.replay.Range.{Range}
use Rattle.mcap_model.specs.declared.replay.Shown.{Shown}
use Rattle.mcap_model.specs.declared.tables.Tables.{Tables}
use Rattle.mcap_model.specs.Places.{EachBehind}
use Rattle.mcap_model.specs.Tops.{Top, Placed}
use Rattle.mcap_model.specs.Rules.{Agrees}
use Rattle.mcap_model.specs.Scan.{Seen, IsSeen, is_message_top, is_within}
use Rattle.mcap_model.specs.Declarations.{TablesOf}
use Rattle.mcap_model.specs.Showing.{shown_as}

-- whether this is the topic that is asked for, if any
abbrev pub is_topic : Option (List ℕ) → List ℕ → Bool
is_topic None topic = true
is_topic (Some asked) topic = pointwise nat_eq topic asked

abbrev pub is_asked : Range → Option (List ℕ) → Seen → Bool
is_asked range topic s = is_within range s.message.log_time && is_topic topic s.topic

-- these records agree with each other, and these are their tables
pub record Knows (records : List Top) (tables : Tables) : Type 0 where
  pub agree : EachBehind Agrees records
  pub tables_are : TablesOf records tables

-- among these records, of the messages at these places those that are asked for are added
abbrev pub KeepsAmong : Range → Option (List ℕ) → List Top → List Placed → List Shown → List Shown → Type 0
KeepsAmong range topic records ps old new = (messages : List Seen)
    → AllZip (IsSeen records) (filter (λ p. is_message_top p.top) ps) messages
    → new ≡ old ++ map shown_as (filter (is_asked range topic) messages)

-- the same among all records of which these are the tables
abbrev pub KeepsAsked : Range → Option (List ℕ) → Tables → List Placed → List Shown → List Shown → Type 0
KeepsAsked range topic tables ps old new =
    (records : List Top) → Knows records tables → KeepsAmong range topic records ps old new
