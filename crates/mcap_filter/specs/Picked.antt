-- Which messages of a history are picked, and what is written of them.
use Rattle.std.specs.Prelude.{ℕ, List, Bool, true, false, ◌&&◌, filter, find, nat_eq, Option, Some, None}
use Rattle.std.specs.Cmp.Lexicographic.{pointwise}
use Rattle.rec_data.specs.declared.owned.Rec.{Rec}
use Rattle.rec_data.specs.declared.owned.Rec.TheVariants.{Schema, Channel, Message, Extra}
use Rattle.mcap_model.specs.declared.replay.Range.{Range}
use Rattle.mcap_model.specs.Scan.{is_within}
use Rattle.mcap_model.specs.Needed.{is_channel_of, with_needs}

-- which messages are asked for: those of a range of log times, on a topic if one is given
pub record Asking : Type 0 where
  pub range : Range
  pub topic : Option (List ℕ)

abbrev pub asking : Range → Option (List ℕ) → Asking
asking range topic = record { range = range; topic = topic }

-- whether this is the topic that is asked for, if any
abbrev pub is_topic : Option (List ℕ) → List ℕ → Bool
is_topic None topic = true
is_topic (Some asked) topic = pointwise nat_eq topic asked

-- whether there is a Channel, and it is on that topic
abbrev pub is_on : Option (List ℕ) → Option Rec → Bool
is_on asked None = false
is_on asked (Some (Schema id schema)) = false
is_on asked (Some (Channel id schema topic encoding metadata)) = is_topic asked topic
is_on asked (Some (Message channel sequence log_time publish_time payload)) = false
is_on asked (Some (Extra op content)) = false

-- whether a record is a Message that is asked for; its topic is that of the Channel that declares its channel first
abbrev pub is_picked : Asking → List Rec → Rec → Bool
is_picked a history (Schema id schema) = false
is_picked a history (Channel id schema topic encoding metadata) = false
is_picked a history (Message channel sequence log_time publish_time payload) =
    is_within a.range log_time && is_on a.topic (find (is_channel_of channel) history)
is_picked a history (Extra op content) = false

-- all of these, in the order of the history
abbrev pub picked : Asking → List Rec → List Rec
picked a history = filter (is_picked a history) history

-- what is written: these with what they need
abbrev pub filtered : Asking → List Rec → List Rec
filtered a history = with_needs history (picked a history)
