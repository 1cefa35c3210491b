-- Messages as they are shown: with their places and the topics of their channels.
use Rattle.std.specs.Prelude.{◌≡◌, ◌<◌, List, map, AllPairs}
use Rattle.mcap_model.specs.declared.replay.Shown.{Shown}
use Rattle.mcap_model.specs.declared.replay.Topic.{Topic}
use Rattle.mcap_model.specs.declared.replay.Replayed.{Replayed}
use Rattle.mcap_model.specs.Places.{Has}
use Rattle.mcap_model.specs.Scan.{Seen}

-- a message, as it is shown
abbrev pub shown_as : Seen → Shown
shown_as s = record
    { place = s.place; log_time = s.message.log_time; publish_time = s.message.publish_time; channel = s.channel; sequence = s.message.sequence; payload = s.message.payload }

-- the entry of its channel
abbrev pub topic_as : Seen → Topic
topic_as s = record { channel = s.channel; topic = s.topic }

-- one entry for each channel of the messages, in ascending order of ids, with the topic of its messages
pub record TopicsOf (messages : List Seen) (topics : List Topic) : Type 0 where
  pub rises : AllPairs (λ t u. t.channel < u.channel) topics
  pub are : (t : Topic) → Has topics t → (s : Seen) × Has messages s × (topic_as s ≡ t)
  pub all : (s : Seen) → Has messages s → Has topics (topic_as s)

-- just these messages are shown, in this order
pub record Shows (all : Replayed) (messages : List Seen) : Type 0 where
  pub shown : all.shown.items ≡ map shown_as messages
  pub topics : TopicsOf messages all.topics.items
