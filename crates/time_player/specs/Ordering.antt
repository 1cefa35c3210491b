-- Messages in their order, each once.
use Rattle.std.specs.Prelude.{◌≡◌, List, [], true, AllPairs}
use Rattle.mcap_model.specs.declared.replay.Shown.{Shown}
use Rattle.mcap_model.specs.Places.{Has}
use Rattle.mcap_model.specs.Scan.{Seen, ComesBefore}
use Rattle.time_player.specs.Heads.{same_place}

-- a message that is shown, without a topic
abbrev pub led_as : Shown → Seen
led_as s = record {
  place = s.place;
  channel = s.channel;
  topic = [];
  message = record {
    sequence = s.sequence;
    log_time = s.log_time;
    publish_time = s.publish_time;
    payload = s.payload;
  };
}

-- these messages in the order of time and place, one for each time and place
pub record IsOrdered (old new : List Shown) : Type 0 where
  pub rises : AllPairs (λ s r. ComesBefore (led_as s) (led_as r)) new
  pub are : (s : Shown) → Has new s → Has old s
  pub all : (s : Shown) → Has old s → (r : Shown) × Has new r × (same_place s r ≡ true)
