-- Messages whose payloads are lent.
use Rattle.mcap_model.specs.declared.replay.Shown.{Shown}
use Rattle.time_player.specs.declared.lent.Lent.{Lent}

-- the message that is lent
abbrev pub shown_of : Lent → Shown
shown_of l = record
    { place = l.place; log_time = l.log_time; publish_time = l.publish_time; channel = l.channel; sequence = l.sequence; payload = l.payload.now }
