-- What a feed that is generated is, to its reader.
use Rattle.std.specs.Prelude.{ℕ, ◌^◌, ◌<◌}
use Rattle.mcap_model.specs.Tops.{offset_behind}
use Rattle.mcap_model.specs.Kept.{Halts, reading_limits, at_end}
use Rattle.command_generate.specs.Feeds.{feed_tops, feed_bytes}

-- A feed of fewer than 2^32 messages is read to its Data End, as just its records.
abbrev pub FeedsAreRead : Type 0
FeedsAreRead = (seed feed n : ℕ) → feed < 2 ^ 64 → n < 2 ^ 32
    → Halts reading_limits (feed_bytes seed feed n) (feed_tops seed feed n) (at_end
    (offset_behind (feed_tops seed feed n)))
