-- The messages of a feed that is generated, by a linear congruential generator of 64 bits.
use Rattle.std.specs.Prelude.{ℕ, zero, suc, ◌+◌, ◌*◌, ◌^◌, ◌/◌, ◌%◌, List, [], ◌∷◌, replicate}
use Rattle.rec_data.specs.Fields.{MessageFields}

-- the state of the feed of that number before its first message
abbrev pub first_state : ℕ → ℕ → ℕ
first_state seed feed = (seed + feed) % 2 ^ 64

-- the state of the next message
abbrev pub next_state : ℕ → ℕ
next_state x = (x * 6364136223846793005 + 1442695040888963407) % 2 ^ 64

-- the number of a state: its upper bits
abbrev pub upper_bits : ℕ → ℕ
upper_bits x = x / 2 ^ 33

-- The message of that index and number: the index is its sequence, a message comes each microsecond and up to 999 ns later, and its
-- data are up to 63 equal bytes.
abbrev pub generated_message : ℕ → ℕ → MessageFields
generated_message index number = record {
  sequence = index;
  log_time = 1000 * index + number % 1000;
  publish_time = 1000 * index + number % 1000;
  payload = replicate (number % 64) (number % 256);
}

-- so many messages from that index on, behind that state
abbrev pub messages_from : ℕ → ℕ → ℕ → List MessageFields
messages_from zero index x = []
messages_from (suc n) index x =
    generated_message index (upper_bits (next_state x)) ∷ messages_from n (index + 1) (next_state x)

-- the messages of a feed
abbrev pub generated : ℕ → ℕ → ℕ → List MessageFields
generated seed feed n = messages_from n 0 (first_state seed feed)
