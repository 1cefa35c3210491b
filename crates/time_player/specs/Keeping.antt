-- What messages that are kept show.
use Rattle.std.specs.Prelude.{◌≡◌, ℕ, ◌+◌, ◌≤◌, ◌++◌, ◌∷◌, [], List, length, map, take, drop, Option, Some, Result, Ok, Err}
use Rattle.mcap_io.specs.declared.outside.OutsideRefused.{OutsideRefused}
use Rattle.mcap_model.specs.declared.replay.Shown.{Shown}
use Rattle.rec_data.specs.declared.message.Message.{Message}
use Rattle.mcap_model.specs.declared.replay.Place.{Place}
use Rattle.time_player.specs.declared.kept.Kept.{Kept}
use Rattle.time_player.specs.Heads.{shown_in}

-- the messages that are kept
abbrev pub kept_in : Kept → List Shown
kept_in k = map (shown_in k.payloads.items) k.heads.items

-- how many bytes of data are held for those that are kept
abbrev pub data_held : Kept → ℕ
data_held k = length k.payloads.items

-- the message of a record that stands there, with a payload that stands elsewhere
abbrev pub shown_with : Place → Message → List ℕ → Shown
shown_with place m payload = record
    { place = place; log_time = m.log_time; publish_time = m.publish_time; channel = m.channel_id; sequence = m.sequence; payload = payload }

-- the same with its own
abbrev pub shown_at : Place → Message → Shown
shown_at place m = shown_with place m m.payload.now

-- one message more is kept, shown with a payload of so many bytes; where the store tells, they are those from there on
pub record IsKeptWith (told : Option (List ℕ)) (at len : ℕ) (show : List ℕ → Shown) (before now : List Shown)
    : Type 0 where
  pub payload : List ℕ
  pub is_kept : now ≡ before ++ show payload ∷ []
  pub size : length payload ≡ len
  pub told_is : (file : List ℕ) → told ≡ Some file → payload ≡ take len (drop at file)

abbrev pub KeepsPart : Option (List ℕ) → ℕ → ℕ → (List ℕ → Shown) → List Shown → List Shown → Result Unit OutsideRefused
    → Type 0
KeepsPart told at len show before now (Ok it) = IsKeptWith told at len show before now
KeepsPart told at len show before now (Err why) = Unit {0}

-- so many bytes more are held; where they are refused, at most so many
abbrev pub HoldsMoreBytes : ℕ → ℕ → ℕ → Result Unit OutsideRefused → Type 0
HoldsMoreBytes len before now (Ok it) = now ≡ before + len
HoldsMoreBytes len before now (Err why) = now ≤ before + len
