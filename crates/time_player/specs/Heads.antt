-- Messages whose payloads stand one behind the other elsewhere.
use Rattle.std.specs.Prelude.{◌≡◌, ℕ, ◌+◌, ◌<◌, ◌≤◌, List, [], length, slice_index_or, Bool, ◌&&◌, ◌==◌}
use Rattle.mcap_wire.specs.Layout.{part}
use Rattle.mcap_model.specs.declared.replay.Shown.{Shown}
use Rattle.mcap_model.specs.declared.table.Declared.{Declared}
use Rattle.mcap_model.specs.Places.{At, Has, Each}
use Rattle.mcap_model.specs.Plain.{NotBehind}
use Rattle.time_player.specs.declared.kept.Head.{Head}

-- the message of a head, with its part of these payloads
abbrev pub shown_in : List ℕ → Head → Shown
shown_in payloads h = record
    { place = h.place; log_time = h.log_time; publish_time = h.publish_time; channel = h.channel; sequence = h.sequence; payload = part h.from h.to payloads }

-- the payload of each is a part of so many bytes
abbrev pub AreWithin : List Head → ℕ → Type 0
AreWithin heads len = Each (λ h. (h.from ≤ h.to) × (h.to ≤ len)) heads

-- a message doesn't come behind another, whatever their payloads are
abbrev pub HeadNotBehind : Head → Head → Type 0
HeadNotBehind h i = NotBehind (shown_in [] h) (shown_in [] i)

-- none comes behind the next
abbrev pub HeadsInOrder : List Head → Type 0
HeadsInOrder heads = (k : ℕ) (d : Head) → k + 1 < length heads
    → HeadNotBehind (slice_index_or heads k d) (slice_index_or heads (k + 1) d)

-- whether two messages have one time and one place
abbrev pub same_place : Shown → Shown → Bool
same_place s r = (s.log_time == r.log_time) && ((s.place.top == r.place.top) && (s.place.inner == r.place.inner))

-- these are on the channels of those, and on no others
pub record AreOfChannels (few all : List Shown) : Type 0 where
  pub are : (s : Shown) → Has few s → (r : Shown) × Has all r × (r.channel ≡ s.channel)
  pub each : (r : Shown) → Has all r → (s : Shown) × Has few s × (s.channel ≡ r.channel)

-- of the messages so far these few are one of each channel, and the ids that are known are theirs
pub record Represents (before : List Shown) (known : List Declared) (few : List Shown) : Type 0 where
  pub are : AreOfChannels few before
  pub named : (k : ℕ) (d : Declared) → At known k d → (s : Shown) × Has few s × (s.channel ≡ d.id)
