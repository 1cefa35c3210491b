-- The line of a message, and the topics in it.
use Rattle.std.specs.Prelude.{◌≡◌, ◌⊎◌, ◌==◌, ℕ, ◌+◌, ◌*◌, ◌≤◌, List, [], ◌∷◌, ◌++◌, length, decimal, if◌then◌else◌}
use Rattle.std.specs.List.{flat_map}
use Rattle.json.specs.Print.{quoted}
use Rattle.mcap_model.specs.declared.replay.Shown.{Shown}
use Rattle.mcap_model.specs.declared.replay.Topic.{Topic}
use Rattle.mcap_model.specs.declared.table.Declared.{Declared}
use Rattle.mcap_model.specs.Places.{At, Each}
use Rattle.time_player.specs.Text.{data_text}

abbrev pub spaced_number : ℕ → List ℕ
spaced_number n = decimal n ++ 32 ∷ []

-- the numbers of a message, each with a space behind it
abbrev pub numbers_of : Shown → List ℕ
numbers_of s =
    spaced_number s.log_time ++ (spaced_number s.publish_time ++ (spaced_number s.channel ++ spaced_number s.sequence))

-- the line of a message whose topic is spelled so
abbrev pub line_of : Shown → List ℕ → List ℕ
line_of s topic = numbers_of s ++ (topic ++ (32 ∷ [] ++ (data_text s.payload ++ 10 ∷ [])))

-- the bytes that it takes at most: four numbers of 20 digits with a space each, the topic and a space, two digits for each
-- byte of data or a dash, and the end of the line
abbrev pub line_room : Shown → List ℕ → ℕ
line_room s topic = length topic + 2 * length s.payload + 87

-- each channel stands once
abbrev pub EachDeclaredOnce : List Declared → Type 0
EachDeclaredOnce table = (j k : ℕ) (d e : Declared) → At table j d → At table k e → d.id ≡ e.id → d ≡ e

-- each channel with a topic has one of its topics as a JSON string
pub record Quotes (topics : List Topic) (table : List Declared) : Type 0 where
  pub are : (k : ℕ) (d : Declared) → At table k d
      → (n : ℕ) × (t : Topic) × At topics n t × (t.channel ≡ d.id) × (d.content ≡ quoted t.topic)
  pub all : (n : ℕ) (t : Topic) → At topics n t → (k : ℕ) × (d : Declared) × At table k d × (d.id ≡ t.channel)
  pub apart : EachDeclaredOnce table

-- what stands in a line for the topic of a channel
abbrev pub Spells : List Declared → ℕ → List ℕ → Type 0
Spells table channel text = ((k : ℕ) × (d : Declared) × At table k d × (d.id ≡ channel) × (d.content ≡ text))
    ⊎ (((k : ℕ) (d : Declared) → At table k d → d.id ≡ channel → ⊥) × (text ≡ quoted []))

-- the same, read off a table in which each channel stands once
abbrev pub spelling : List Declared → ℕ → List ℕ
spelling [] channel = quoted []
spelling (d ∷ ds) channel = if d.id == channel then d.content else spelling ds channel

-- the lines of messages
abbrev pub lines_of : List Declared → List Shown → List ℕ
lines_of table shown = flat_map (λ s. line_of s (spelling table s.channel)) shown

-- there is room for a piece of 64 KiB and the longest of these lines
pub record HasLineRoom (shown : List Shown) (table : List Declared) (room : ℕ) : Type 0 where
  pub apart : EachDeclaredOnce table
  pub fits : Each (λ s. 65536 + line_room s (spelling table s.channel) ≤ room) shown
