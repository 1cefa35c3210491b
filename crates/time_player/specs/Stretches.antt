-- The lines of messages with their log times, and the text of stretches of them.
use Rattle.std.specs.Prelude.{◌≤◌, ℕ, ◌-◌, List, ◌++◌, length, map, take, drop, codes, decimal}
use Rattle.std.specs.List.{flat_map}
use Rattle.mcap_model.specs.declared.replay.Shown.{Shown}
use Rattle.mcap_model.specs.declared.table.Declared.{Declared}
use Rattle.mcap_model.specs.Scan.{Seen}
use Rattle.time_player.specs.declared.timed_lines.Stretch.{Stretch}
use Rattle.time_player.specs.Text.{cat_line}
use Rattle.time_player.specs.Lines.{line_of, spelling, HasLineRoom}

-- the line of a message, and its log time
pub record TimedLine : Type 0 where
  pub time : ℕ
  pub text : List ℕ

abbrev pub timed_line : Seen → TimedLine
timed_line s = record { time = s.message.log_time; text = cat_line s }

abbrev pub timed_lines : List Seen → List TimedLine
timed_lines messages = map timed_line messages

-- moment M COUNT
unfoldable pub moment_line : ℕ → ℕ → List ℕ
moment_line moment count = codes "moment " ++ (decimal moment ++ (codes " " ++ (decimal count ++ codes "\n")))

abbrev pub texts_of : List TimedLine → List ℕ
texts_of lines = flat_map (λ (l : TimedLine). l.text) lines

-- the lines of a stretch, with its moment and how many they are in front
abbrev pub stretch_text : List TimedLine → Stretch → List ℕ
stretch_text lines s =
    moment_line s.moment (s.to - s.from) ++ texts_of (take (s.to - s.from) (drop s.from lines))

abbrev pub stretches_text : List TimedLine → List Stretch → List ℕ
stretches_text lines stretches = flat_map (stretch_text lines) stretches

-- the messages of a stretch are among so many
pub record LiesWithin (many : ℕ) (s : Stretch) : Type 0 where
  pub order : s.from ≤ s.to
  pub within : s.to ≤ many

-- ---- messages that are held

abbrev pub held_line : List Declared → Shown → TimedLine
held_line table s = record { time = s.log_time; text = line_of s (spelling table s.channel) }

abbrev pub held_lines : List Declared → List Shown → List TimedLine
held_lines table shown = map (held_line table) shown

-- there is room for a piece of 64 KiB and the longest of these lines, or that of a moment
pub record HasStretchRoom (shown : List Shown) (table : List Declared) (room : ℕ) : Type 0 where
  pub lines : HasLineRoom shown table room
  pub moment : 65585 ≤ room
