-- What holds of scripts and replays.
use Rattle.std.specs.Prelude.{◌≡◌, ◌↔◌, ◌≤◌, ◌<◌, ℕ, Bool, false, Option, List, [], ◌∷◌, ◌++◌, length, slice_index}
use Rattle.mcap_model.specs.Places.{At, Each}
use Rattle.mcap_model.specs.declared.replay.Range.{Range}
use Rattle.mcap_model.specs.declared.replay.Replayed.{Replayed}
use Rattle.mcap_model.specs.Scan.{Seen, Replay}
use Rattle.mcap_model.specs.Showing.{Shows}
use Rattle.play_clock.specs.declared.line.Line.{Line}
use Rattle.time_player.specs.declared.timed_lines.Stretch.{Stretch}
use Rattle.play_clock.specs.Times.{times_of, TimesRise}
use Rattle.play_clock.specs.Script.{IsScript, IsBadLine}
use Rattle.play_clock.specs.Played.{IsValue, HasValue, IsShown, PlaysScript, is_seek}

-- a line has one value
abbrev pub ValuesAreOne : Type 0
ValuesAreOne = (first : ℕ) (before : List Line) (line : Line) (v w : ℕ) → IsValue first before line v
    → IsValue first before line w → v ≡ w

-- and each line has one
abbrev pub LinesHaveValues : Type 0
LinesHaveValues = (first : ℕ) (before : List Line) (line : Line) → (value : ℕ) × IsValue first before line value

-- no line seeks
abbrev pub SeekNone : List Line → Type 0
SeekNone lines = Each (λ (l : Line). is_seek l.kind ≡ false) lines

-- the first line at which a message of that log time is due: no line before it has a value as late
pub record IsDueFirst (first : ℕ) (before : List Line) (line : Line) (time : ℕ) : Type 0 where
  pub value : ℕ
  pub valued : IsValue first before line value
  pub due : time ≤ value
  pub fresh : (k earlier : ℕ) → HasValue first before k earlier → earlier < time

-- where no line seeks, a message is shown just at the first line at which it is due
abbrev pub ShownWhenDue : Type 0
ShownWhenDue = (first : ℕ) (before : List Line) (line : Line) (time : ℕ) → SeekNone (before ++ line ∷ [])
    → IsShown first before line time ↔ IsDueFirst first before line time

-- there a later line shows none again, and none that is logged before one that was shown
abbrev pub ShownOnce : Type 0
ShownOnce = (first : ℕ) (before between : List Line) (line after : Line) (time other : ℕ)
    → SeekNone (before ++ line ∷ (between ++ after ∷ [])) → IsShown first before line time
    → IsShown first (before ++ line ∷ between) after other → time < other

-- and a whole script shows each message at most once, in the order of the replay
abbrev pub ScriptsGoOn : Type 0
ScriptsGoOn = (times : List ℕ) (lines : List Line) (stretches : List Stretch) → TimesRise times → SeekNone lines
    → PlaysScript times lines stretches → (i k m n : ℕ) (s t : Stretch) → i < k → At stretches i s → At stretches k t
    → s.from ≤ m → m < s.to → t.from ≤ n → n < t.to → m < n

-- the log times of a replay rise
abbrev pub ReplaysRise : Type 0
ReplaysRise = (range : Range) (topic : Option (List ℕ)) (messages shown : List Seen) (all : Replayed)
    → Replay range topic messages shown → Shows all shown → TimesRise (times_of all.shown.items)

-- bytes that are a script have no line that is bad
abbrev pub ScriptsHaveNoBadLine : Type 0
ScriptsHaveNoBadLine = (bytes : List ℕ) (lines : List Line) (number : ℕ) → IsScript bytes lines
    → IsBadLine bytes number → ⊥
