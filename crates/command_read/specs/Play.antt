-- What the playing of a file by a script did: to the names of the world, to both outputs, and how it ended.
use Rattle.std.specs.Prelude.{◌≡◌, ◌⊎◌, ◌<◌, ◌≤◌, ◌+◌, ◌-◌, ℕ, List, [], ◌++◌, length, map, take, drop, true, false, Some, Result, Ok, Err}
use Rattle.std.specs.List.{flat_map}
use Rattle.mcap_io.specs.Outside.{RisesOnce, SourceState, SinkState, Opening, Told}
use Rattle.mcap_model.specs.Tops.{Top}
use Rattle.mcap_model.specs.Kept.{Halt, reading_limits, at_end, grammar as breaks, compressed as names, beyond, Halts}
use Rattle.mcap_model.specs.Scan.{Seen, Scan, Replay}
use Rattle.mcap_model.specs.declared.refusals.ReadingRefused.{ReadingRefused}
use Rattle.mcap_scan.specs.RefusedReadings.{HaltsSo}
use Rattle.time_player.specs.declared.timed_lines.Stretch.{Stretch}
use Rattle.time_player.specs.Text.{cat_text}
use Rattle.time_player.specs.Stretches.{moment_line}
use Rattle.play_clock.specs.declared.line.Line.{Line}
use Rattle.play_clock.specs.Limits.{script_limit}
use Rattle.play_clock.specs.Script.{IsScript, IsBadLine, newlines}
use Rattle.play_clock.specs.Played.{PlaysScript}
use Rattle.command_base.specs.declared.file_reading.Reading.{Reading}
use Rattle.command_base.specs.declared.file_reading.Reading.TheVariants as readings
use Rattle.command_base.specs.declared.statuses.Status.{Status}
use Rattle.command_base.specs.declared.statuses.Status.TheVariants as statuses
use Rattle.command_base.specs.Printing.{TellsAll}
use Rattle.command_base.specs.Texts.{limit, output_limit, bad_line}
use Rattle.command_base.specs.Ran.{Scene, counts_in, AnyRose}
use Rattle.command_base.specs.OneFile.{Ending, halted, failing, lacked, refusal_ending}
use Rattle.command_base.specs.Readings.{ending_of, IsSourceRead}
use Rattle.command_read.specs.declared.scripting.ScriptUnread.{ScriptUnread}
use Rattle.command_read.specs.declared.scripting.ScriptUnread.TheVariants as unread
use Rattle.command_read.specs.Cat.{Selection, IsUnprinted}
use Rattle.command_read.specs.TwoFiles.{ReadsTwo}

-- ---- what is printed

-- the log times of messages
abbrev pub times_in : List Seen → List ℕ
times_in shown = map (λ (s : Seen). s.message.log_time) shown

-- the messages of a stretch
abbrev pub shown_at : List Seen → Stretch → List Seen
shown_at shown s = take (s.to - s.from) (drop s.from shown)

-- for each stretch `moment M COUNT`, and the lines of its messages
abbrev pub play_text : List Seen → List Stretch → List ℕ
play_text shown stretches =
    flat_map (λ (s : Stretch). moment_line s.moment (s.to - s.from) ++ cat_text (shown_at shown s)) stretches

-- the text of what a script shows of these messages, line by line
abbrev pub IsPlayText : List Seen → List Line → List ℕ → Type 0
IsPlayText shown lines text =
    (stretches : List Stretch) × PlaysScript (times_in shown) lines stretches × (text ≡ play_text shown stretches)

-- ---- the file

-- The source was read to its Data End, and these are the messages that are asked for, in the order of log time and place. Where it
-- told its bytes, this is their reading.
pub record IsReplayed (asked : Selection) (before now : SourceState) (shown : List Seen) : Type 0 where
  pub tops : List Top
  pub end : ℕ
  pub messages : List Seen
  pub halts : HaltsSo before now tops (at_end end)
  pub scan : Scan tops messages
  pub replay : Replay asked.range asked.topic messages shown

-- what the reading of the file came to
abbrev pub ReplayComesTo : Selection → SourceState → SourceState → Result (List Seen) ReadingRefused → Type 0
ReplayComesTo asked before now (Ok shown) = IsReplayed asked before now shown
ReplayComesTo asked before now (Err why) = IsUnprinted before now why

-- ---- the script

-- how many bytes a script has at most
abbrev pub script_bytes : ℕ
script_bytes = 67108864

-- for how many bytes memory is taken before one is read
abbrev pub script_front : ℕ
script_front = 65536

-- No read failed, and these are all bytes of the script, which was read to its end.
pub record IsScriptRead (before now : SourceState) (bytes : List ℕ) : Type 0 where
  pub still : now.faults ≡ before.faults
  pub few : length bytes ≤ script_bytes
  pub told : (rest : List ℕ) → before.left ≡ Some rest → rest ≡ bytes
  pub ended : (rest : List ℕ) → before.left ≡ Some rest → now.left ≡ Some []

-- No read failed, and the script is longer: it was read by one byte more than it may have.
pub record IsTooLong (before now : SourceState) : Type 0 where
  pub still : now.faults ≡ before.faults
  pub long : (rest : List ℕ) → before.left ≡ Some rest → script_bytes < length rest
  pub left : (rest : List ℕ) → before.left ≡ Some rest → now.left ≡ Some (drop (script_bytes + 1) rest)

-- no more bytes were read than a script may have
abbrev pub IsReadWithin : SourceState → SourceState → Type 0
IsReadWithin before now = (rest : List ℕ) → before.left ≡ Some rest
    → (n : ℕ) × (n ≤ script_bytes) × (now.left ≡ Some (drop n rest))

-- a read failed, once, and no other was tried
pub record IsScriptFailed (faults : ℕ) (before now : SourceState) : Type 0 where
  pub rises : RisesOnce before.faults now.faults
  pub carried : faults ≡ now.faults
  pub left : IsReadWithin before now

-- memory lacked for the bytes of a script that isn't short
pub record LacksRest (before now : SourceState) : Type 0 where
  pub still : now.faults ≡ before.faults
  pub long : (rest : List ℕ) → before.left ≡ Some rest → script_front ≤ length rest
  pub left : IsReadWithin before now

-- Memory lacked before a byte was read, or for the bytes of a script that isn't short, or once all were read: then they are a
-- script, and it lacked for the lines or for what they show.
abbrev pub LacksForScript : SourceState → SourceState → Type 0
LacksForScript before now = (now ≡ before) ⊎ (LacksRest before now
    ⊎ ((bytes : List ℕ) × (lines : List Line) × IsScriptRead before now bytes × IsScript bytes lines))

abbrev pub IsScriptUnread : SourceState → SourceState → ScriptUnread → Type 0
IsScriptUnread before now (unread.Fault faults) = IsScriptFailed faults before now
IsScriptUnread before now unread.TooLong = IsTooLong before now
IsScriptUnread before now (unread.BadLine n) =
    (bytes : List ℕ) × IsScriptRead before now bytes × IsBadLine bytes n
IsScriptUnread before now unread.TooMany =
    (bytes : List ℕ) × IsScriptRead before now bytes × (script_limit < newlines bytes)
IsScriptUnread before now unread.Memory = LacksForScript before now

-- what the reading of the script came to, and what is printed by it of these messages
abbrev pub ScriptComesTo : List Seen → SourceState → SourceState → Result (List ℕ) ScriptUnread → Type 0
ScriptComesTo shown before now (Ok text) = (bytes : List ℕ) × (lines : List Line) × IsScriptRead before now bytes
    × IsScript bytes lines × IsPlayText shown lines text
ScriptComesTo shown before now (Err why) = IsScriptUnread before now why

-- how a script that isn't read ends
abbrev pub script_ending : List ℕ → ScriptUnread → Ending
script_ending script (unread.Fault faults) = failing
script_ending script unread.TooLong = halted (limit script script_bytes)
script_ending script (unread.BadLine n) = halted (bad_line script n)
script_ending script unread.TooMany = halted (output_limit script)
script_ending script unread.Memory = lacked

-- ---- the command

-- The script was opened once the file was taken back: this came of its reading.
pub record PlaysByScript (shown : List Seen) (file script : List ℕ) (old new : Scene) (entries : List Opening)
    (status : Status) : Type 0 where
  pub more : List Opening
  pub reading : Reading (List ℕ) ScriptUnread
  pub read : IsSourceRead (ScriptComesTo shown) script old.world more reading
  pub ran : ReadsTwo file script old new (entries ++ more) true
      (ending_of (λ text. text) (script_ending script) reading) status

-- Where the file can't be read the script isn't opened.
abbrev pub PlaysOn : List ℕ → List ℕ → Scene → Scene → List Opening → Reading (List Seen) ReadingRefused → Status
    → Type 0
PlaysOn file script old new entries (readings.Opened (Ok shown)) status =
    PlaysByScript shown file script old new entries status
PlaysOn file script old new entries (readings.Opened (Err why)) status =
    ReadsTwo file script old new entries false (refusal_ending file why) status
PlaysOn file script old new entries (readings.Unopened why) status = ReadsTwo file script old new entries false
    (ending_of {T = List Seen} (λ shown. []) (refusal_ending file) (readings.Unopened why)) status

-- ---- the bytes decide

-- What the bytes of a script decide where nothing fails: there are too many of them, or too many lines, or one is bad; or they
-- are a script, and all is printed that it shows.
pub data ScriptDecides (shown : List Seen) (bytes : List ℕ) (before now : SinkState) (status : Status) : Type 0 where
  too_long : script_bytes < length bytes → now ≡ before → status ≡ statuses.Limit
      → ScriptDecides shown bytes before now status
  too_many : length bytes ≤ script_bytes → script_limit < newlines bytes → now ≡ before → status ≡ statuses.Limit
      → ScriptDecides shown bytes before now status
  bad : (n : ℕ) → length bytes ≤ script_bytes → IsBadLine bytes n → now ≡ before → status ≡ statuses.Refused
      → ScriptDecides shown bytes before now status
  played : (lines : List Line) (text : List ℕ) → length bytes ≤ script_bytes → IsScript bytes lines
      → IsPlayText shown lines text → TellsAll before now text → status ≡ statuses.Done
      → ScriptDecides shown bytes before now status

-- What those of both files decide: the script is played where the file is whole, and else nothing is printed.
abbrev pub PlayDecides : Selection → List Top → Halt → List ℕ → SinkState → SinkState → Status → Type 0
PlayDecides asked tops (at_end n) given before now status = (messages : List Seen) × (shown : List Seen)
    × Scan tops messages × Replay asked.range asked.topic messages shown × ScriptDecides shown given before now status
PlayDecides asked tops (breaks n rule) given before now status = (status ≡ statuses.Refused) × (now ≡ before)
PlayDecides asked tops (names n name) given before now status = (status ≡ statuses.Refused) × (now ≡ before)
PlayDecides asked tops (beyond n) given before now status = (status ≡ statuses.Limit) × (now ≡ before)

-- what `play` does
pub record PlaysFile (asked : Selection) (file script : List ℕ) (old new : Scene) (status : Status) : Type 0 where
  -- the file is read as a source, and this came of it; then the script is
  pub entries : List Opening
  pub reading : Reading (List Seen) ReadingRefused
  pub read : IsSourceRead (ReplayComesTo asked) file old.world entries reading
  pub plays : PlaysOn file script old new entries reading status
  -- where the world tells, the bytes under both names decide what is printed and the status, unless a count rises or memory lacks
  pub decided : (told : Told) (bytes given : List ℕ) (tops : List Top) (halt : Halt) → old.world.told ≡ Some told
      → told.names file ≡ Some bytes → told.names script ≡ Some given → Halts reading_limits bytes tops halt
      → (AnyRose (counts_in old) (counts_in new) → ⊥)
      → PlayDecides asked tops halt given old.out new.out status ⊎ (status ≡ statuses.Memory)
