-- The steps of playing a file by a script.
use Rattle.std.proofs.Common.{refl, inl, inr, arith}
use Rattle.std.specs.Prelude.{◌≡◌, ◌<◌, ◌≤◌, ℕ, List, [], ◌∷◌, length, map, drop, Some, Result, Ok, Err, Vec}
use Rattle.std.specs.Global.{Global}
use Rattle.mcap_io.specs.Outside.{RisesOnce, SourceState, Keeping, Opening}
use Rattle.mcap_io.specs.OutsideCalls.{TakesFront}
use Rattle.mcap_io.specs.declared.outside.ObjectKind.TheVariants as kinds
use Rattle.mcap_model.specs.Places.{Each}
use Rattle.mcap_model.specs.Scan.{Seen}
use Rattle.mcap_model.specs.declared.refusals.ReadingRefused.{ReadingRefused}
use Rattle.time_player.specs.declared.timed_lines.Stretch.{Stretch}
use Rattle.time_player.specs.Stretches.{TimedLine, timed_lines, stretches_text, LiesWithin}
use Rattle.play_clock.specs.declared.line.Line.{Line}
use Rattle.play_clock.specs.Limits.{script_limit}
use Rattle.play_clock.specs.Script.{IsScript, IsBadLine, newlines}
use Rattle.play_clock.specs.Played.{PlaysScript}
use Rattle.command_base.specs.declared.file_reading.Reading.{Reading}
use Rattle.command_base.specs.declared.file_reading.Reading.TheVariants as readings
use Rattle.command_base.specs.OneFile.{Ending, failing}
use Rattle.command_base.specs.Ran.{kept}
use Rattle.command_base.specs.Readings.{ending_of}
use Rattle.command_base.specs.ReadingSteps.{IsRefusal}
use Rattle.command_read.specs.declared.scripting.ScriptUnread.{ScriptUnread}
use Rattle.command_read.specs.declared.scripting.ScriptUnread.TheVariants as unread
use Rattle.command_read.specs.Cat.{Selection, IsUnprinted}
use Rattle.command_read.specs.Play.{IsReplayed, script_front, IsScriptRead, IsScriptUnread, script_ending}

abbrev pub times_of_lines : List TimedLine → List ℕ
times_of_lines lines = map (λ (l : TimedLine). l.time) lines

-- ---- the file

-- the name was opened, and its object taken back
abbrev pub IsTakenBack : List ℕ → List Opening → Type 0
IsTakenBack file entries = (keeping : Keeping) × (entries ≡ kept kinds.Source file keeping ∷ [])

-- what came of the reading of the file, as lines with their log times
abbrev pub LinesComeTo : Selection → SourceState → SourceState → Result (List TimedLine) ReadingRefused → Type 0
LinesComeTo asked before now (Ok lines) =
    (shown : List Seen) × IsReplayed asked before now shown × (lines ≡ timed_lines shown)
LinesComeTo asked before now (Err why) = IsUnprinted before now why

-- ---- the script

-- up to so many bytes were read: fewer only where no more are left
pub record Fronts (before now : SourceState) (len : ℕ) (bytes : List ℕ) : Type 0 where
  pub still : now.faults ≡ before.faults
  pub few : length bytes ≤ len
  pub taken : (rest : List ℕ) → before.left ≡ Some rest → TakesFront rest now.left len bytes

-- or fewer of them were, and are lost
abbrev pub LosesFront : SourceState → SourceState → ℕ → Type 0
LosesFront before now len = (rest : List ℕ) → before.left ≡ Some rest
    → (n : ℕ) × (n < len) × (now.left ≡ Some (drop n rest))

abbrev pub Unfronts : SourceState → SourceState → ℕ → ScriptUnread → Type 0
Unfronts before now len (unread.Fault faults) =
    RisesOnce before.faults now.faults × (faults ≡ now.faults) × LosesFront before now len
Unfronts before now len unread.TooLong = ⊥
Unfronts before now len (unread.BadLine n) = ⊥
Unfronts before now len unread.TooMany = ⊥
Unfronts before now len unread.Memory =
    (now.faults ≡ before.faults) × LosesFront before now len × (len ≤ script_front → now ≡ before)

-- the bytes are a script, and these stretches are what it shows of the lines
pub record Shows (lines : List TimedLine) (bytes : List ℕ) (stretches : List Stretch) : Type 0 where
  pub script : List Line
  pub is : IsScript bytes script
  pub plays : PlaysScript (times_of_lines lines) script stretches
  pub within : Each (LiesWithin (length (times_of_lines lines))) stretches

-- or they aren't one, or they are and memory lacked
abbrev pub Refuses : List ℕ → ScriptUnread → Type 0
Refuses bytes (unread.Fault faults) = ⊥
Refuses bytes unread.TooLong = ⊥
Refuses bytes (unread.BadLine n) = IsBadLine bytes n
Refuses bytes unread.TooMany = script_limit < newlines bytes
Refuses bytes unread.Memory = (lines : List Line) × IsScript bytes lines

abbrev pub ScriptShows : List TimedLine → SourceState → SourceState → Result (Vec Stretch Global) ScriptUnread
    → Type 0
ScriptShows lines before now (Ok stretches) =
    (bytes : List ℕ) × IsScriptRead before now bytes × Shows lines bytes stretches.items
ScriptShows lines before now (Err why) = IsScriptUnread before now why

-- how the reading of a script ended, with the text of what it shows of the lines
abbrev pub played_ending : List TimedLine → List ℕ → Reading (Vec Stretch Global) ScriptUnread → Ending
played_ending lines script reading =
    ending_of (λ (s : Vec Stretch Global). stretches_text lines s.items) (script_ending script) reading

-- what was read lies among the lines
abbrev pub LieAmong : List TimedLine → Reading (Vec Stretch Global) ScriptUnread → Type 0
LieAmong lines (readings.Unopened why) = Unit {0}
LieAmong lines (readings.Opened (Ok stretches)) = Each (LiesWithin (length lines)) stretches.items
LieAmong lines (readings.Opened (Err why)) = Unit {0}

-- ---- refusals

-- nothing is read
pub script_is : (script : List ℕ) (why : ScriptUnread) → IsRefusal (script_ending script why)
script_is script (unread.Fault faults) = tt
script_is script unread.TooLong = inr refl
script_is script (unread.BadLine n) = inl refl
script_is script unread.TooMany = inr refl
script_is script unread.Memory = tt

fails_by : (script : List ℕ) (why : ScriptUnread) (before now : SourceState) → IsScriptUnread before now why
    → before.faults ≡ 0 → script_ending script why ≡ failing → now.faults ≡ 0 → ⊥
fails_by script (unread.Fault faults) before now stands unused e none =
    let risen = stands.rises.once in
    omega (arith, risen, unused, none)
fails_by script unread.TooLong before now stands unused e none = absurd cc
fails_by script (unread.BadLine n) before now stands unused e none = absurd cc
fails_by script unread.TooMany before now stands unused e none = absurd cc
fails_by script unread.Memory before now stands unused e none = absurd cc

-- a script that failed has a source that failed
pub script_fails : (lines : List TimedLine) (before now : SourceState) (script : List ℕ) (why : ScriptUnread)
    → ScriptShows lines before now (Err why) → before.faults ≡ 0 → script_ending script why ≡ failing
    → now.faults ≡ 0 → ⊥
script_fails lines before now script why stands unused e none = fails_by script why before now stands unused e none
