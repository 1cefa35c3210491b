-- What the bytes under both names decide.
use Rattle.std.proofs.Common.{◌≡◌, ◌⊎◌, ℕ, ◌≤◌, ◌<◌, Bool, true, false, List, length, Some, Result, Ok, Err, refl, sym, subst, inl, inr, arith}
use Rattle.std.proofs.lemmas.Bool.{false≢true}
use Rattle.mcap_io.specs.Outside.{SourceState, SinkState, Opening, Told}
use Rattle.mcap_io.specs.declared.outside.OutsideRefused.{OutsideRefused}
use Rattle.mcap_io.specs.declared.outside.OutsideRefused.TheVariants as outside_refusals
use Rattle.mcap_model.specs.Tops.{Top}
use Rattle.mcap_model.specs.Kept.{Halt, reading_limits, at_end, grammar as breaks, compressed as names, beyond, Halts}
use Rattle.mcap_model.specs.Readings.{SameHalt}
use Rattle.mcap_model.specs.Scan.{Seen, Scan, Replay}
use Rattle.mcap_model.proofs.Halting.{readings_halt_once}
use Rattle.mcap_model.specs.declared.refusals.ReadingRefused.{ReadingRefused}
use Rattle.mcap_model.specs.declared.refusals.ReadingRefused.TheVariants as refusals
use Rattle.play_clock.specs.Script.{IsScript, IsBadLine, newlines}
use Rattle.command_base.specs.declared.file_reading.Reading.{Reading}
use Rattle.command_base.specs.declared.file_reading.Reading.TheVariants as readings
use Rattle.command_base.specs.declared.statuses.Status.{Status}
use Rattle.command_base.specs.declared.statuses.Status.TheVariants as statuses
use Rattle.command_base.specs.Texts.{halt_status}
use Rattle.command_base.specs.Printing.{TellsAll, Takes}
use Rattle.command_base.specs.Ran.{Scene, counts_in, AnyRose}
use Rattle.command_base.specs.OneFile.{Ending, failing, text_of, ending_status}
use Rattle.command_base.specs.Readings.{ending_of, IsSourceRead}
use Rattle.command_base.proofs.ReadNames.{source_shows}
use Rattle.command_read.specs.declared.scripting.ScriptUnread.{ScriptUnread}
use Rattle.command_read.specs.declared.scripting.ScriptUnread.TheVariants as unread
use Rattle.command_read.specs.Cat.{Selection}
use Rattle.command_read.specs.Play.{ScriptComesTo, script_ending, ReplayComesTo, PlaysOn, PlaysFile, ScriptDecides, too_long, too_many, bad, played, PlayDecides}

-- where no count rose all was taken
calm_text : (old new : Scene) (text : List ℕ) → Takes old.out new.out text → (AnyRose (counts_in old) (counts_in new) → ⊥) → TellsAll old.out new.out text
calm_text old new text takes quiet = elim takes.tells [
  | inl all ↦ all
  | inr part ↦ absurd (quiet (inr (inr (inr (omega (arith, part.rises.once))))))
]

module _ (shown : List Seen) (script given : List ℕ) (before now : SinkState) (status : Status) where
  abbrev script_end : Reading (List ℕ) ScriptUnread → Ending
  script_end reading = ending_of (λ t. t) (script_ending script) reading

  -- a reading of the script that didn't fail
  abbrev ScriptSo : Reading (List ℕ) ScriptUnread → Type 0
  ScriptSo reading = (script_end reading ≡ failing → ⊥) → status ≡ ending_status (script_end reading) → Takes before now (text_of (script_end reading)) → TellsAll before now (text_of (script_end reading))
      → ScriptDecides shown given before now status ⊎ (status ≡ statuses.Memory)

  unopened_script : (why : OutsideRefused) → ScriptSo (readings.Unopened why)
  unopened_script outside_refusals.Failed other same takes all = absurd (other refl)
  unopened_script outside_refusals.Memory other same takes all = inr same

  came_script : (source after : SourceState) (came : Result (List ℕ) ScriptUnread) → source.left ≡ Some given → ScriptComesTo shown source after came → ScriptSo (readings.Opened came)
  came_script source after (Ok text) here (bytes, lines, read, is, plays) other same takes all =
      let it = sym (read.told given here) in
      inl (played lines text (subst (λ (l : List ℕ). length l ≤ 67108864) it read.few) (subst (λ (l : List ℕ). IsScript l lines) it is) plays all same)
  came_script source after (Err (unread.Fault faults)) here stands other same takes all = absurd (other refl)
  came_script source after (Err unread.TooLong) here stands other same takes all = inl (too_long (stands.long given here) (takes.silent refl) same)
  came_script source after (Err (unread.BadLine n)) here (bytes, read, is) other same takes all =
      let it = sym (read.told given here) in
      inl (bad n (subst (λ (l : List ℕ). length l ≤ 67108864) it read.few) (subst (λ (l : List ℕ). IsBadLine l n) it is) (takes.silent refl) same)
  came_script source after (Err unread.TooMany) here (bytes, read, is) other same takes all =
      let it = sym (read.told given here) in
      inl (too_many (subst (λ (l : List ℕ). length l ≤ 67108864) it read.few) (subst (λ (l : List ℕ). 1000000 < newlines l) it is) (takes.silent refl) same)
  came_script source after (Err unread.Memory) here stands other same takes all = inr same

abbrev is_end : Halt → Bool
is_end (at_end n) = true
is_end (breaks n rule) = false
is_end (names n name) = false
is_end (beyond n) = false

module _ (asked : Selection) (file script bytes given : List ℕ) (tops : List Top) (halt : Halt) (halts : Halts reading_limits bytes tops halt) (old new : Scene) (status : Status) (entries : List Opening) (told : Told) (here : old.world.told ≡ Some told)
    (script_there : told.names script ≡ Some given) (quiet : AnyRose (counts_in old) (counts_in new) → ⊥) where
  abbrev Decided : Type 0
  Decided = PlayDecides asked tops halt given old.out new.out status ⊎ (status ≡ statuses.Memory)

  -- a reading that isn't one to the end
  halted_by : (other at : Halt) → is_end other ≡ false → SameHalt other at → status ≡ halt_status other → new.out ≡ old.out → PlayDecides asked tops at given old.out new.out status
  halted_by (at_end n) at none is same still = absurd (false≢true (sym none))
  halted_by (breaks n rule) (at_end m) none is same still = absurd is
  halted_by (breaks n rule) (breaks m other) none is same still = (same, still)
  halted_by (breaks n rule) (names m name) none is same still = absurd is
  halted_by (breaks n rule) (beyond m) none is same still = absurd is
  halted_by (names n name) (at_end m) none is same still = let e : names n name ≡ at_end m = is in absurd cc
  halted_by (names n name) (breaks m other) none is same still = absurd is
  halted_by (names n name) (names m other) none is same still = (same, still)
  halted_by (names n name) (beyond m) none is same still = let e : names n name ≡ beyond m = is in absurd cc
  halted_by (beyond n) (at_end m) none is same still = let e : beyond n ≡ at_end m = is in absurd cc
  halted_by (beyond n) (breaks m other) none is same still = absurd is
  halted_by (beyond n) (names m other) none is same still = let e : beyond n ≡ names m other = is in absurd cc
  halted_by (beyond n) (beyond m) none is same still = (same, still)

  refused_by : (others : List Top) (other : Halt) → Halts reading_limits bytes others other → is_end other ≡ false → status ≡ halt_status other → new.out ≡ old.out → Decided
  refused_by others other found none same still = inl (halted_by other halt none (readings_halt_once bytes others tops other halt found halts).1 same still)

  -- or one to the end, whose messages the script plays
  ended_by : (others : List Top) (end : ℕ) (at : Halt) → SameHalt (at_end end) at → others ≡ tops → (messages shown : List Seen) → Scan others messages → Replay asked.range asked.topic messages shown → ScriptDecides shown given old.out new.out status
      → PlayDecides asked tops at given old.out new.out status
  ended_by others end (at_end m) is same messages shown scan replay decides = (messages, shown, subst (λ (t : List Top). Scan t messages) same scan, replay, decides)
  ended_by others end (breaks m rule) is same messages shown scan replay decides = absurd is
  ended_by others end (names m name) is same messages shown scan replay decides = let e : at_end end ≡ names m name = is in absurd cc
  ended_by others end (beyond m) is same messages shown scan replay decides = let e : at_end end ≡ beyond m = is in absurd cc

  abbrev FileSo : Reading (List Seen) ReadingRefused → Type 0
  FileSo reading = PlaysOn file script old new entries reading status → Decided

  unopened_file : (why : OutsideRefused) → FileSo (readings.Unopened why)
  unopened_file outside_refusals.Failed plays = absurd ((plays.calm quiet).1 refl)
  unopened_file outside_refusals.Memory plays = inr (plays.calm quiet).2

  came_file : (source after : SourceState) (came : Result (List Seen) ReadingRefused) → source.left ≡ Some bytes → ReplayComesTo asked source after came → FileSo (readings.Opened came)
  came_file source after (Ok shown) there comes plays =
      let (unnamed, unfailing, same) = plays.ran.calm quiet in
      let text = text_of (script_end shown script given old.out new.out status plays.reading) in
      let takes = plays.ran.ran.printed in
      let once = readings_halt_once bytes comes.tops tops (at_end comes.end) halt (comes.halts.halts bytes there) halts in
      elim (source_shows (ScriptSo shown script given old.out new.out status) script given old.world told here script_there (unopened_script shown script given old.out new.out status) (ScriptComesTo shown) (came_script shown script given old.out new.out status) plays.more plays.reading plays.read unfailing same takes (calm_text old new text takes quiet)) [
        | inl decides ↦ inl (ended_by comes.tops comes.end halt once.1 once.0 comes.messages shown comes.scan comes.replay decides)
        | inr lacks ↦ inr lacks
      ]
  came_file source after (Err (refusals.Fault faults)) there comes plays = absurd ((plays.calm quiet).1 refl)
  came_file source after (Err (refusals.Grammar n rule)) there comes plays = refused_by comes.0 (breaks n rule) (comes.1.halts bytes there) refl (plays.calm quiet).2 (plays.ran.printed.silent refl)
  came_file source after (Err (refusals.Compressed n name)) there comes plays = refused_by comes.0 (names n name) (comes.1.halts bytes there) refl (plays.calm quiet).2 (plays.ran.printed.silent refl)
  came_file source after (Err (refusals.Limit n)) there comes plays = refused_by comes.0 (beyond n) (comes.1.halts bytes there) refl (plays.calm quiet).2 (plays.ran.printed.silent refl)
  came_file source after (Err refusals.Memory) there comes plays = inr (plays.calm quiet).2

-- all that the program promises of a playing
pub plays_file : (asked : Selection) (file script : List ℕ) (old new : Scene) (status : Status) (entries : List Opening) (reading : Reading (List Seen) ReadingRefused) → IsSourceRead (ReplayComesTo asked) file old.world entries reading
    → PlaysOn file script old new entries reading status → PlaysFile asked file script old new status
plays_file asked file script old new status entries reading read plays = record {
  entries = entries;
  reading = reading;
  read = read;
  plays = plays;
  decided = λ told bytes given tops halt here there script_there halts quiet.
      source_shows (FileSo asked file script bytes given tops halt halts old new status entries told here script_there quiet) file bytes old.world told here there (unopened_file asked file script bytes given tops halt halts old new status entries told here script_there quiet) (ReplayComesTo asked)
      (came_file asked file script bytes given tops halt halts old new status entries told here script_there quiet) entries reading read plays;
}
