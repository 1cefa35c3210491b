-- What is printed of a script.
use Rattle.std.proofs.Common.{◌≡◌, ℕ, List, [], ◌++◌, Ok, sym, subst, refl, inl, inr, ◌∙◌}
use Rattle.std.specs.Prelude.{Vec, false, true}
use Rattle.std.specs.Global.{Global}
use Rattle.std.proofs.lemmas.List.{append-nil}
use Rattle.mcap_io.specs.Outside.{SinkState, Adds}
use Rattle.time_player.specs.declared.timed_lines.Stretch.{Stretch}
use Rattle.time_player.specs.Stretches.{TimedLine, stretches_text}
use Rattle.time_player.specs.Putting.{PutsOn, PutsPart}
use Rattle.command_base.specs.declared.file_reading.Reading.{Reading}
use Rattle.command_base.specs.declared.file_reading.Reading.TheVariants as readings
use Rattle.command_base.specs.Printing.{TellsAll, TellsTextPart, Takes}
use Rattle.command_base.specs.OneFile.{text_of}
use Rattle.command_base.specs.OneFileSteps.{PrintsEnding}
use Rattle.command_read.specs.declared.scripting.ScriptUnread.{ScriptUnread}
use Rattle.command_read.specs.PlaySteps.{played_ending}

put_is : (text written : List ℕ) → written ++ [] ≡ text → written ≡ text
put_is text written whole = sym (append-nil written) ∙ whole

puts_all : (before now : SinkState) (text : List ℕ) → PutsOn before now [] [] text → TellsAll before now text
puts_all before now text puts = record { still = puts.still; adds = subst (λ (t : List ℕ). Adds before.took now.took t) (put_is text puts.written puts.whole) puts.adds }

puts_part : (before now : SinkState) (text : List ℕ) → PutsPart before now [] text → TellsTextPart before now text
puts_part before now text puts = record { rises = puts.rises; adds = puts.adds }

module _ (before now : SinkState) (lines : List TimedLine) (script : List ℕ) (stretches : Vec Stretch Global) (reading : Reading (Vec Stretch Global) ScriptUnread) (is : reading ≡ readings.Opened (Ok stretches)) where
  abbrev text : List ℕ
  text = stretches_text lines stretches.items

  -- all was taken
  pub prints_all : PutsOn before now [] [] text → PrintsEnding before now (played_ending lines script reading) false
  prints_all puts = subst (λ (r : Reading (Vec Stretch Global) ScriptUnread). PrintsEnding before now (played_ending lines script r) false) (sym is) (inl (refl, puts_all before now text puts))

  pub takes_all : PutsOn before now [] [] text → Takes before now (text_of (played_ending lines script reading))
  takes_all puts = subst (λ (r : Reading (Vec Stretch Global) ScriptUnread). Takes before now (text_of (played_ending lines script r))) (sym is)
      (record { tells = inl (puts_all before now text puts); silent = λ none. puts.silent (put_is text puts.written puts.whole ∙ none) })

  -- or a write failed
  pub prints_part : PutsPart before now [] text → PrintsEnding before now (played_ending lines script reading) true
  prints_part puts = subst (λ (r : Reading (Vec Stretch Global) ScriptUnread). PrintsEnding before now (played_ending lines script r) true) (sym is) (inr (refl, puts_part before now text puts))

  pub takes_part : PutsPart before now [] text → Takes before now (text_of (played_ending lines script reading))
  takes_part puts = subst (λ (r : Reading (Vec Stretch Global) ScriptUnread). Takes before now (text_of (played_ending lines script r))) (sym is)
      (record { tells = inr (puts_part before now text puts); silent = λ none. absurd (puts.some none) })
