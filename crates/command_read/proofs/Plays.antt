-- What the readings of a file and of a script come to.
use Rattle.std.proofs.Common.{◌≡◌, ℕ, ◌-◌, List, [], ◌∷◌, ◌++◌, Result, Ok, Err, refl, sym, ap, subst, inl, inr, ◌∙◌}
use Rattle.std.specs.Prelude.{Vec}
use Rattle.std.specs.Global.{Global}
use Rattle.std.proofs.lemmas.List.{length-map}
use Rattle.mcap_io.specs.Outside.{SourceState, WorldState, Keeping, Opening, TellsName}
use Rattle.mcap_io.specs.declared.outside.ObjectKind.TheVariants as kinds
use Rattle.mcap_io.specs.declared.outside.OutsideRefused.{OutsideRefused}
use Rattle.mcap_io.specs.declared.outside.OutsideRefused.TheVariants as outside_refusals
use Rattle.mcap_model.specs.Places.{Each}
use Rattle.mcap_model.specs.Scan.{Seen}
use Rattle.mcap_model.specs.declared.refusals.ReadingRefused.{ReadingRefused}
use Rattle.time_player.specs.declared.timed_lines.Stretch.{Stretch}
use Rattle.time_player.specs.Stretches.{TimedLine, timed_lines, stretches_text, moment_line, LiesWithin}
use Rattle.time_player.specs.Replaying.{PlaysTimed}
use Rattle.time_player.proofs.Stretched.{cat_lines}
use Rattle.play_clock.specs.Times.{TimesRise}
use Rattle.play_clock.specs.Played.{PlaysScript}
use Rattle.play_clock.proofs.Consequences.{rising}
use Rattle.command_base.specs.declared.file_reading.Reading.{Reading}
use Rattle.command_base.specs.declared.file_reading.Reading.TheVariants as readings
use Rattle.command_base.specs.Ran.{kept, wanted, AreOpened}
use Rattle.command_base.specs.OneFile.{Ending, was_read, failing, is_lack, single_file}
use Rattle.command_base.specs.Readings.{ending_of, IsSourceRead}
use Rattle.command_read.specs.declared.scripting.ScriptUnread.{ScriptUnread}
use Rattle.command_read.specs.Cat.{Selection}
use Rattle.time_player.specs.Text.{cat_text}
use Rattle.command_read.specs.Play.{times_in, shown_at, play_text, ReplayComesTo, ScriptComesTo, script_ending}
use Rattle.command_read.proofs.Cats.{refused_so}
use Rattle.command_read.specs.PlaySteps.{times_of_lines, IsTakenBack, LinesComeTo, ScriptShows, played_ending, LieAmong}

-- ---- texts

pub times_are : (shown : List Seen) → times_of_lines (timed_lines shown) ≡ times_in shown
times_are [] = refl
times_are (s ∷ ss) = ap (λ (l : List ℕ). s.message.log_time ∷ l) (times_are ss)

pub text_is : (shown : List Seen) (stretches : List Stretch) → stretches_text (timed_lines shown) stretches ≡ play_text shown stretches
text_is shown [] = refl
text_is shown (s ∷ ss) =
    ap (λ (l : List ℕ). (moment_line s.moment (s.to - s.from) ++ l) ++ stretches_text (timed_lines shown) ss) (cat_lines shown s.from (s.to - s.from))
    ∙ ap (λ (l : List ℕ). (moment_line s.moment (s.to - s.from) ++ cat_text (shown_at shown s)) ++ l) (text_is shown ss)

-- ---- the file

-- what the reading of the file came to, as lines
pub lines_come : (asked : Selection) (before now : SourceState) (result : Result (List TimedLine) ReadingRefused) → PlaysTimed asked.range asked.topic before now result → LinesComeTo asked before now result
lines_come asked before now (Ok lines) plays = (plays.lines_are.0, record { tops = plays.tops; end = plays.end; messages = plays.messages; halts = plays.halts; scan = plays.scan; replay = plays.lines_are.1 }, plays.lines_are.2)
lines_come asked before now (Err why) plays = refused_so before now why plays

opened_same : {T R : Type 0} (a b : Result T R) → readings.Opened a ≡ readings.Opened b → a ≡ b
opened_same a b e = cc

-- what came of the reading of a file, whose messages are those of the lines
pub record FileReplayed (asked : Selection) (file : List ℕ) (world : WorldState) (entries : List Opening) (lines : List TimedLine) : Type 0 where
  pub shown : List Seen
  pub lines_are : lines ≡ timed_lines shown
  pub rise : TimesRise (times_of_lines lines)
  pub read : IsSourceRead (ReplayComesTo asked) file world entries (readings.Opened (Ok shown))
  pub back : IsTakenBack file entries

kept_alone : (file : List ℕ) (entry : Opening) (more : List Opening) (keeping : Keeping) → entry ≡ kept kinds.Source file keeping → AreOpened (wanted (single_file kinds.Source file)) (entry ∷ more) → entry ∷ more ≡ kept kinds.Source file keeping ∷ []
kept_alone file entry more keeping is (inl (refused_is, none)) = ap (λ (l : List Opening). entry ∷ l) none ∙ ap (λ (o : Opening). o ∷ []) is
kept_alone file entry more keeping is (inr (other, also, none)) = ap (λ (l : List Opening). entry ∷ l) none ∙ ap (λ (o : Opening). o ∷ []) is

pub file_replayed : (asked : Selection) (file : List ℕ) (world : WorldState) (entries : List Opening) (lines : List TimedLine) → AreOpened (wanted (single_file kinds.Source file)) entries
    → IsSourceRead (LinesComeTo asked) file world entries (readings.Opened (Ok lines)) → FileReplayed asked file world entries lines
file_replayed asked file world [] lines opened is = absurd cc
file_replayed asked file world (entry ∷ more) lines opened (inl (refused_is, is)) = absurd cc
file_replayed asked file world (entry ∷ more) lines opened (inr (keeping, is, (came, opened_is, under))) =
    let comes : LinesComeTo asked under.source (record { left = keeping.left; faults = keeping.faults }) (Ok lines) =
    subst (λ (r : Result (List TimedLine) ReadingRefused). LinesComeTo asked under.source (record { left = keeping.left; faults = keeping.faults }) r) (opened_same came (Ok lines) (sym opened_is)) under.comes in
    let replayed = comes.1 in
    let replay = replayed.replay in
    record {
      shown = comes.0;
      lines_are = comes.2;
      rise = subst TimesRise (sym (ap times_of_lines comes.2 ∙ times_are comes.0)) (rising comes.0 replay.rises);
      read = inr (keeping, is, (Ok comes.0, refl, record { source = under.source; tells = under.tells; unused = under.unused; comes = comes.1 }));
      back = (keeping, kept_alone file entry more keeping is opened);
    }

-- or it was refused
pub file_refused : (asked : Selection) (file : List ℕ) (world : WorldState) (entries : List Opening) (why : ReadingRefused)
    → IsSourceRead (LinesComeTo asked) file world entries (readings.Opened (Err why)) → IsSourceRead (ReplayComesTo asked) file world entries (readings.Opened (Err why))
file_refused asked file world [] why is = absurd cc
file_refused asked file world (entry ∷ more) why (inl (refused_is, is)) = absurd cc
file_refused asked file world (entry ∷ more) why (inr (keeping, is, (came, opened_is, under))) =
    inr (
      keeping,
      is,
      (
        Err why,
        refl,
        record {
          source = under.source;
          tells = under.tells;
          unused = under.unused;
          comes = subst (λ (r : Result (List TimedLine) ReadingRefused). LinesComeTo asked under.source (record { left = keeping.left; faults = keeping.faults }) r) (opened_same came (Err why) (sym opened_is)) under.comes;
        },
      ),
    )

abbrev unopened_as : (T : Type 0) → OutsideRefused → Reading T ReadingRefused
unopened_as T why = readings.Unopened why

-- why a file wasn't opened doesn't rest on what is read
unopened_again : (T U : Type 0) (why other : OutsideRefused) → unopened_as T why ≡ unopened_as T other → unopened_as U why ≡ unopened_as U other
unopened_again T U outside_refusals.Memory outside_refusals.Memory e = refl
unopened_again T U outside_refusals.Failed outside_refusals.Failed e = refl
unopened_again T U outside_refusals.Memory outside_refusals.Failed e = absurd cc
unopened_again T U outside_refusals.Failed outside_refusals.Memory e = absurd cc

pub file_unopened : (asked : Selection) (file : List ℕ) (world : WorldState) (entries : List Opening) (why : OutsideRefused)
    → IsSourceRead (LinesComeTo asked) file world entries (readings.Unopened why) → IsSourceRead (ReplayComesTo asked) file world entries (readings.Unopened why)
file_unopened asked file world [] why is = unopened_again (List TimedLine) (List Seen) why outside_refusals.Memory is
file_unopened asked file world (entry ∷ more) why (inl (refused_is, is)) = inl (refused_is, unopened_again (List TimedLine) (List Seen) why outside_refusals.Failed is)
file_unopened asked file world (entry ∷ more) why (inr (keeping, is, (came, opened_is, under))) = absurd cc

-- ---- the script

abbrev ScriptReading : Type 0
ScriptReading = Reading (Vec Stretch Global) ScriptUnread

-- the same, as the text of what is shown
abbrev pub as_text : List Seen → ScriptReading → Reading (List ℕ) ScriptUnread
as_text shown (readings.Unopened why) = readings.Unopened why
as_text shown (readings.Opened (Ok stretches)) = readings.Opened (Ok (play_text shown stretches.items))
as_text shown (readings.Opened (Err why)) = readings.Opened (Err why)

pub ending_same : (shown : List Seen) (script : List ℕ) (reading : ScriptReading) → played_ending (timed_lines shown) script reading ≡ ending_of (λ (t : List ℕ). t) (script_ending script) (as_text shown reading)
ending_same shown script (readings.Unopened outside_refusals.Failed) = refl
ending_same shown script (readings.Unopened outside_refusals.Memory) = refl
ending_same shown script (readings.Opened (Ok stretches)) = ap was_read (text_is shown stretches.items)
ending_same shown script (readings.Opened (Err why)) = refl

comes_text : (shown : List Seen) (before now : SourceState) (came : Result (Vec Stretch Global) ScriptUnread) (reading : ScriptReading) → reading ≡ readings.Opened came → ScriptShows (timed_lines shown) before now came
    → (other : Result (List ℕ) ScriptUnread) × (as_text shown reading ≡ readings.Opened other) × ScriptComesTo shown before now other
comes_text shown before now (Ok stretches) reading is (bytes, read, shows) = (
  Ok (play_text shown stretches.items),
  ap (as_text shown) is,
  (bytes, shows.script, read, shows.is, (stretches.items, subst (λ (times : List ℕ). PlaysScript times shows.script stretches.items) (times_are shown) shows.plays, refl)),
)
comes_text shown before now (Err why) reading is stands = (Err why, ap (as_text shown) is, stands)

pub script_read : (shown : List Seen) (script : List ℕ) (old mid : WorldState) (entries : List Opening) (reading : ScriptReading) → ((source : SourceState) → TellsName mid script source → TellsName old script source)
    → IsSourceRead (ScriptShows (timed_lines shown)) script mid entries reading → IsSourceRead (ScriptComesTo shown) script old entries (as_text shown reading)
script_read shown script old mid [] reading tells is = ap (as_text shown) is
script_read shown script old mid (entry ∷ more) reading tells (inl (refused_is, is)) = inl (refused_is, ap (as_text shown) is)
script_read shown script old mid (entry ∷ more) reading tells (inr (keeping, is, (came, opened_is, under))) =
    let comes = comes_text shown under.source (record { left = keeping.left; faults = keeping.faults }) came reading opened_is under.comes in
    inr (keeping, is, (comes.0, comes.1, record { source = under.source; tells = tells under.source under.tells; unused = under.unused; comes = comes.2 }))

pub lie_among : (lines : List TimedLine) (script : List ℕ) (world : WorldState) (entries : List Opening) (reading : ScriptReading) → IsSourceRead (ScriptShows lines) script world entries reading → LieAmong lines reading
lie_among lines script world [] reading is = subst (LieAmong lines) (sym is) tt
lie_among lines script world (entry ∷ more) reading (inl (refused_is, is)) = subst (LieAmong lines) (sym is) tt
lie_among lines script world (entry ∷ more) reading (inr (keeping, is, (came, opened_is, under))) = subst (LieAmong lines) (sym opened_is) (by came under.comes)
  where
    by : (r : Result (Vec Stretch Global) ScriptUnread) → ScriptShows lines under.source (record { left = keeping.left; faults = keeping.faults }) r → LieAmong lines (readings.Opened r)
    by (Ok stretches) (bytes, read, shows) = subst (λ (n : ℕ). Each (LiesWithin n) stretches.items) (length-map lines (λ (l : TimedLine). l.time)) shows.within
    by (Err why) stands = tt

-- ---- endings, whatever the text is

module _ {T R : Type 0} (one other : T → List ℕ) (refusal : R → Ending) where
  pub same_lack : (reading : Reading T R) → is_lack (ending_of one refusal reading) ≡ is_lack (ending_of other refusal reading)
  same_lack (readings.Unopened outside_refusals.Failed) = refl
  same_lack (readings.Unopened outside_refusals.Memory) = refl
  same_lack (readings.Opened (Ok it)) = refl
  same_lack (readings.Opened (Err why)) = refl

  pub fails_alike : (reading : Reading T R) → ending_of one refusal reading ≡ failing → ending_of other refusal reading ≡ failing
  fails_alike (readings.Unopened outside_refusals.Failed) e = refl
  fails_alike (readings.Unopened outside_refusals.Memory) e = absurd cc
  fails_alike (readings.Opened (Ok it)) e = absurd cc
  fails_alike (readings.Opened (Err why)) e = e
