-- What the opening, the recovery and the keeping of both names come to, and what is promised of the command.
use Rattle.std.proofs.Common.{◌≡◌, ◌⊎◌, ℕ, Bool, List, [], ◌∷◌, Option, Some, Result, Ok, Err, refl, sym, ap, subst, inl, inr, ◌∙◌, arith}
use Rattle.std.specs.Prelude.{true, false, ◌||◌}
use Rattle.std.proofs.lemmas.Option.{same_Some}
use Rattle.mcap_io.specs.Outside.{Told, Opening, Names, SourceState, LiveState, SinkState, WorldState}
use Rattle.mcap_io.specs.OutsideCalls.{went_well, PlacedUnder, WritesAll}
use Rattle.mcap_io.specs.declared.outside.Short.{Short}
use Rattle.mcap_io.specs.declared.outside.Failed.{Failed}
use Rattle.mcap_model.specs.declared.ends.Stop.TheVariants as stops
use Rattle.mcap_model.specs.Tops.{Top}
use Rattle.mcap_model.specs.Rules.{V1}
use Rattle.mcap_model.specs.File.{file_of, IsPrefix}
use Rattle.mcap_recover.specs.declared.answers.Recovered.{Recovered}
use Rattle.mcap_recover.specs.declared.answers.RecoverRefused.{RecoverRefused}
use Rattle.mcap_recover.specs.declared.answers.RecoverRefused.TheVariants as refusals
use Rattle.mcap_model.specs.declared.ends.Stop.{Stop}
use Rattle.mcap_model.specs.declared.refusals.ReadingRefused.{ReadingRefused}
use Rattle.mcap_model.specs.declared.refusals.ReadingRefused.TheVariants as scans
use Rattle.record_keeping.specs.NewFiles.{recovered_options, LeftAfter, IsUnbegun, AreRipe}
use Rattle.record_keeping.proofs.Ripe.{unbegun_told, cut_told}
use Rattle.mcap_recover.specs.Recovering.{lacks, BreaksOff, BreaksOffLeaving, recovered_making, HasHalted, HaltedBytes, IsUnrecovered, IsUnwritten, Recovers}
use Rattle.chunk_writer.specs.Stops.{StopsAt, StopCause}
use Rattle.command_base.specs.Printing.{TellsAll, Tells, Takes}
use Rattle.command_base.specs.declared.statuses.Status.{Status}
use Rattle.command_base.specs.declared.statuses.Status.TheVariants as statuses
use Rattle.command_base.specs.Texts.{grammar}
use Rattle.command_base.specs.Ran.{Scene, failed_so, failed_names}
use Rattle.command_base.proofs.Counting.{failed_often}
use Rattle.command_write.specs.declared.recovering.Recovery.{Recovery}
use Rattle.command_write.specs.declared.recovering.Recovery.TheVariants as recoveries
use Rattle.command_write.specs.declared.recovering.Restored.{Restored}
use Rattle.command_base.specs.Endings.{writing_status, IsWritingDone}
use Rattle.command_base.specs.OutputSteps.{HaltsByInput, NamesEnd}
use Rattle.command_base.specs.Outputs.{WritesOutput}
use Rattle.command_base.proofs.Endings.{halts_well, none_halts_well}
use Rattle.command_write.specs.Recover.{IsPlaced, HoldsRipe, HoldsStopped, RecoveryOutputHolds, BothReached, RefusesRecovery, recovery_of, IsRecovery, unread_ending, stopped_ending, ending_of_recovery, number_after_name, recovered_line, both_names, ReadingDecides, RecoveryStopDecides, RecoveryDecides, RecoversFile}
use Rattle.command_write.specs.RecoverSteps.{unopened_recovery, NamesRecovered}
use Rattle.command_write.proofs.Names.{BothKept, as_names, NotGiven, no_entries, alone_entries, BothGiven, both_entries, both_placed, nothing_yet, both_kept}

-- ---- endings

-- only a source that doesn't begin with the magic halts
well : (input : List ℕ) (recovery : Recovery) → HaltsByInput (input ∷ []) (ending_of_recovery input recovery)
well input recoveries.Unopened = none_halts_well (input ∷ []) _ refl
well input (recoveries.Made r) = none_halts_well (input ∷ []) _ refl
well input (recoveries.Refused refusals.NoMagic) = halts_well (input ∷ []) 0 (grammar input 0) (omega arith) (inl refl)
well input (recoveries.Refused (refusals.Refused why)) = unread why
  where
    unread : (w : ReadingRefused) → HaltsByInput (input ∷ []) (unread_ending w)
    unread (scans.Fault faults) = none_halts_well (input ∷ []) _ refl
    unread (scans.Grammar offset rule) = none_halts_well (input ∷ []) _ refl
    unread (scans.Compressed offset name) = none_halts_well (input ∷ []) _ refl
    unread (scans.Limit offset) = none_halts_well (input ∷ []) _ refl
    unread scans.Memory = none_halts_well (input ∷ []) _ refl
well input (recoveries.Refused (refusals.Stopped stop)) = unwritten stop
  where
    unwritten : (s : Stop) → HaltsByInput (input ∷ []) (stopped_ending s)
    unwritten (stops.Fault faults) = none_halts_well (input ∷ []) _ refl
    unwritten (stops.Limit blocks bytes) = none_halts_well (input ∷ []) _ refl
    unwritten stops.Memory = none_halts_well (input ∷ []) _ refl

-- how both names end, where a failure of one is told where the recovery failed
ends_so : (input out : List ℕ) (old new : WorldState) (entries : List Opening) (input_failed out_failed : Bool) (recovery : Recovery) → BothKept input out old new entries input_failed out_failed
    → ((ending_of_recovery input recovery).fails ≡ true → (input_failed ≡ true) ⊎ (out_failed ≡ true)) → NamesEnd (both_names input out) old new entries (input_failed ∷ []) out_failed (λ some. ending_of_recovery input recovery)
ends_so input out old new entries input_failed out_failed recovery names sure = record {
  names = as_names input out old new entries input_failed out_failed names;
  well = λ some. well input recovery;
  sure = λ some e. elim (sure e) [ inl is ↦ inl (either input_failed is) | inr is ↦ inr (inl is) ];
}
  where
    either : (failed : Bool) → failed ≡ true → (failed || false) ≡ true
    either true is = refl
    either false is = absurd cc

-- ---- what the output holds

-- what a keeping left under the name
pub placed_so : (text : List ℕ) (all now : Names) (out : List ℕ) (result : Result Unit Failed) → PlacedUnder all now out text result → IsPlaced text (went_well result) (all out) (now out)
placed_so text all now out (Ok it) placed = placed
placed_so text all now out (Err why) placed = placed

leaves_so : (why : ReadingRefused) (before now : SourceState) (tops : List Top) (bytes : List ℕ) → BreaksOff why before now tops → before.left ≡ Some bytes → BreaksOffLeaving why bytes tops now.left
leaves_so (scans.Fault faults) before now tops bytes it told = it.leaves bytes told
leaves_so (scans.Grammar offset rule) before now tops bytes it told = absurd it
leaves_so (scans.Compressed offset name) before now tops bytes it told = absurd it
leaves_so (scans.Limit offset) before now tops bytes it told = absurd it
leaves_so scans.Memory before now tops bytes it told = it.leaves bytes told

-- what the store holds of records behind which a reading broke off
record HasRipe (chunk : ℕ) (bytes : List ℕ) (left : Option (List ℕ)) (why : ReadingRefused) (tops : List Top) (held : Option (List ℕ)) : Type 0 where
  text : List ℕ
  is : held ≡ Some text
  keeps : (IsUnbegun why (LeftAfter bytes left) tops × (text ≡ [])) ⊎ (V1 bytes × AreRipe (recovered_making chunk) tops text)

has_ripe : (chunk : ℕ) (source back : SourceState) (live stored : LiveState) (why : ReadingRefused) (bytes : List ℕ) → source.left ≡ Some bytes → live.held ≡ Some [] → (it : IsUnrecovered chunk source back live stored why) → HasRipe chunk bytes back.left why it.tops stored.held
has_ripe chunk source back live stored why bytes told none it = elim it.keeps [
  | inl (few, same) ↦ record { text = []; is = ap (λ (s : LiveState). s.held) same ∙ none; keeps = inl (unbegun_told why source back it.tops bytes told few, refl) }
  | inr (magic, ripe) ↦ record { text = ripe.text; is = ripe.adds [] none; keeps = inr (magic bytes told, ripe.ripe) }
]

holds_ripe : (chunk : ℕ) (source back : SourceState) (live stored : LiveState) (why : ReadingRefused) (bytes out : List ℕ) (all now : Names) (result : Result Unit Failed) → IsUnrecovered chunk source back live stored why
    → source.left ≡ Some bytes → live.held ≡ Some [] → ((text : List ℕ) → stored.held ≡ Some text → PlacedUnder all now out text result) → HoldsRipe chunk bytes back.left why (went_well result) (all out) (now out)
holds_ripe chunk source back live stored why bytes out all now result it told none placed =
    let has = has_ripe chunk source back live stored why bytes told none it in
    record {
      tops = it.tops;
      good = it.good;
      broken = leaves_so why source back it.tops bytes it.broken told;
      text = has.text;
      keeps = has.keeps;
      placed = placed_so has.text all now out result (placed has.text has.is);
      part = λ profile extras history repaired.
          let other = it.part bytes told profile extras history repaired [] none in
          subst (λ (l : List ℕ). IsPrefix l (file_of (recovered_options profile chunk) extras history)) (same_Some other.0 has.text (sym other.1 ∙ has.is)) other.2;
    }

-- what stands of a file at whose piece the writer stopped
holds_stopped : (chunk : ℕ) (source back : SourceState) (live stored : LiveState) (stop : Stop) (bytes out : List ℕ) (all now : Names) (result : Result Unit Failed) → IsUnwritten chunk source back live stored stop
    → source.left ≡ Some bytes → live.held ≡ Some [] → ((text : List ℕ) → stored.held ≡ Some text → PlacedUnder all now out text result) → HoldsStopped chunk bytes back.left stop (went_well result) (all out) (now out)
holds_stopped chunk source back live stored stop bytes out all now result it told none placed =
    let cut = it.cut in
    let (text, held, begins) = cut.ripe [] none in
    let told_cut = cut_told (recovered_making chunk) (HasHalted source back) (HaltedBytes bytes back.left) source back live.held stored.held stop it.written bytes text told none held
    (λ tops halted. (halted.0, halted.1.halts bytes told, halted.1.leaves bytes told)) cut in
    record {
      magic = it.magic bytes told;
      text = text;
      placed = placed_so text all now out result (placed text held);
      written = it.written;
      cut = told_cut;
      stops = λ profile extras history repaired.
          subst (λ (o : Option (List ℕ)). StopsAt (recovered_options profile chunk) extras history o (Some text) stop it.written) none
          (subst (λ (o : Option (List ℕ)). StopsAt (recovered_options profile chunk) extras history live.held o stop it.written) held (it.stops bytes told profile extras history repaired));
    }

output_holds : (chunk : ℕ) (source back : SourceState) (live stored : LiveState) (answer : Result Recovered RecoverRefused) (bytes out : List ℕ) (all now : Names) (result : Result Unit Failed) → Recovers chunk source back live stored answer
    → source.left ≡ Some bytes → live.held ≡ Some [] → ((text : List ℕ) → stored.held ≡ Some text → PlacedUnder all now out text result) → RecoveryOutputHolds chunk bytes back.left answer (went_well result) (all out) (now out)
output_holds chunk source back live stored (Ok r) bytes out all now result it told none placed = record {
  magic = it.magic bytes told;
  tops = it.tops;
  halt = it.halt;
  halts = it.halts.halts bytes told;
  told = it.told;
  profile = it.profile;
  extras = it.extras;
  history = it.history;
  repairs = it.repairs;
  messages = it.messages;
  records = it.records;
  extras_are = it.extras_are;
  within = it.within;
  placed = placed_so (file_of (recovered_options it.profile chunk) it.extras it.history) all now out result (placed (file_of (recovered_options it.profile chunk) it.extras it.history) (it.file [] none));
}
output_holds chunk source back live stored (Err refusals.NoMagic) bytes out all now result it told none placed = (it.0 bytes told, placed_so [] all now out result (placed [] (ap (λ (l : LiveState). l.held) it.2 ∙ none)))
output_holds chunk source back live stored (Err (refusals.Refused why)) bytes out all now result it told none placed =
    holds_ripe chunk source back live stored why bytes out all now result it told none placed
output_holds chunk source back live stored (Err (refusals.Stopped stop)) bytes out all now result it told none placed =
    holds_stopped chunk source back live stored stop bytes out all now result it told none placed

-- ---- both were given

-- where the recovery failed, the source did or the store
fault_shows : (input : List ℕ) (chunk : ℕ) (source back : SourceState) (live stored : LiveState) (answer : Result Recovered RecoverRefused) (first second : Bool) → Recovers chunk source back live stored answer
    → source.faults ≡ 0 → live.faults ≡ 0 → (ending_of_recovery input (recovery_of answer)).fails ≡ true → (failed_so first back.faults ≡ true) ⊎ (failed_so second stored.faults ≡ true)
fault_shows input chunk source back live stored (Ok r) first second it unused new e = absurd cc
fault_shows input chunk source back live stored (Err refusals.NoMagic) first second it unused new e = absurd cc
fault_shows input chunk source back live stored (Err (refusals.Refused why)) first second it unused new e = unread why it e
  where
    unread : (w : ReadingRefused) → IsUnrecovered chunk source back live stored w → (unread_ending w).fails ≡ true → (failed_so first back.faults ≡ true) ⊎ (failed_so second stored.faults ≡ true)
    unread (scans.Fault faults) off is = inl (failed_often first back.faults (λ none. let rises = off.broken.rises in let once = rises.once in omega (arith, once, none, unused)))
    unread (scans.Grammar offset rule) off is = absurd off.broken
    unread (scans.Compressed offset name) off is = absurd off.broken
    unread (scans.Limit offset) off is = absurd off.broken
    unread scans.Memory lacking is = absurd cc
fault_shows input chunk source back live stored (Err (refusals.Stopped stop)) first second it unused new e = unwritten stop it.store e
  where
    unwritten : (s : Stop) → StopCause live.faults stored.faults s → (stopped_ending s).fails ≡ true → (failed_so first back.faults ≡ true) ⊎ (failed_so second stored.faults ≡ true)
    unwritten (stops.Fault faults) (rises, carried) is = inr (failed_often second stored.faults (λ none. let once = rises.once in omega (arith, once, none, new)))
    unwritten (stops.Limit blocks bytes) still is = absurd cc
    unwritten stops.Memory still is = absurd cc

pub both_recovered : (chunk : ℕ) (input out : List ℕ) (w0 w1 w2 w3 w4 : WorldState) (source back : SourceState) (live stored : LiveState) (source_kept live_kept : Result Unit Failed) (answer : Result Recovered RecoverRefused)
    → BothGiven input out w0 w1 w2 w3 w4 source back live stored source_kept live_kept → Recovers chunk source back live stored answer
    → NamesRecovered chunk input out w0 w4 (record { recovery = recovery_of answer; input_failed = failed_so (went_well source_kept) back.faults; out_failed = failed_so (went_well live_kept) stored.faults })
both_recovered chunk input out w0 w1 w2 w3 w4 source back live stored source_kept live_kept answer b it =
    let reached : BothReached chunk input out w0 w4 (both_entries input out w0 w1 w2 w3 w4 source back live stored source_kept live_kept b) answer = record {
      source = source;
      back = back;
      source_kept = went_well source_kept;
      live = live;
      stored = stored;
      live_kept = went_well live_kept;
      recovers = it;
      tells = b.tells;
      unused = b.unused;
      live_unused = b.new;
      file = λ told now bytes here here_now there.
          output_holds chunk source back live stored answer bytes out told.names now.names live_kept it ((b.tells told here).0 ∙ there)
          (nothing_yet input out w0 w1 w2 w3 w4 source back live stored source_kept live_kept b told here)
          (both_placed input out w0 w1 w2 w3 w4 source back live stored source_kept live_kept b told now here here_now).placed;
      kept_are = refl;
    } in
    record {
      entries = both_entries input out w0 w1 w2 w3 w4 source back live stored source_kept live_kept b;
      comes = inr (answer, refl, reached);
      ends = ends_so input out w0 w4 (both_entries input out w0 w1 w2 w3 w4 source back live stored source_kept live_kept b) (failed_so (went_well source_kept) back.faults) (failed_so (went_well live_kept) stored.faults) (recovery_of answer)
          (both_kept input out w0 w1 w2 w3 w4 source back live stored source_kept live_kept b)
          (fault_shows input chunk source back live stored answer (went_well source_kept) (went_well live_kept) it b.unused b.new);
    }

-- ---- not both were given

unmade_sure : (input : List ℕ) (failed other : Bool) → (ending_of_recovery input (unopened_recovery failed)).fails ≡ true → (failed ≡ true) ⊎ (other ≡ true)
unmade_sure input true other e = inl refl
unmade_sure input false other e = absurd cc

refusal_first : (input : List ℕ) (failed : Bool) → RefusesRecovery (no_entries input failed) (unopened_recovery failed)
refusal_first input true = inl (refl, refl)
refusal_first input false = refl

pub none_recovered : (chunk : ℕ) (input out : List ℕ) (old new : WorldState) (failed : Bool) → NotGiven input out old new (no_entries input failed) failed false
    → NamesRecovered chunk input out old new (record { recovery = unopened_recovery failed; input_failed = failed; out_failed = false })
none_recovered chunk input out old new failed it = record {
  entries = no_entries input failed;
  comes = inl (refusal_first input failed, it.unreached);
  ends = ends_so input out old new (no_entries input failed) failed false (unopened_recovery failed) it.names (unmade_sure input failed false);
}

refusal_second : (input out : List ℕ) (source : SourceState) (result : Result Unit Failed) (failed : Bool) → RefusesRecovery (alone_entries input out source result failed) (unopened_recovery failed)
refusal_second input out source result true = (refl, refl)
refusal_second input out source result false = inr (refl, refl)

swapped : {A B : Type 0} → A ⊎ B → B ⊎ A
swapped (inl a) = inr a
swapped (inr b) = inl b

pub alone_recovered : (chunk : ℕ) (input out : List ℕ) (old new : WorldState) (source : SourceState) (result : Result Unit Failed) (input_failed failed : Bool) → NotGiven input out old new (alone_entries input out source result failed) input_failed failed
    → NamesRecovered chunk input out old new (record { recovery = unopened_recovery failed; input_failed = input_failed; out_failed = failed })
alone_recovered chunk input out old new source result input_failed failed it = record {
  entries = alone_entries input out source result failed;
  comes = inl (refusal_second input out source result failed, it.unreached);
  ends = ends_so input out old new (alone_entries input out source result failed) input_failed failed (unopened_recovery failed) it.names (λ e. swapped (unmade_sure input failed input_failed e));
}

-- ---- the bytes decide

-- a refused opening failed, or memory lacked for it
refusal_decides : (input bytes : List ℕ) (entries : List Opening) (recovery : Recovery) (status : Status) → RefusesRecovery entries recovery → ((ending_of_recovery input recovery).fails ≡ true → ⊥) → (recovery ≡ recoveries.Refused lacks → status ≡ statuses.Memory) → RecoveryDecides bytes recovery status
refusal_decides input bytes [] recovery status is other five = subst (λ (r : Recovery). RecoveryDecides bytes r status) (sym is) (five is)
refusal_decides input bytes (entry ∷ []) recovery status (inl is) other five = absurd (other (ap (λ (r : Recovery). (ending_of_recovery input r).fails) is.1))
refusal_decides input bytes (entry ∷ []) recovery status (inr is) other five = subst (λ (r : Recovery). RecoveryDecides bytes r status) (sym is.1) (five is.1)
refusal_decides input bytes (entry ∷ next ∷ more) recovery status is other five = absurd (other (ap (λ (r : Recovery). (ending_of_recovery input r).fails) is.1))

reached_decides : (chunk : ℕ) (input out bytes : List ℕ) (old new : WorldState) (entries : List Opening) (answer : Result Recovered RecoverRefused) (told : Told) (status : Status) → BothReached chunk input out old new entries answer → old.told ≡ Some told → told.names input ≡ Some bytes
    → ((ending_of_recovery input (recovery_of answer)).fails ≡ true → ⊥) → status ≡ writing_status (ending_of_recovery input (recovery_of answer)) → RecoveryDecides bytes (recovery_of answer) status
reached_decides chunk input out bytes old new entries (Ok r) told status it here there other is = (it.recovers.magic bytes ((it.tells told here).0 ∙ there), is)
reached_decides chunk input out bytes old new entries (Err refusals.NoMagic) told status it here there other is = (it.recovers.0 bytes ((it.tells told here).0 ∙ there), is)
reached_decides chunk input out bytes old new entries (Err (refusals.Refused why)) told status it here there other is = unread why it.recovers other is
  where
    unread : (w : ReadingRefused) → IsUnrecovered chunk it.source it.back it.live it.stored w → ((unread_ending w).fails ≡ true → ⊥) → status ≡ writing_status (unread_ending w) → ReadingDecides w status
    unread (scans.Fault faults) failed others same = absurd (others refl)
    unread (scans.Grammar offset rule) off others same = absurd off.broken
    unread (scans.Compressed offset name) off others same = absurd off.broken
    unread (scans.Limit offset) off others same = absurd off.broken
    unread scans.Memory lacking others same = same
reached_decides chunk input out bytes old new entries (Err (refusals.Stopped stop)) told status it here there other is = unwritten stop other is
  where
    unwritten : (s : Stop) → ((stopped_ending s).fails ≡ true → ⊥) → status ≡ writing_status (stopped_ending s) → RecoveryStopDecides bytes s status
    unwritten (stops.Fault faults) others same = absurd (others refl)
    unwritten (stops.Limit blocks written) others same = (it.recovers.magic bytes ((it.tells told here).0 ∙ there), same)
    unwritten stops.Memory others same = same

decides : (chunk : ℕ) (input out bytes : List ℕ) (old new : WorldState) (entries : List Opening) (recovery : Recovery) (told : Told) (status : Status) → IsRecovery chunk input out old new entries recovery → old.told ≡ Some told → told.names input ≡ Some bytes
    → ((ending_of_recovery input recovery).fails ≡ true → ⊥) → status ≡ writing_status (ending_of_recovery input recovery) → RecoveryDecides bytes recovery status
decides chunk input out bytes old new entries recovery told status (inl none) here there other is =
    refusal_decides input bytes entries recovery status none.0 other (λ memory. is ∙ ap (λ (r : Recovery). writing_status (ending_of_recovery input r)) memory)
decides chunk input out bytes old new entries recovery told status (inr (answer, same, reached)) here there other is =
    subst (λ (r : Recovery). RecoveryDecides bytes r status) (sym same)
    (reached_decides chunk input out bytes old new entries answer told status reached here there (λ e. other (ap (λ (r : Recovery). (ending_of_recovery input r).fails) same ∙ e)) (is ∙ ap (λ (r : Recovery). writing_status (ending_of_recovery input r)) same))

-- ---- the command

-- all that is promised of it
pub recovered : (chunk : ℕ) (input out : List ℕ) (old new : Scene) (restored : Restored) (answer : Status) → (names : NamesRecovered chunk input out old.world new.world restored)
    → WritesOutput (both_names input out) old new names.entries (λ some. ending_of_recovery input restored.recovery) answer → RecoversFile chunk input out old new answer
recovered chunk input out old new restored answer names writes = record {
  entries = names.entries;
  recovery = restored.recovery;
  comes = names.comes;
  ran = writes.ran;
  decided = λ told bytes here there quiet.
      let (unnamed, other, is) = writes.ran.calm quiet in
      decides chunk input out bytes old.world new.world names.entries restored.recovery told answer names.comes here there other is;
}

-- a recovery of which all was done was made
done_made : (input : List ℕ) (recovery : Recovery) → IsWritingDone (ending_of_recovery input recovery) → (r : Recovered) × (recovery ≡ recoveries.Made r)
done_made input recoveries.Unopened done = absurd (let fails = done.well in cc)
done_made input (recoveries.Made r) done = (r, refl)
done_made input (recoveries.Refused refusals.NoMagic) done = absurd (let read = done.read in cc)
done_made input (recoveries.Refused (refusals.Refused why)) done = absurd (unread why done)
  where
    unread : (w : ReadingRefused) → IsWritingDone (unread_ending w) → ⊥
    unread (scans.Fault faults) it = let fails = it.well in cc
    unread (scans.Grammar offset rule) it = let fails = it.well in cc
    unread (scans.Compressed offset name) it = let fails = it.well in cc
    unread (scans.Limit offset) it = let fails = it.well in cc
    unread scans.Memory it = let lacks_some = it.memory in cc
done_made input (recoveries.Refused (refusals.Stopped stop)) done = absurd (unwritten stop done)
  where
    unwritten : (s : Stop) → IsWritingDone (stopped_ending s) → ⊥
    unwritten (stops.Fault faults) it = let fails = it.well in cc
    unwritten (stops.Limit blocks bytes) it = let passes = it.within in cc
    unwritten stops.Memory it = let lacks_some = it.memory in cc

-- where all was done no name failed, a recovery was made, and all of its line was taken
pub record WasRecovered (old new : Scene) (entries : List Opening) (recovery : Recovery) : Type 0 where
  pub unfailed : failed_names entries ≡ []
  pub recovered : Recovered
  pub is : recovery ≡ recoveries.Made recovered
  pub line : TellsAll old.out new.out (recovered_line recovered)

pub was_recovered : (chunk : ℕ) (input out : List ℕ) (old new : Scene) (it : RecoversFile chunk input out old new statuses.Done) → WasRecovered old new it.entries it.recovery
was_recovered chunk input out old new it =
    let (none, done, taken) = it.ran.whole refl in
    let (r, is) = done_made input it.recovery done in
    record {
      unfailed = none;
      recovered = r;
      is = is;
      line = subst (λ (x : Recovery). TellsAll old.out new.out (ending_of_recovery input x).text) is taken;
    }

-- ---- the line

cons_some : (x : ℕ) (xs : List ℕ) → x ∷ xs ≡ [] → ⊥
cons_some x xs e = absurd cc

-- it isn't empty
line_is_said : (r : Recovered) → recovered_line r ≡ [] → ⊥
unfolding recovered_line number_after_name
line_is_said r e = cons_some _ _ e

-- what a sink took of a line in one go
pub wrote : (before now : SinkState) (line : List ℕ) (result : Result Unit Short) → WritesAll before now line result → Tells before now line
wrote before now line (Ok it) all = inl (record { still = all.0; adds = all.1 })
wrote before now line (Err short) part = inr (record { rises = part.0; adds = λ start is. let took = part.2 start is in (took.0, omega arith, took.2, took.3) })

-- what was printed of a recovery that was made
pub takes_line : (before now : SinkState) (input line : List ℕ) (result : Result Unit Short) (recovery : Recovery) (r : Recovered) → recovery ≡ recoveries.Made r → line ≡ recovered_line r → WritesAll before now line result → Takes before now (ending_of_recovery input recovery).text
takes_line before now input line result recovery r is line_is written =
    subst (λ (x : Recovery). Takes before now (ending_of_recovery input x).text) (sym is)
    (record { tells = subst (λ (l : List ℕ). Tells before now l) line_is (wrote before now line result written); silent = λ none. absurd (line_is_said r none) })
