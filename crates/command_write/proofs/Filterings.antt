-- What the opening, the filtering and the keeping of both names come to, and what is promised of the command.
use Rattle.std.proofs.Common.{◌≡◌, ◌⊎◌, ℕ, Bool, true, false, ◌||◌, List, [], ◌∷◌, Option, Some, Result, Ok, Err, refl, sym, ap, subst, inl, inr, ◌∙◌, arith}
use Rattle.std.proofs.lemmas.Option.{same_Some}
use Rattle.mcap_io.specs.Outside.{Told, Opening, Names, SourceState, LiveState, SinkState, WorldState}
use Rattle.mcap_io.specs.OutsideCalls.{went_well, PlacedUnder, WritesAll}
use Rattle.mcap_io.specs.declared.outside.Short.{Short}
use Rattle.mcap_io.specs.declared.outside.Failed.{Failed}
use Rattle.mcap_model.specs.declared.ends.Stop.{Stop}
use Rattle.mcap_model.specs.declared.ends.Stop.TheVariants as stops
use Rattle.mcap_model.specs.declared.refusals.ReadingRefused.{ReadingRefused}
use Rattle.mcap_model.specs.declared.refusals.ReadingRefused.TheVariants as scans
use Rattle.mcap_model.specs.Tops.{Top}
use Rattle.mcap_model.specs.Rules.{V1}
use Rattle.mcap_model.specs.File.{file_of, IsPrefix}
use Rattle.chunk_writer.specs.Stops.{StopsAt, StopCause}
use Rattle.record_keeping.specs.NewFiles.{recovered_options, LeftAfter, IsUnbegun, AreRipe}
use Rattle.record_keeping.proofs.Ripe.{unbegun_told, cut_told}
use Rattle.mcap_filter.specs.declared.answers.Picked.{Picked}
use Rattle.mcap_filter.specs.declared.answers.PickRefused.{PickRefused}
use Rattle.mcap_filter.specs.declared.answers.PickRefused.TheVariants as refusals
use Rattle.mcap_filter.specs.Picked.{filtered}
use Rattle.mcap_filter.specs.Filtering.{UnreadCause, RefusalLeaves, filtered_making, HasEnded, EndedBytes, IsUnread, IsUnfiled, Filters}
use Rattle.command_base.specs.Printing.{TellsAll, Tells, Takes}
use Rattle.command_base.specs.declared.statuses.Status.{Status}
use Rattle.command_base.specs.declared.statuses.Status.TheVariants as statuses
use Rattle.command_base.specs.Texts.{grammar, compressed, limit}
use Rattle.command_base.specs.OneFile.{refusal_ending}
use Rattle.command_base.specs.Ran.{Scene, failed_so, failed_names}
use Rattle.command_base.specs.Endings.{writing_status, IsWritingDone}
use Rattle.command_base.specs.OutputSteps.{HaltsByInput, NamesEnd}
use Rattle.command_base.specs.Outputs.{WritesOutput}
use Rattle.command_base.proofs.Counting.{failed_often}
use Rattle.command_base.proofs.Endings.{halts_well, none_halts_well}
use Rattle.command_write.specs.declared.filtering.Filtering.{Filtering}
use Rattle.command_write.specs.declared.filtering.Filtering.TheVariants as filterings
use Rattle.command_write.specs.declared.filtering.Sifted.{Sifted}
use Rattle.command_write.specs.Recover.{number_after_name, both_names}
use Rattle.command_write.specs.Merge.{ending_at, stop_ending}
use Rattle.command_write.specs.Filter.{FilterRequest, HoldsUnread, HoldsUnfiled, FilterOutputHolds, BothFiltered, filter_lacks, RefusesFiltering, filtering_of, IsFiltering, ending_of_filtering, filtered_line, UnreadDecides, FilterStopDecides, FilterDecides, FiltersFile}
use Rattle.command_write.specs.FilterSteps.{unopened_filtering, NamesFiltered}
use Rattle.command_write.proofs.Names.{BothKept, as_names, NotGiven, no_entries, alone_entries, BothGiven, both_entries, both_placed, nothing_yet, both_kept}
use Rattle.command_write.proofs.Recoveries.{placed_so, wrote}

-- ---- endings

-- only an input that isn't read to its Data End halts
well : (input : List ℕ) (filtering : Filtering) → HaltsByInput (input ∷ []) (ending_of_filtering input filtering)
well input filterings.Unopened = none_halts_well (input ∷ []) _ refl
well input (filterings.Made p) = none_halts_well (input ∷ []) _ refl
well input (filterings.Refused (refusals.Refused (scans.Fault faults))) = none_halts_well (input ∷ []) _ refl
well input (filterings.Refused (refusals.Refused (scans.Grammar offset rule))) = halts_well (input ∷ []) 0 (grammar input offset) (omega arith) (inl refl)
well input (filterings.Refused (refusals.Refused (scans.Compressed offset name))) = halts_well (input ∷ []) 0 (compressed input name offset) (omega arith) (inl refl)
well input (filterings.Refused (refusals.Refused (scans.Limit offset))) = halts_well (input ∷ []) 0 (limit input offset) (omega arith) (inr refl)
well input (filterings.Refused (refusals.Refused scans.Memory)) = none_halts_well (input ∷ []) _ refl
well input (filterings.Refused (refusals.Stopped (stops.Fault faults))) = none_halts_well (input ∷ []) _ refl
well input (filterings.Refused (refusals.Stopped (stops.Limit blocks bytes))) = none_halts_well (input ∷ []) _ refl
well input (filterings.Refused (refusals.Stopped stops.Memory)) = none_halts_well (input ∷ []) _ refl

-- how both names end, where a failure of one is told where the filtering failed
ends_so : (input out : List ℕ) (old new : WorldState) (entries : List Opening) (input_failed out_failed : Bool) (filtering : Filtering) → BothKept input out old new entries input_failed out_failed
    → ((ending_of_filtering input filtering).fails ≡ true → (input_failed ≡ true) ⊎ (out_failed ≡ true)) → NamesEnd (both_names input out) old new entries (input_failed ∷ []) out_failed (λ some. ending_of_filtering input filtering)
ends_so input out old new entries input_failed out_failed filtering names sure = record {
  names = as_names input out old new entries input_failed out_failed names;
  well = λ some. well input filtering;
  sure = λ some e. elim (sure e) [ inl is ↦ inl (either input_failed is) | inr is ↦ inr (inl is) ];
}
  where
    either : (failed : Bool) → failed ≡ true → (failed || false) ≡ true
    either true is = refl
    either false is = absurd cc

-- ---- what the output holds

leaves_so : (why : ReadingRefused) (before now : SourceState) (tops : List Top) (bytes : List ℕ) → UnreadCause why before now tops → before.left ≡ Some bytes → RefusalLeaves why bytes tops now.left
leaves_so (scans.Fault faults) before now tops bytes it told = it.leaves bytes told
leaves_so (scans.Grammar offset rule) before now tops bytes it told = (it.halts bytes told, it.leaves bytes told)
leaves_so (scans.Compressed offset name) before now tops bytes it told = (it.halts bytes told, it.leaves bytes told)
leaves_so (scans.Limit offset) before now tops bytes it told = (it.halts bytes told, it.leaves bytes told)
leaves_so scans.Memory before now tops bytes it told = it.leaves bytes told

-- what the store holds of records after which a reading was refused
record HasRipe (asked : FilterRequest) (bytes : List ℕ) (left : Option (List ℕ)) (why : ReadingRefused) (tops : List Top) (held : Option (List ℕ)) : Type 0 where
  text : List ℕ
  is : held ≡ Some text
  keeps : (IsUnbegun why (LeftAfter bytes left) tops × (text ≡ [])) ⊎ (V1 bytes × AreRipe (filtered_making asked.asking asked.chunk) tops text)

has_ripe : (asked : FilterRequest) (source back : SourceState) (live stored : LiveState) (why : ReadingRefused) (bytes : List ℕ) → source.left ≡ Some bytes → live.held ≡ Some [] → (it : IsUnread asked.asking asked.chunk source back live stored why) → HasRipe asked bytes back.left why it.tops stored.held
has_ripe asked source back live stored why bytes told none it = elim it.keeps [
  | inl (few, same) ↦ record { text = []; is = ap (λ (s : LiveState). s.held) same ∙ none; keeps = inl (unbegun_told why source back it.tops bytes told few, refl) }
  | inr (magic, ripe) ↦ record { text = ripe.text; is = ripe.adds [] none; keeps = inr (magic bytes told, ripe.ripe) }
]

holds_unread : (asked : FilterRequest) (source back : SourceState) (live stored : LiveState) (why : ReadingRefused) (bytes out : List ℕ) (all now : Names) (result : Result Unit Failed) → IsUnread asked.asking asked.chunk source back live stored why
    → source.left ≡ Some bytes → live.held ≡ Some [] → ((text : List ℕ) → stored.held ≡ Some text → PlacedUnder all now out text result) → HoldsUnread asked bytes back.left why (went_well result) (all out) (now out)
holds_unread asked source back live stored why bytes out all now result it told none placed =
    let has = has_ripe asked source back live stored why bytes told none it in
    record {
      tops = it.tops;
      good = it.good;
      broken = leaves_so why source back it.tops bytes it.broken told;
      text = has.text;
      keeps = has.keeps;
      placed = placed_so has.text all now out result (placed has.text has.is);
      part = λ profile extras history repaired.
          let other = it.part bytes told profile extras history repaired [] none in
          subst (λ (l : List ℕ). IsPrefix l (file_of (recovered_options profile asked.chunk) extras (filtered asked.asking history))) (same_Some other.0 has.text (sym other.1 ∙ has.is)) other.2;
    }

-- what stands of a file at whose piece the writer stopped
holds_unfiled : (asked : FilterRequest) (source back : SourceState) (live stored : LiveState) (stop : Stop) (bytes out : List ℕ) (all now : Names) (result : Result Unit Failed) → IsUnfiled asked.asking asked.chunk source back live stored stop
    → source.left ≡ Some bytes → live.held ≡ Some [] → ((text : List ℕ) → stored.held ≡ Some text → PlacedUnder all now out text result) → HoldsUnfiled asked bytes back.left stop (went_well result) (all out) (now out)
holds_unfiled asked source back live stored stop bytes out all now result it told none placed =
    let cut = it.cut in
    let (text, held, begins) = cut.ripe [] none in
    let told_cut = cut_told (filtered_making asked.asking asked.chunk) (HasEnded source back) (EndedBytes bytes back.left) source back live.held stored.held stop it.written bytes text told none held
    (λ tops ended. (ended.0, ended.1.halts bytes told, ended.1.leaves bytes told)) cut in
    record {
      magic = it.magic bytes told;
      text = text;
      placed = placed_so text all now out result (placed text held);
      written = it.written;
      cut = told_cut;
      stops = λ profile extras history repaired.
          subst (λ (o : Option (List ℕ)). StopsAt (recovered_options profile asked.chunk) extras (filtered asked.asking history) o (Some text) stop it.written) none
          (subst (λ (o : Option (List ℕ)). StopsAt (recovered_options profile asked.chunk) extras (filtered asked.asking history) live.held o stop it.written) held (it.stops bytes told profile extras history repaired));
    }

output_holds : (asked : FilterRequest) (source back : SourceState) (live stored : LiveState) (answer : Result Picked PickRefused) (bytes out : List ℕ) (all now : Names) (result : Result Unit Failed) → Filters asked.asking asked.chunk source back live stored answer
    → source.left ≡ Some bytes → live.held ≡ Some [] → ((text : List ℕ) → stored.held ≡ Some text → PlacedUnder all now out text result) → FilterOutputHolds asked bytes back.left answer (went_well result) (all out) (now out)
output_holds asked source back live stored (Ok p) bytes out all now result it told none placed = record {
  tops = it.tops;
  end = it.end;
  halts = it.halts.halts bytes told;
  profile = it.profile;
  extras = it.extras;
  history = it.history;
  repairs = it.repairs;
  messages = it.messages;
  records = it.records;
  within = it.within;
  placed = placed_so (file_of (recovered_options it.profile asked.chunk) it.extras (filtered asked.asking it.history)) all now out result (placed (file_of (recovered_options it.profile asked.chunk) it.extras (filtered asked.asking it.history)) (it.file [] none));
}
output_holds asked source back live stored (Err (refusals.Refused why)) bytes out all now result it told none placed =
    holds_unread asked source back live stored why bytes out all now result it told none placed
output_holds asked source back live stored (Err (refusals.Stopped stop)) bytes out all now result it told none placed =
    holds_unfiled asked source back live stored stop bytes out all now result it told none placed

-- ---- both were given

-- where the filtering failed, the source did or the store
fault_shows : (input : List ℕ) (asked : FilterRequest) (source back : SourceState) (live stored : LiveState) (answer : Result Picked PickRefused) (first second : Bool) → Filters asked.asking asked.chunk source back live stored answer
    → source.faults ≡ 0 → live.faults ≡ 0 → (ending_of_filtering input (filtering_of answer)).fails ≡ true → (failed_so first back.faults ≡ true) ⊎ (failed_so second stored.faults ≡ true)
fault_shows input asked source back live stored (Ok p) first second it unused new e = absurd cc
fault_shows input asked source back live stored (Err (refusals.Refused why)) first second it unused new e = unread why it.broken e
  where
    unread : (w : ReadingRefused) → UnreadCause w source back it.tops → (ending_at 0 (refusal_ending input w)).fails ≡ true → (failed_so first back.faults ≡ true) ⊎ (failed_so second stored.faults ≡ true)
    unread (scans.Fault faults) off is = inl (failed_often first back.faults (λ none. let rises = off.rises in let once = rises.once in omega (arith, once, none, unused)))
    unread (scans.Grammar offset rule) halted is = absurd cc
    unread (scans.Compressed offset name) halted is = absurd cc
    unread (scans.Limit offset) halted is = absurd cc
    unread scans.Memory lacking is = absurd cc
fault_shows input asked source back live stored (Err (refusals.Stopped stop)) first second it unused new e = unwritten stop it.store e
  where
    unwritten : (s : Stop) → StopCause live.faults stored.faults s → (stop_ending s).fails ≡ true → (failed_so first back.faults ≡ true) ⊎ (failed_so second stored.faults ≡ true)
    unwritten (stops.Fault faults) (rises, carried) is = inr (failed_often second stored.faults (λ none. let once = rises.once in omega (arith, once, none, new)))
    unwritten (stops.Limit blocks bytes) still is = absurd cc
    unwritten stops.Memory still is = absurd cc

pub both_filtered : (asked : FilterRequest) (input out : List ℕ) (w0 w1 w2 w3 w4 : WorldState) (source back : SourceState) (live stored : LiveState) (source_kept live_kept : Result Unit Failed) (answer : Result Picked PickRefused)
    → BothGiven input out w0 w1 w2 w3 w4 source back live stored source_kept live_kept → Filters asked.asking asked.chunk source back live stored answer
    → NamesFiltered asked input out w0 w4 (record { filtering = filtering_of answer; input_failed = failed_so (went_well source_kept) back.faults; out_failed = failed_so (went_well live_kept) stored.faults })
both_filtered asked input out w0 w1 w2 w3 w4 source back live stored source_kept live_kept answer b it =
    let reached : BothFiltered asked input out w0 w4 (both_entries input out w0 w1 w2 w3 w4 source back live stored source_kept live_kept b) answer = record {
      source = source;
      back = back;
      source_kept = went_well source_kept;
      live = live;
      stored = stored;
      live_kept = went_well live_kept;
      filters = it;
      tells = b.tells;
      unused = b.unused;
      live_unused = b.new;
      file = λ told now bytes here here_now there.
          output_holds asked source back live stored answer bytes out told.names now.names live_kept it ((b.tells told here).0 ∙ there)
          (nothing_yet input out w0 w1 w2 w3 w4 source back live stored source_kept live_kept b told here)
          (both_placed input out w0 w1 w2 w3 w4 source back live stored source_kept live_kept b told now here here_now).placed;
      kept_are = refl;
    } in
    record {
      entries = both_entries input out w0 w1 w2 w3 w4 source back live stored source_kept live_kept b;
      comes = inr (answer, refl, reached);
      ends = ends_so input out w0 w4 (both_entries input out w0 w1 w2 w3 w4 source back live stored source_kept live_kept b) (failed_so (went_well source_kept) back.faults) (failed_so (went_well live_kept) stored.faults) (filtering_of answer)
          (both_kept input out w0 w1 w2 w3 w4 source back live stored source_kept live_kept b)
          (fault_shows input asked source back live stored answer (went_well source_kept) (went_well live_kept) it b.unused b.new);
    }

-- ---- not both were given

unmade_sure : (input : List ℕ) (failed other : Bool) → (ending_of_filtering input (unopened_filtering failed)).fails ≡ true → (failed ≡ true) ⊎ (other ≡ true)
unmade_sure input true other e = inl refl
unmade_sure input false other e = absurd cc

refusal_first : (input : List ℕ) (failed : Bool) → RefusesFiltering (no_entries input failed) (unopened_filtering failed)
refusal_first input true = inl (refl, refl)
refusal_first input false = refl

pub none_filtered : (asked : FilterRequest) (input out : List ℕ) (old new : WorldState) (failed : Bool) → NotGiven input out old new (no_entries input failed) failed false
    → NamesFiltered asked input out old new (record { filtering = unopened_filtering failed; input_failed = failed; out_failed = false })
none_filtered asked input out old new failed it = record {
  entries = no_entries input failed;
  comes = inl (refusal_first input failed, it.unreached);
  ends = ends_so input out old new (no_entries input failed) failed false (unopened_filtering failed) it.names (unmade_sure input failed false);
}

refusal_second : (input out : List ℕ) (source : SourceState) (result : Result Unit Failed) (failed : Bool) → RefusesFiltering (alone_entries input out source result failed) (unopened_filtering failed)
refusal_second input out source result true = (refl, refl)
refusal_second input out source result false = inr (refl, refl)

swapped : {A B : Type 0} → A ⊎ B → B ⊎ A
swapped (inl a) = inr a
swapped (inr b) = inl b

pub alone_filtered : (asked : FilterRequest) (input out : List ℕ) (old new : WorldState) (source : SourceState) (result : Result Unit Failed) (input_failed failed : Bool) → NotGiven input out old new (alone_entries input out source result failed) input_failed failed
    → NamesFiltered asked input out old new (record { filtering = unopened_filtering failed; input_failed = input_failed; out_failed = failed })
alone_filtered asked input out old new source result input_failed failed it = record {
  entries = alone_entries input out source result failed;
  comes = inl (refusal_second input out source result failed, it.unreached);
  ends = ends_so input out old new (alone_entries input out source result failed) input_failed failed (unopened_filtering failed) it.names (λ e. swapped (unmade_sure input failed input_failed e));
}

-- ---- the bytes decide

-- a refused opening failed, or memory lacked for it
refusal_decides : (input bytes : List ℕ) (entries : List Opening) (filtering : Filtering) (status : Status) → RefusesFiltering entries filtering → ((ending_of_filtering input filtering).fails ≡ true → ⊥) → (filtering ≡ filter_lacks → status ≡ statuses.Memory) → FilterDecides bytes filtering status
refusal_decides input bytes [] filtering status is other five = subst (λ (r : Filtering). FilterDecides bytes r status) (sym is) (five is)
refusal_decides input bytes (entry ∷ []) filtering status (inl is) other five = absurd (other (ap (λ (r : Filtering). (ending_of_filtering input r).fails) is.1))
refusal_decides input bytes (entry ∷ []) filtering status (inr is) other five = subst (λ (r : Filtering). FilterDecides bytes r status) (sym is.1) (five is.1)
refusal_decides input bytes (entry ∷ next ∷ more) filtering status is other five = absurd (other (ap (λ (r : Filtering). (ending_of_filtering input r).fails) is.1))

reached_decides : (asked : FilterRequest) (input out bytes : List ℕ) (old new : WorldState) (entries : List Opening) (answer : Result Picked PickRefused) (told : Told) (status : Status) → BothFiltered asked input out old new entries answer → old.told ≡ Some told → told.names input ≡ Some bytes
    → ((ending_of_filtering input (filtering_of answer)).fails ≡ true → ⊥) → status ≡ writing_status (ending_of_filtering input (filtering_of answer)) → FilterDecides bytes (filtering_of answer) status
reached_decides asked input out bytes old new entries (Ok p) told status it here there other is =
    let filters = it.filters in
    ((filters.tops, filters.end, filters.halts.halts bytes ((it.tells told here).0 ∙ there)), is)
reached_decides asked input out bytes old new entries (Err (refusals.Refused why)) told status it here there other is = unread why all.broken other is
  where
    left : it.source.left ≡ Some bytes
    left = (it.tells told here).0 ∙ there

    all : IsUnread asked.asking asked.chunk it.source it.back it.live it.stored why
    all = it.filters

    unread : (w : ReadingRefused) → UnreadCause w it.source it.back all.tops → ((ending_at 0 (refusal_ending input w)).fails ≡ true → ⊥) → status ≡ writing_status (ending_at 0 (refusal_ending input w)) → UnreadDecides bytes w status
    unread (scans.Fault faults) failed others same = absurd (others refl)
    unread (scans.Grammar offset rule) halts others same = ((all.tops, halts.halts bytes left), same)
    unread (scans.Compressed offset name) halts others same = ((all.tops, halts.halts bytes left), same)
    unread (scans.Limit offset) halts others same = ((all.tops, halts.halts bytes left), same)
    unread scans.Memory lacking others same = same
reached_decides asked input out bytes old new entries (Err (refusals.Stopped stop)) told status it here there other is = unwritten stop other is
  where
    unwritten : (s : Stop) → ((stop_ending s).fails ≡ true → ⊥) → status ≡ writing_status (stop_ending s) → FilterStopDecides bytes s status
    unwritten (stops.Fault faults) others same = absurd (others refl)
    unwritten (stops.Limit blocks written) others same = (it.filters.magic bytes ((it.tells told here).0 ∙ there), same)
    unwritten stops.Memory others same = same

decides : (asked : FilterRequest) (input out bytes : List ℕ) (old new : WorldState) (entries : List Opening) (filtering : Filtering) (told : Told) (status : Status) → IsFiltering asked input out old new entries filtering → old.told ≡ Some told → told.names input ≡ Some bytes
    → ((ending_of_filtering input filtering).fails ≡ true → ⊥) → status ≡ writing_status (ending_of_filtering input filtering) → FilterDecides bytes filtering status
decides asked input out bytes old new entries filtering told status (inl none) here there other is =
    refusal_decides input bytes entries filtering status none.0 other (λ memory. is ∙ ap (λ (r : Filtering). writing_status (ending_of_filtering input r)) memory)
decides asked input out bytes old new entries filtering told status (inr (answer, same, reached)) here there other is =
    subst (λ (r : Filtering). FilterDecides bytes r status) (sym same)
    (reached_decides asked input out bytes old new entries answer told status reached here there (λ e. other (ap (λ (r : Filtering). (ending_of_filtering input r).fails) same ∙ e)) (is ∙ ap (λ (r : Filtering). writing_status (ending_of_filtering input r)) same))

-- ---- the command

-- all that is promised of it
pub sifted_so : (asked : FilterRequest) (input out : List ℕ) (old new : Scene) (sifted : Sifted) (answer : Status) → (names : NamesFiltered asked input out old.world new.world sifted)
    → WritesOutput (both_names input out) old new names.entries (λ some. ending_of_filtering input sifted.filtering) answer → FiltersFile asked input out old new answer
sifted_so asked input out old new sifted answer names writes = record {
  entries = names.entries;
  filtering = sifted.filtering;
  comes = names.comes;
  ran = writes.ran;
  decided = λ told bytes here there quiet.
      let (unnamed, other, is) = writes.ran.calm quiet in
      decides asked input out bytes old.world new.world names.entries sifted.filtering told answer names.comes here there other is;
}

-- a filtering of which all was done was made
done_made : (input : List ℕ) (filtering : Filtering) → IsWritingDone (ending_of_filtering input filtering) → (p : Picked) × (filtering ≡ filterings.Made p)
done_made input filterings.Unopened done = absurd (let fails = done.well in cc)
done_made input (filterings.Made p) done = (p, refl)
done_made input (filterings.Refused (refusals.Refused (scans.Fault faults))) done = absurd (let fails = done.well in cc)
done_made input (filterings.Refused (refusals.Refused (scans.Grammar offset rule))) done = absurd (let read = done.read in cc)
done_made input (filterings.Refused (refusals.Refused (scans.Compressed offset name))) done = absurd (let read = done.read in cc)
done_made input (filterings.Refused (refusals.Refused (scans.Limit offset))) done = absurd (let read = done.read in cc)
done_made input (filterings.Refused (refusals.Refused scans.Memory)) done = absurd (let lacks_some = done.memory in cc)
done_made input (filterings.Refused (refusals.Stopped (stops.Fault faults))) done = absurd (let fails = done.well in cc)
done_made input (filterings.Refused (refusals.Stopped (stops.Limit blocks bytes))) done = absurd (let passes = done.within in cc)
done_made input (filterings.Refused (refusals.Stopped stops.Memory)) done = absurd (let lacks_some = done.memory in cc)

-- where all was done no name failed, a filtering was made, and all of its line was taken
pub record WasFiltered (old new : Scene) (entries : List Opening) (filtering : Filtering) : Type 0 where
  pub unfailed : failed_names entries ≡ []
  pub picked : Picked
  pub is : filtering ≡ filterings.Made picked
  pub line : TellsAll old.out new.out (filtered_line picked)

pub was_filtered : (asked : FilterRequest) (input out : List ℕ) (old new : Scene) (it : FiltersFile asked input out old new statuses.Done) → WasFiltered old new it.entries it.filtering
was_filtered asked input out old new it =
    let (none, done, taken) = it.ran.whole refl in
    let (p, is) = done_made input it.filtering done in
    record {
      unfailed = none;
      picked = p;
      is = is;
      line = subst (λ (x : Filtering). TellsAll old.out new.out (ending_of_filtering input x).text) is taken;
    }

-- ---- the line

cons_some : (x : ℕ) (xs : List ℕ) → x ∷ xs ≡ [] → ⊥
cons_some x xs e = absurd cc

-- it isn't empty
line_is_said : (p : Picked) → filtered_line p ≡ [] → ⊥
unfolding filtered_line number_after_name
line_is_said p e = cons_some _ _ e

-- what was printed of a filtering that was made
pub takes_line : (before now : SinkState) (input line : List ℕ) (result : Result Unit Short) (filtering : Filtering) (p : Picked) → filtering ≡ filterings.Made p → line ≡ filtered_line p → WritesAll before now line result → Takes before now (ending_of_filtering input filtering).text
takes_line before now input line result filtering p is line_is written =
    subst (λ (x : Filtering). Takes before now (ending_of_filtering input x).text) (sym is)
    (record { tells = subst (λ (l : List ℕ). Tells before now l) line_is (wrote before now line result written); silent = λ none. absurd (line_is_said p none) })
