-- What a filtering left keeps all rules, and is printed.
use Rattle.std.proofs.Common.{◌≡◌, ℕ, Bool, true, false, List, [], ◌∷◌, ◌++◌, Option, Some, None, Result, Ok, Err, refl, sym, ap, subst, inl, inr, ◌∙◌}
use Rattle.std.specs.Prelude.{IsSome}
use Rattle.std.proofs.lemmas.Bool.{both_ways}
use Rattle.mcap_io.specs.Outside.{WorldState, Told, Keeping, Opening}
use Rattle.mcap_io.specs.declared.outside.ObjectKind.TheVariants as kinds
use Rattle.mcap_model.specs.Valid.{IsFullyIndexed}
use Rattle.mcap_model.specs.Laws.{IsValid, CanBeWritten}
use Rattle.mcap_laws.proofs.Scanned.{files_are_scanned}
use Rattle.mcap_laws.proofs.Validity.{files_are_valid, files_are_indexed}
use Rattle.recorder.specs.Laws.{ReadsAs}
use Rattle.mcap_filter.specs.declared.answers.Picked.{Picked}
use Rattle.mcap_filter.specs.declared.answers.PickRefused.{PickRefused}
use Rattle.mcap_filter.specs.Picked.{filtered}
use Rattle.mcap_filter.specs.FilteredHistories.{FilteredHistoriesStand}
use Rattle.command_base.specs.declared.statuses.Status.{Status}
use Rattle.command_base.specs.declared.statuses.Status.TheVariants as statuses
use Rattle.command_base.specs.Printing.{TellsAll}
use Rattle.command_base.specs.Ran.{Scene, counts_in, AnyRose, kept, failed_so, named_when, failed_names}
use Rattle.command_read.specs.Cat.{Cats}
use Rattle.command_write.specs.declared.filtering.Filtering.{Filtering}
use Rattle.command_write.specs.declared.filtering.Filtering.TheVariants as filterings
use Rattle.command_write.specs.Filter.{FilterRequest, HoldsFiltered, BothFiltered, filter_lacks, RefusesFiltering, filtering_of, IsFiltering, filtered_line, FiltersFile}
use Rattle.command_write.proofs.Filterings.{was_filtered}
use Rattle.mcap_app.specs.Laws.{everything, IsChunkSize, AreCounted}
use Rattle.mcap_app.specs.Readable.{PrintsOrLacks}
use Rattle.mcap_app.specs.FilteredFiles.{filtered_file, IsFilteredOf}
use Rattle.mcap_app.specs.FilterRuns.{LeavesFiltered, FiltersAreSound, FiltersArePrinted}
use Rattle.mcap_app.proofs.FilteredMessages as written
use Rattle.mcap_app.proofs.RoundTrip.{file_printed}

-- ---- what it came to

unopened_made : (p : Picked) → filterings.Unopened ≡ filterings.Made p → ⊥
unopened_made p e = absurd cc

lacks_made : (p : Picked) → filter_lacks ≡ filterings.Made p → ⊥
lacks_made p e = absurd cc

refused_made : (entries : List Opening) (filtering : Filtering) (p : Picked) → RefusesFiltering entries filtering → filtering ≡ filterings.Made p → ⊥
refused_made [] filtering p refuses is = lacks_made p (sym refuses ∙ is)
refused_made (entry ∷ []) filtering p (inl refuses) is = unopened_made p (sym refuses.1 ∙ is)
refused_made (entry ∷ []) filtering p (inr refuses) is = lacks_made p (sym refuses.1 ∙ is)
refused_made (entry ∷ other ∷ more) filtering p refuses is = unopened_made p (sym refuses.1 ∙ is)

made_result : (result : Result Picked PickRefused) (p : Picked) → filtering_of result ≡ filterings.Made p → result ≡ Ok p
made_result (Ok q) p e = cc
made_result (Err why) p e = absurd cc

-- both names were given
reached : (asked : FilterRequest) (input out : List ℕ) (old new : WorldState) (entries : List Opening) (filtering : Filtering) (p : Picked) → IsFiltering asked input out old new entries filtering → filtering ≡ filterings.Made p → BothFiltered asked input out old new entries (Ok p)
reached asked input out old new entries filtering p (inl (refusal, unreached)) is = absurd (refused_made entries filtering p refusal is)
reached asked input out old new entries filtering p (inr (result, same, it)) is = subst (BothFiltered asked input out old new entries) (made_result result p (sym same ∙ is)) it

-- ---- both names were kept

some_last : (names : List (List ℕ)) (name : List ℕ) → names ++ name ∷ [] ≡ [] → ⊥
some_last [] name e = absurd cc
some_last (x ∷ xs) name e = absurd cc

well_kept : (input out : List ℕ) (source : Keeping) (well : Bool) (faults : ℕ) → failed_names (kept kinds.Source input source ∷ kept kinds.Live out (record { well = well; faults = faults; left = None; asked = 0 }) ∷ []) ≡ [] → well ≡ true
well_kept input out source true faults none = refl
well_kept input out source false faults none = absurd (some_last (named_when (failed_so source.well source.faults) input) out none)

bytes_of : (found : Option (List ℕ)) → IsSome found → (bytes : List ℕ) × (found ≡ Some bytes)
bytes_of None some = absurd (both_ways false refl some)
bytes_of (Some bytes) some = (bytes, refl)

-- ---- a filtering that was made

-- what was printed, and what stands under the output's name of the bytes under that of the input
record WasMade (asked : FilterRequest) (input out : List ℕ) (old new : Scene) (told : Told) (filtering : Filtering) : Type 0 where
  picked : Picked
  is : filtering ≡ filterings.Made picked
  line : TellsAll old.out new.out (filtered_line picked)
  now : Told
  tells : new.world.told ≡ Some now
  bytes : List ℕ
  there : told.names input ≡ Some bytes
  holds : HoldsFiltered asked bytes picked true (told.names out) (now.names out)

made : (asked : FilterRequest) (input out : List ℕ) (old new : Scene) (told : Told) → (it : FiltersFile asked input out old new statuses.Done) → old.world.told ≡ Some told → WasMade asked input out old new told it.filtering
made asked input out old new told it here =
    let whole = was_filtered asked input out old new it in
    let p = whole.picked in
    let all = reached asked input out old.world new.world it.entries it.filtering p it.comes whole.is in
    let left = it.ran.ran.leaves told here in
    let (bytes, there) = bytes_of (told.names input) (all.tells told here).1 in
    let source : Keeping = record { well = all.source_kept; faults = all.back.faults; left = all.back.left; asked = 0 } in
    let well = well_kept input out source all.live_kept all.stored.faults (ap failed_names (sym all.kept_are) ∙ whole.unfailed) in
    record {
      picked = p;
      is = whole.is;
      line = whole.line;
      now = left.0;
      tells = left.1;
      bytes = bytes;
      there = there;
      holds = subst (λ (b : Bool). HoldsFiltered asked bytes p b (told.names out) (left.0.names out)) well (all.file told left.0 bytes here left.1 there);
    }

-- what is put there is what is filtered of the bytes
file_of_these : (asked : FilterRequest) (bytes : List ℕ) (p : Picked) (before now : Option (List ℕ)) → (holds : HoldsFiltered asked bytes p true before now)
    → IsFilteredOf asked bytes (filtered_file asked holds.profile holds.extras holds.history) p
file_of_these asked bytes p before now holds = record {
  tops = holds.tops;
  end = holds.end;
  halts = holds.halts;
  profile = holds.profile;
  extras = holds.extras;
  history = holds.history;
  repairs = holds.repairs;
  messages = holds.messages;
  records = holds.records;
  file_is = refl;
  within = holds.within;
}

-- ---- the laws

-- what is filtered is valid and fully indexed
keeps_rules : FilteredHistoriesStand → (asked : FilterRequest) (bytes file : List ℕ) (p : Picked) → IsChunkSize asked.chunk → (is : IsFilteredOf asked bytes file p) → AreCounted is.extras → IsValid file × IsFullyIndexed file
keeps_rules stand asked bytes file p size is few =
    let history = filtered asked.asking is.history in
    let options = written.options stand asked bytes file p is in
    let can : CanBeWritten options is.extras history = written.can_be_written stand asked bytes file p is size few in
    (subst IsValid (sym is.file_is) (files_are_valid options is.extras history can), subst IsFullyIndexed (sym is.file_is) (files_are_indexed options is.extras history asked.chunk refl can))

leaves : FilteredHistoriesStand → (asked : FilterRequest) (input out : List ℕ) (old new : Scene) (told : Told) (filtering : Filtering) → IsChunkSize asked.chunk → WasMade asked input out old new told filtering → LeavesFiltered asked input out old new told filtering
leaves stand asked input out old new told filtering size all =
    let holds = all.holds in
    let file = filtered_file asked holds.profile holds.extras holds.history in
    let is = file_of_these asked all.bytes all.picked (told.names out) (all.now.names out) holds in
    record {
      picked = all.picked;
      is_made = all.is;
      line = all.line;
      bytes = all.bytes;
      was_there = all.there;
      told = all.now;
      tells = all.tells;
      file = file;
      there = holds.placed;
      is = is;
      valid = λ few. (keeps_rules stand asked all.bytes file all.picked size is few).0;
      indexed = λ few. (keeps_rules stand asked all.bytes file all.picked size is few).1;
    }

pub filters_are_sound : FilteredHistoriesStand → FiltersAreSound
filters_are_sound stand asked input out old new told size it here = leaves stand asked input out old new told it.filtering size (made asked input out old new told it here)

-- a file that can be read holds what it was written of
reads_as : FilteredHistoriesStand → (asked : FilterRequest) (bytes file : List ℕ) (p : Picked) → (is : IsFilteredOf asked bytes file p) → ReadsAs file (filtered asked.asking is.history)
reads_as stand asked bytes file p is =
    let history = filtered asked.asking is.history in
    let right = written.stands stand asked bytes file p is in
    let (tops, end, halts, flat_are, messages_are) = files_are_scanned (written.options stand asked bytes file p is) is.extras history (written.fits stand asked bytes file p is).0 right.back right.numbered right.ids_agree
    (written.meet stand asked bytes file p is) (written.readable stand asked bytes file p is) in
    subst (λ (l : List ℕ). ReadsAs l history) (sym is.file_is) (record { tops = tops; end = end; halts = halts; flat_are = flat_are; messages_are = messages_are })

prints : FilteredHistoriesStand → (asked : FilterRequest) (input out : List ℕ) (old new later last : Scene) (answer : Status) (told : Told) (filtering : Filtering) → (left : LeavesFiltered asked input out old new told filtering)
    → later.world ≡ new.world → Cats everything out later last answer → (AnyRose (counts_in later) (counts_in last) → ⊥) → PrintsOrLacks (filtered asked.asking left.is.history) later last answer
prints stand asked input out old new later last answer told filtering left same cats quiet =
    file_printed out left.file (filtered asked.asking left.is.history) later last answer left.told (ap (λ (w : WorldState). w.told) same ∙ left.tells) left.there
    (reads_as stand asked left.bytes left.file left.picked left.is) cats quiet

pub filters_are_printed : FilteredHistoriesStand → FiltersArePrinted
filters_are_printed stand asked input out old new later last answer told size it here same cats quiet =
    let left = filters_are_sound stand asked input out old new told size it here in
    (left, prints stand asked input out old new later last answer told it.filtering left same cats quiet)
