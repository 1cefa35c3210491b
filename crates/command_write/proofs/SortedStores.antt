-- What a sort of a store says of the bytes that it tells: what its output holds, whether it halts, and what it decides.
use Rattle.std.proofs.Common.{◌≡◌, ◌⊎◌, ℕ, Bool, true, List, [], ◌∷◌, Option, Some, Result, Ok, Err, refl, sym, ap, subst, inl, inr, ◌∙◌, arith}
use Rattle.mcap_io.specs.Outside.{Names, LiveState}
use Rattle.mcap_io.specs.OutsideCalls.{went_well, PlacedUnder}
use Rattle.mcap_io.specs.Stores.{StoreState}
use Rattle.mcap_io.specs.declared.outside.Failed.{Failed}
use Rattle.rec_data.specs.declared.owned.Rec.{Rec}
use Rattle.mcap_model.specs.declared.ends.Stop.{Stop}
use Rattle.mcap_model.specs.declared.ends.Stop.TheVariants as stops
use Rattle.mcap_model.specs.declared.refusals.ReadingRefused.TheVariants as readings
use Rattle.mcap_model.specs.Tops.{Top}
use Rattle.mcap_model.specs.File.{file_of}
use Rattle.chunk_writer.specs.Stops.{StopsAt}
use Rattle.mcap_sort.specs.declared.answers.SortCounts.{SortCounts}
use Rattle.mcap_sort.specs.declared.answers.SortRefused.{SortRefused}
use Rattle.mcap_sort.specs.declared.answers.SortRefused.TheVariants as refusals
use Rattle.mcap_sort.specs.Sorting.{sorted_options, SortIs, SortStops, SortsSo, OfOne}
use Rattle.command_base.specs.declared.statuses.Status.{Status}
use Rattle.command_base.specs.Texts.{grammar, compressed, limit}
use Rattle.command_base.specs.Ran.{failed_so}
use Rattle.command_base.specs.Endings.{writing_status}
use Rattle.command_base.specs.OutputSteps.{HaltsByInput}
use Rattle.command_base.proofs.Counting.{failed_often}
use Rattle.command_base.proofs.Endings.{halts_well, none_halts_well}
use Rattle.command_write.specs.declared.sorting.Sorting.{Sorting}
use Rattle.command_write.specs.declared.sorting.Sorting.TheVariants as sortings
use Rattle.command_write.specs.Merge.{PutsNothing, ReachesDataEnd}
use Rattle.command_write.specs.Sort.{SortOf, HoldsSortedPart, SortOutputHolds, sorting_of, ending_of_sorting, SortDecides}
use Rattle.command_write.proofs.Recoveries.{placed_so}

same_head : (s t : StoreState) → s ∷ [] ≡ t ∷ [] → s ≡ t
same_head s t is = cc

-- what holds of the only store
pub of_one : (s t : StoreState) (P : StoreState → StoreState → Type 0) → OfOne (s ∷ []) (t ∷ []) P → P s t
of_one s t P (old, new, is, are, holds) = subst (λ (x : StoreState). P x t) (sym (same_head s old is)) (subst (P old) (sym (same_head t new are)) holds)

-- ---- the bytes of the store

sort_of : (given : StoreState) (bytes profile : List ℕ) (extras : List Top) (written : List Rec) → given.bytes ≡ Some bytes → SortIs given profile extras written → SortOf bytes profile extras written
sort_of given bytes profile extras written told it =
    let is = it.is in
    let of = it.of in
    let (end, halts) = is bytes told in
    record { tops = it.read.tops; end = end; halts = halts; sorts = of bytes told }

was_read : (given : StoreState) (bytes profile : List ℕ) (extras : List Top) (written : List Rec) → given.bytes ≡ Some bytes → SortIs given profile extras written → ReachesDataEnd bytes
was_read given bytes profile extras written told it =
    let of = sort_of given bytes profile extras written told it in
    (of.tops, of.end, of.halts)

-- ---- what the output holds

module _ (chunk : ℕ) (given : StoreState) (live stored : LiveState) (bytes out : List ℕ) (all now : Names) (result : Result Unit Failed) (told : given.bytes ≡ Some bytes) (none : live.held ≡ Some []) (placed : (text : List ℕ) → stored.held ≡ Some text → PlacedUnder all now out text result) where
  -- where nothing was written
  nothing_placed : stored ≡ live → PutsNothing (went_well result) (all out) (now out)
  nothing_placed same = placed_so [] all now out result (placed [] (ap (λ (l : LiveState). l.held) same ∙ none))

  -- where the writer stopped, or was stopped
  part_placed : (stop : Stop) → SortStops given live stored chunk stop → HoldsSortedPart chunk bytes stop (went_well result) (all out) (now out)
  part_placed stop it =
      let options = sorted_options it.profile chunk in
      let (text, held, stopped) = it.stops.took [] none in
      record {
        profile = it.profile;
        extras = it.extras;
        written = it.written;
        of = sort_of given bytes it.profile it.extras it.written told it.is;
        text = text;
        numbers = it.numbers;
        stops = subst (λ (o : Option (List ℕ)). StopsAt options it.extras it.written (Some []) o stop it.numbers) held (subst (λ (o : Option (List ℕ)). StopsAt options it.extras it.written o stored.held stop it.numbers) none it.stops);
        placed = placed_so text all now out result (placed text held);
      }

pub output_holds : (chunk : ℕ) (given back : StoreState) (live stored : LiveState) (answer : Result SortCounts SortRefused) (bytes out : List ℕ) (all now : Names) (result : Result Unit Failed) → SortsSo chunk given back live stored answer
    → given.bytes ≡ Some bytes → live.held ≡ Some [] → ((text : List ℕ) → stored.held ≡ Some text → PlacedUnder all now out text result) → SortOutputHolds chunk bytes answer (went_well result) (all out) (now out)
output_holds chunk given back live stored (Ok counts) bytes out all now result it told none placed =
    let file = file_of (sorted_options it.profile chunk) it.extras it.written in
    record {
      profile = it.profile;
      extras = it.extras;
      written = it.written;
      of = sort_of given bytes it.profile it.extras it.written told it.is;
      messages = it.messages;
      records = it.records;
      within = it.within;
      placed = placed_so file all now out result (placed file (it.file [] none));
    }
output_holds chunk given back live stored (Err (refusals.Halted (readings.Fault faults))) bytes out all now result (rises, carried, inl same) told none placed = inl (nothing_placed chunk given live stored bytes out all now result told none placed same)
output_holds chunk given back live stored (Err (refusals.Halted (readings.Fault faults))) bytes out all now result (rises, carried, inr some) told none placed = inr (part_placed chunk given live stored bytes out all now result told none placed stops.Memory some)
output_holds chunk given back live stored (Err (refusals.Halted (readings.Grammar offset rule))) bytes out all now result (same, refused) told none placed = nothing_placed chunk given live stored bytes out all now result told none placed same
output_holds chunk given back live stored (Err (refusals.Halted (readings.Compressed offset name))) bytes out all now result (same, refused) told none placed = nothing_placed chunk given live stored bytes out all now result told none placed same
output_holds chunk given back live stored (Err (refusals.Halted (readings.Limit offset))) bytes out all now result (same, refused) told none placed = nothing_placed chunk given live stored bytes out all now result told none placed same
output_holds chunk given back live stored (Err (refusals.Halted readings.Memory)) bytes out all now result it told none placed = it
output_holds chunk given back live stored (Err (refusals.Changed offset)) bytes out all now result (still, silent, some) told none placed = silent bytes told
output_holds chunk given back live stored (Err (refusals.Stopped stop)) bytes out all now result (still, inl (same, is, why)) told none placed = inl (is, nothing_placed chunk given live stored bytes out all now result told none placed same)
output_holds chunk given back live stored (Err (refusals.Stopped stop)) bytes out all now result (still, inr some) told none placed = inr (part_placed chunk given live stored bytes out all now result told none placed stop some)

-- ---- whether it halts

-- only an input that isn't read to its Data End halts, or one that changed
pub well : (input : List ℕ) (sorting : Sorting) → HaltsByInput (input ∷ []) (ending_of_sorting input sorting)
well input sortings.Unopened = none_halts_well (input ∷ []) _ refl
well input (sortings.Made counts) = none_halts_well (input ∷ []) _ refl
well input (sortings.Refused (refusals.Halted (readings.Fault faults))) = none_halts_well (input ∷ []) _ refl
well input (sortings.Refused (refusals.Halted (readings.Grammar offset rule))) = halts_well (input ∷ []) 0 (grammar input offset) (omega arith) (inl refl)
well input (sortings.Refused (refusals.Halted (readings.Compressed offset name))) = halts_well (input ∷ []) 0 (compressed input name offset) (omega arith) (inl refl)
well input (sortings.Refused (refusals.Halted (readings.Limit offset))) = halts_well (input ∷ []) 0 (limit input offset) (omega arith) (inr refl)
well input (sortings.Refused (refusals.Halted readings.Memory)) = none_halts_well (input ∷ []) _ refl
well input (sortings.Refused (refusals.Changed offset)) = halts_well (input ∷ []) 0 (grammar input offset) (omega arith) (inl refl)
well input (sortings.Refused (refusals.Stopped (stops.Fault faults))) = none_halts_well (input ∷ []) _ refl
well input (sortings.Refused (refusals.Stopped (stops.Limit blocks bytes))) = none_halts_well (input ∷ []) _ refl
well input (sortings.Refused (refusals.Stopped stops.Memory)) = none_halts_well (input ∷ []) _ refl

-- ---- what failed

not_fault : (faults : ℕ) → stops.Fault faults ≡ stops.Memory → ⊥
not_fault faults e = cc

not_limit : (blocks bytes : ℕ) → stops.Limit blocks bytes ≡ stops.Memory → ⊥
not_limit blocks bytes e = cc

-- where the sort failed, the input's store did or the output's
pub fault_shows : (input : List ℕ) (chunk : ℕ) (given back : StoreState) (live stored : LiveState) (answer : Result SortCounts SortRefused) (first second : Bool) → SortsSo chunk given back live stored answer → given.faults ≡ 0 → live.faults ≡ 0
    → (ending_of_sorting input (sorting_of answer)).fails ≡ true → (failed_so first back.faults ≡ true) ⊎ (failed_so second stored.faults ≡ true)
fault_shows input chunk given back live stored (Ok counts) first second it unused new e = absurd cc
fault_shows input chunk given back live stored (Err (refusals.Halted (readings.Fault faults))) first second (rises, carried, some) unused new e =
    inl (failed_often first back.faults (λ none. let once = rises.once in omega (arith, once, none, unused)))
fault_shows input chunk given back live stored (Err (refusals.Halted (readings.Grammar offset rule))) first second it unused new e = absurd cc
fault_shows input chunk given back live stored (Err (refusals.Halted (readings.Compressed offset name))) first second it unused new e = absurd cc
fault_shows input chunk given back live stored (Err (refusals.Halted (readings.Limit offset))) first second it unused new e = absurd cc
fault_shows input chunk given back live stored (Err (refusals.Halted readings.Memory)) first second it unused new e = absurd cc
fault_shows input chunk given back live stored (Err (refusals.Changed offset)) first second it unused new e = absurd cc
fault_shows input chunk given back live stored (Err (refusals.Stopped (stops.Fault faults))) first second (still, inl (same, is, why)) unused new e = absurd (not_fault faults is)
fault_shows input chunk given back live stored (Err (refusals.Stopped (stops.Fault faults))) first second (still, inr some) unused new e =
    let cause = some.cause in
    let rises = cause.0 in
    inr (failed_often second stored.faults (λ none. let once = rises.once in omega (arith, once, none, new)))
fault_shows input chunk given back live stored (Err (refusals.Stopped (stops.Limit blocks bytes))) first second it unused new e = absurd cc
fault_shows input chunk given back live stored (Err (refusals.Stopped stops.Memory)) first second it unused new e = absurd cc

-- ---- what the bytes decide

pub sort_decides : (input : List ℕ) (chunk : ℕ) (given back : StoreState) (live stored : LiveState) (answer : Result SortCounts SortRefused) (bytes : List ℕ) (status : Status) → SortsSo chunk given back live stored answer → given.bytes ≡ Some bytes
    → ((ending_of_sorting input (sorting_of answer)).fails ≡ true → ⊥) → status ≡ writing_status (ending_of_sorting input (sorting_of answer)) → SortDecides bytes (sorting_of answer) status
sort_decides input chunk given back live stored (Ok counts) bytes status it told other is = (was_read given bytes it.profile it.extras it.written told it.is, is)
sort_decides input chunk given back live stored (Err (refusals.Halted (readings.Fault faults))) bytes status it told other is = absurd (other refl)
sort_decides input chunk given back live stored (Err (refusals.Halted (readings.Grammar offset rule))) bytes status (same, (still, halts)) told other is = (halts bytes told, is)
sort_decides input chunk given back live stored (Err (refusals.Halted (readings.Compressed offset name))) bytes status (same, (still, halts)) told other is = (halts bytes told, is)
sort_decides input chunk given back live stored (Err (refusals.Halted (readings.Limit offset))) bytes status (same, (still, halts)) told other is = (halts bytes told, is)
sort_decides input chunk given back live stored (Err (refusals.Halted readings.Memory)) bytes status it told other is = it
sort_decides input chunk given back live stored (Err (refusals.Changed offset)) bytes status (still, silent, some) told other is = silent bytes told
sort_decides input chunk given back live stored (Err (refusals.Stopped (stops.Fault faults))) bytes status it told other is = absurd (other refl)
sort_decides input chunk given back live stored (Err (refusals.Stopped (stops.Limit blocks written))) bytes status (still, inl (same, never, why)) told other is = absurd (not_limit blocks written never)
sort_decides input chunk given back live stored (Err (refusals.Stopped (stops.Limit blocks written))) bytes status (still, inr some) told other is = (was_read given bytes some.profile some.extras some.written told some.is, is)
sort_decides input chunk given back live stored (Err (refusals.Stopped stops.Memory)) bytes status it told other is = is
