-- What a merge of stores says of the bytes that they tell: what its output holds, which input halts, and what it decides.
use Rattle.std.proofs.Common.{◌≡◌, ◌⊎◌, ◌<◌, ℕ, zero, suc, Bool, true, false, ◌||◌, List, [], ◌∷◌, length, map, Some, Result, Ok, Err, refl, sym, ap, subst, inl, inr, ◌∙◌, arith}
use Rattle.std.specs.Prelude.{IfOk, IfErr}
use Rattle.std.specs.List.{AllZip}
use Rattle.std.proofs.lemmas.Option.{same_Some}
use Rattle.mcap_io.specs.Outside.{Told, Names, LiveState, WorldState, Opening}
use Rattle.mcap_io.specs.OutsideCalls.{went_well, PlacedUnder}
use Rattle.mcap_io.specs.Stores.{StoreState, IsUnused, TellsStore}
use Rattle.mcap_io.specs.declared.outside.Failed.{Failed}
use Rattle.rec_data.specs.declared.owned.Rec.{Rec}
use Rattle.mcap_model.specs.declared.ends.Stop.{Stop}
use Rattle.mcap_model.specs.declared.ends.Stop.TheVariants as stops
use Rattle.mcap_model.specs.declared.refusals.ReadingRefused.{ReadingRefused}
use Rattle.mcap_model.specs.declared.refusals.ReadingRefused.TheVariants as readings
use Rattle.mcap_model.specs.Places.{At, Each}
use Rattle.mcap_model.specs.Tops.{Top}
use Rattle.mcap_model.specs.File.{file_of}
use Rattle.mcap_model.specs.Pieces.{file_pieces}
use Rattle.mcap_model.specs.Merged.{Merged as MergesTo, AreRead}
use Rattle.mcap_model.proofs.Places.{at_none, at_within}
use Rattle.mcap_model.proofs.NamedTopics.{zip_front, zip_back}
use Rattle.mcap_model.proofs.Pieces.{pieces_make_files, stops_leave_prefixes}
use Rattle.chunk_writer.specs.Stops.{StopCause}
use Rattle.mcap_merge.specs.declared.answers.Merged.{Merged}
use Rattle.mcap_merge.specs.declared.answers.MergeRefused.{MergeRefused}
use Rattle.mcap_merge.specs.declared.answers.MergeRefused.TheVariants as merges
use Rattle.mcap_merge.specs.ReadInputs.{Read, read_tops}
use Rattle.mcap_merge.specs.Reading.{IsReadOf, FaultsStand, HaltsFirst, InputRose}
use Rattle.mcap_merge.specs.Filed.{merged_options, AllTell, TellsNot, MergeIs, FileStands, MergeStops, MergeIsCut, MergesInto, MergeFails}
use Rattle.command_base.specs.declared.statuses.Status.{Status}
use Rattle.command_base.specs.declared.statuses.Status.TheVariants as statuses
use Rattle.command_base.specs.Texts.{Trouble, grammar, compressed, limit}
use Rattle.command_base.specs.OneFileSteps.{IsHalt}
use Rattle.command_base.specs.Ran.{failed_so, has_failed}
use Rattle.command_base.proofs.Counting.{failed_often}
use Rattle.command_write.specs.declared.merging.Merging.{Merging}
use Rattle.command_base.specs.Endings.{halted, writing_status}
use Rattle.command_base.specs.OutputSteps.{HaltsByInput}
use Rattle.command_base.specs.Inputs.{backs_of}
use Rattle.command_base.specs.Outputs.{some_failed}
use Rattle.command_base.proofs.Endings.{halts_well, none_halts_well, status_halted}
use Rattle.command_write.specs.Halting.{name_at}
use Rattle.command_write.specs.Merge.{HoldsBytes, HoldsFirst, PutsNothing, MergeOutputHolds, MergesStores, StoreKept, store_entry, unopened_so, some_refused, merging_of, IsMerging, ending_of_merging, FirstHalts, OfWholeFiles, MergeDecides}
use Rattle.command_write.proofs.Recoveries.{placed_so}

-- what the library answers, by its clauses
pub merges_so : (given back : List StoreState) (live stored : LiveState) (chunk : ℕ) (answer : Result Merged MergeRefused) → IfOk answer (λ m. MergesInto given back live stored chunk m) → IfErr answer (λ why. MergeFails given back live stored chunk why)
    → MergesStores given back live stored chunk answer
merges_so given back live stored chunk (Ok m) merged refused = merged
merges_so given back live stored chunk (Err why) merged refused = refused

-- ---- the bytes of the stores

-- the store tells these bytes
abbrev pub TellsBytes : StoreState → List ℕ → Type 0
TellsBytes store bytes = store.bytes ≡ Some bytes

pub files_told : (w : WorldState) (told : Told) (inputs : List (List ℕ)) (given : List StoreState) (files : List (List ℕ)) → w.told ≡ Some told → AllZip (TellsStore w) inputs given → AllZip (HoldsBytes told) inputs files → AllZip TellsBytes given files
files_told w told [] [] [] here tells there = tt
files_told w told [] [] (f ∷ fs) here tells there = absurd there
files_told w told [] (s ∷ ss) fs here tells there = absurd tells
files_told w told (i ∷ is) [] fs here tells there = absurd tells
files_told w told (i ∷ is) (s ∷ ss) [] here tells there = absurd there
files_told w told (i ∷ is) (s ∷ ss) (f ∷ fs) here tells there = ((tells.0 told here).0 ∙ there.0, files_told w told is ss fs here tells.1 there.1)

are_read : (given : List StoreState) (files : List (List ℕ)) (reads : List Read) → AllZip TellsBytes given files → AllZip IsReadOf given reads → AreRead files (read_tops reads)
are_read [] [] [] told are = tt
are_read [] [] (r ∷ rs) told are = absurd are
are_read [] (f ∷ fs) rs told are = absurd told
are_read (s ∷ ss) [] rs told are = absurd told
are_read (s ∷ ss) (f ∷ fs) [] told are = absurd are
are_read (s ∷ ss) (f ∷ fs) (r ∷ rs) told are = (are.0 f told.0, are_read ss fs rs told.1 are.1)

all_tell : (given : List StoreState) (files : List (List ℕ)) → AllZip TellsBytes given files → AllTell given
all_tell given files told n s at = let (bytes, there, is) = zip_front TellsBytes given files n s told at in (bytes, is)

some_at : {X : Type 0} (xs : List X) (n : ℕ) → n < length xs → (x : X) × At xs n x
some_at [] n less = absurd (omega (arith, less))
some_at (x ∷ xs) zero less = (x, refl)
some_at (x ∷ xs) (suc n) less = some_at xs n (omega (arith, less))

-- no input that tells is found changed
told_changes : {A : Type 0} (given : List StoreState) (files : List (List ℕ)) (input : ℕ) → AllZip TellsBytes given files → input < length given → TellsNot given input → A
told_changes given files input told within none =
    let (s, at) = some_at given input within in
    let (bytes, is) = all_tell given files told input s at in
    absurd (none s at bytes is)

merges_to : (given : List StoreState) (files : List (List ℕ)) (profile : List ℕ) (extras : List Top) (history : List Rec) → AllZip TellsBytes given files → MergeIs given profile extras history → MergesTo files profile extras history
merges_to given files profile extras history told is =
    let of = is.of in
    record { inputs = read_tops is.reads; read = are_read given files is.reads told is.are; merge = of (all_tell given files told) }

-- so they were read
were_read : (given : List StoreState) (files : List (List ℕ)) (profile : List ℕ) (extras : List Top) (history : List Rec) → AllZip TellsBytes given files → MergeIs given profile extras history → OfWholeFiles files (λ inputs. Unit {0})
were_read given files profile extras history told is = let it = merges_to given files profile extras history told is in (it.inputs, it.read, tt)

-- ---- a writer that stops

-- it refuses no input, and no ids
not_halted : (input : ℕ) (why : ReadingRefused) (stop : Stop) → merges.Halted input why ≡ merges.Stopped stop → ⊥
not_halted input why stop e = cc

not_changed : (input offset : ℕ) (stop : Stop) → merges.Changed input offset ≡ merges.Stopped stop → ⊥
not_changed input offset stop e = cc

not_schemas : (stop : Stop) → merges.TooManySchemas ≡ merges.Stopped stop → ⊥
not_schemas stop e = cc

not_channels : (stop : Stop) → merges.TooManyChannels ≡ merges.Stopped stop → ⊥
not_channels stop e = cc

-- ---- what the output holds

module _ (chunk : ℕ) (given : List StoreState) (live stored : LiveState) (files : List (List ℕ)) (out : List ℕ) (all now : Names) (result : Result Unit Failed) (told : AllZip TellsBytes given files) (none : live.held ≡ Some []) (placed : (text : List ℕ) → stored.held ≡ Some text → PlacedUnder all now out text result) where
  -- where nothing was written
  nothing_placed : stored ≡ live → PutsNothing (went_well result) (all out) (now out)
  nothing_placed same = placed_so [] all now out result (placed [] (ap (λ (l : LiveState). l.held) same ∙ none))

  -- where the writer stopped, or was stopped
  first_placed : (profile : List ℕ) (extras : List Top) (history : List Rec) (stop : Stop) → MergeIs given profile extras history → FileStands (merged_options profile chunk) extras history live stored (Err stop)
      → HoldsFirst chunk files (went_well result) (all out) (now out)
  first_placed profile extras history stop is (blocks, bytes, stops_at) =
      let options = merged_options profile chunk in
      let (text, held, stopped) = stops_at.took [] none in
      let prefix = stops_leave_prefixes (file_pieces options extras history) stops_at.place stop text bytes stopped in
      record {
        profile = profile;
        extras = extras;
        history = history;
        merges = merges_to given files profile extras history told is;
        text = text;
        part = (prefix.0, prefix.1 ∙ pieces_make_files options extras history);
        placed = placed_so text all now out result (placed text held);
      }

  some_placed : (back : List StoreState) (why : MergeRefused) → (AllZip FaultsStand given back × MergeStops given live stored chunk why) ⊎ MergeIsCut given back live stored chunk why → HoldsFirst chunk files (went_well result) (all out) (now out)
  some_placed back why (inl (still, it)) = first_placed it.profile it.extras it.history it.stop it.is it.stands
  some_placed back why (inr it) = first_placed it.profile it.extras it.history stops.Memory it.is it.stands

pub output_holds : (chunk : ℕ) (given back : List StoreState) (live stored : LiveState) (answer : Result Merged MergeRefused) (files : List (List ℕ)) (out : List ℕ) (all now : Names) (result : Result Unit Failed) → MergesStores given back live stored chunk answer
    → AllZip TellsBytes given files → live.held ≡ Some [] → ((text : List ℕ) → stored.held ≡ Some text → PlacedUnder all now out text result) → MergeOutputHolds chunk files answer (went_well result) (all out) (now out)
output_holds chunk given back live stored (Ok m) files out all now result it told none placed = record {
  profile = it.profile;
  extras = it.extras;
  history = it.history;
  merges = merges_to given files it.profile it.extras it.history told it.is;
  back = it.is.sound.back;
  messages = it.messages;
  records = it.records;
  within = it.within;
  placed = placed_so (file_of (merged_options it.profile chunk) it.extras it.history) all now out result (placed (file_of (merged_options it.profile chunk) it.extras it.history) (it.file [] none));
}
output_holds chunk given back live stored (Err (merges.Halted input (readings.Fault faults))) files out all now result (inl nothing) told none placed = inl (nothing_placed chunk given live stored files out all now result told none placed nothing.0)
output_holds chunk given back live stored (Err (merges.Halted input (readings.Fault faults))) files out all now result (inr some) told none placed = inr (some_placed chunk given live stored files out all now result told none placed back (merges.Halted input (readings.Fault faults)) some)
output_holds chunk given back live stored (Err (merges.Halted input (readings.Grammar offset rule))) files out all now result (inl nothing) told none placed = nothing_placed chunk given live stored files out all now result told none placed nothing.0
output_holds chunk given back live stored (Err (merges.Halted input (readings.Grammar offset rule))) files out all now result (inr (inl (still, it))) told none placed = absurd (not_halted input (readings.Grammar offset rule) it.stop it.answer)
output_holds chunk given back live stored (Err (merges.Halted input (readings.Grammar offset rule))) files out all now result (inr (inr it)) told none placed = absurd it.cause
output_holds chunk given back live stored (Err (merges.Halted input (readings.Compressed offset name))) files out all now result (inl nothing) told none placed = nothing_placed chunk given live stored files out all now result told none placed nothing.0
output_holds chunk given back live stored (Err (merges.Halted input (readings.Compressed offset name))) files out all now result (inr (inl (still, it))) told none placed = absurd (not_halted input (readings.Compressed offset name) it.stop it.answer)
output_holds chunk given back live stored (Err (merges.Halted input (readings.Compressed offset name))) files out all now result (inr (inr it)) told none placed = absurd it.cause
output_holds chunk given back live stored (Err (merges.Halted input (readings.Limit offset))) files out all now result (inl nothing) told none placed = nothing_placed chunk given live stored files out all now result told none placed nothing.0
output_holds chunk given back live stored (Err (merges.Halted input (readings.Limit offset))) files out all now result (inr (inl (still, it))) told none placed = absurd (not_halted input (readings.Limit offset) it.stop it.answer)
output_holds chunk given back live stored (Err (merges.Halted input (readings.Limit offset))) files out all now result (inr (inr it)) told none placed = absurd it.cause
output_holds chunk given back live stored (Err (merges.Halted input readings.Memory)) files out all now result (inl (same, inl never)) told none placed = never
output_holds chunk given back live stored (Err (merges.Halted input readings.Memory)) files out all now result (inl (same, inr (still, reads, are, never))) told none placed = never
output_holds chunk given back live stored (Err (merges.Halted input readings.Memory)) files out all now result (inr (inl (still, it))) told none placed = not_halted input readings.Memory it.stop it.answer
output_holds chunk given back live stored (Err (merges.Halted input readings.Memory)) files out all now result (inr (inr it)) told none placed = it.cause
output_holds chunk given back live stored (Err (merges.Changed input offset)) files out all now result (inl (same, inl never)) told none placed = never
output_holds chunk given back live stored (Err (merges.Changed input offset)) files out all now result (inl (same, inr (still, reads, are, never))) told none placed = never
output_holds chunk given back live stored (Err (merges.Changed input offset)) files out all now result (inr (inl (still, it))) told none placed = not_changed input offset it.stop it.answer
output_holds chunk given back live stored (Err (merges.Changed input offset)) files out all now result (inr (inr it)) told none placed = told_changes given files input told it.cause.0 it.cause.2
output_holds chunk given back live stored (Err merges.TooManySchemas) files out all now result (inl nothing) told none placed = nothing_placed chunk given live stored files out all now result told none placed nothing.0
output_holds chunk given back live stored (Err merges.TooManySchemas) files out all now result (inr (inl (still, it))) told none placed = absurd (not_schemas it.stop it.answer)
output_holds chunk given back live stored (Err merges.TooManySchemas) files out all now result (inr (inr it)) told none placed = absurd it.cause
output_holds chunk given back live stored (Err merges.TooManyChannels) files out all now result (inl nothing) told none placed = nothing_placed chunk given live stored files out all now result told none placed nothing.0
output_holds chunk given back live stored (Err merges.TooManyChannels) files out all now result (inr (inl (still, it))) told none placed = absurd (not_channels it.stop it.answer)
output_holds chunk given back live stored (Err merges.TooManyChannels) files out all now result (inr (inr it)) told none placed = absurd it.cause
output_holds chunk given back live stored (Err (merges.Stopped (stops.Fault faults))) files out all now result (inl (same, inl never)) told none placed = absurd never
output_holds chunk given back live stored (Err (merges.Stopped (stops.Fault faults))) files out all now result (inl (same, inr (still, reads, are, never))) told none placed = absurd never
output_holds chunk given back live stored (Err (merges.Stopped (stops.Fault faults))) files out all now result (inr some) told none placed = some_placed chunk given live stored files out all now result told none placed back (merges.Stopped (stops.Fault faults)) some
output_holds chunk given back live stored (Err (merges.Stopped (stops.Limit blocks bytes))) files out all now result (inl (same, inl never)) told none placed = absurd never
output_holds chunk given back live stored (Err (merges.Stopped (stops.Limit blocks bytes))) files out all now result (inl (same, inr (still, reads, are, never))) told none placed = absurd never
output_holds chunk given back live stored (Err (merges.Stopped (stops.Limit blocks bytes))) files out all now result (inr some) told none placed = some_placed chunk given live stored files out all now result told none placed back (merges.Stopped (stops.Limit blocks bytes)) some
output_holds chunk given back live stored (Err (merges.Stopped stops.Memory)) files out all now result (inl nothing) told none placed = inl (nothing_placed chunk given live stored files out all now result told none placed nothing.0)
output_holds chunk given back live stored (Err (merges.Stopped stops.Memory)) files out all now result (inr some) told none placed = inr (some_placed chunk given live stored files out all now result told none placed back (merges.Stopped stops.Memory) some)

-- ---- which input halts

-- the trouble of an input that halts, and its number
halted_so : (inputs : List (List ℕ)) (given : List StoreState) (k : ℕ) (trouble : Trouble) (P : List ℕ → Type 0) → length inputs ≡ length given → HaltsFirst given k P → IsHalt trouble → HaltsByInput inputs (halted k trouble)
halted_so inputs given k trouble P long (before, s, at, so) asked =
    let within = at_within given k s at in
    halts_well inputs k trouble (omega (arith, within, long)) asked

pub merges_well : (inputs : List (List ℕ)) (chunk : ℕ) (given back : List StoreState) (live stored : LiveState) (answer : Result Merged MergeRefused) → length inputs ≡ length given → MergesStores given back live stored chunk answer → HaltsByInput inputs (ending_of_merging inputs (merging_of answer))
merges_well inputs chunk given back live stored (Ok m) long it = none_halts_well inputs _ refl
merges_well inputs chunk given back live stored (Err (merges.Halted input (readings.Fault faults))) long it = none_halts_well inputs _ refl
merges_well inputs chunk given back live stored (Err (merges.Halted input (readings.Grammar offset rule))) long (inl (same, inl (still, first))) = halted_so inputs given input (grammar (name_at inputs input) offset) _ long first (inl refl)
merges_well inputs chunk given back live stored (Err (merges.Halted input (readings.Grammar offset rule))) long (inl (same, inr (still, reads, are, never))) = absurd never
merges_well inputs chunk given back live stored (Err (merges.Halted input (readings.Grammar offset rule))) long (inr (inl (still, it))) = absurd (not_halted input (readings.Grammar offset rule) it.stop it.answer)
merges_well inputs chunk given back live stored (Err (merges.Halted input (readings.Grammar offset rule))) long (inr (inr it)) = absurd it.cause
merges_well inputs chunk given back live stored (Err (merges.Halted input (readings.Compressed offset name))) long (inl (same, inl (still, first))) = halted_so inputs given input (compressed (name_at inputs input) name offset) _ long first (inl refl)
merges_well inputs chunk given back live stored (Err (merges.Halted input (readings.Compressed offset name))) long (inl (same, inr (still, reads, are, never))) = absurd never
merges_well inputs chunk given back live stored (Err (merges.Halted input (readings.Compressed offset name))) long (inr (inl (still, it))) = absurd (not_halted input (readings.Compressed offset name) it.stop it.answer)
merges_well inputs chunk given back live stored (Err (merges.Halted input (readings.Compressed offset name))) long (inr (inr it)) = absurd it.cause
merges_well inputs chunk given back live stored (Err (merges.Halted input (readings.Limit offset))) long (inl (same, inl (still, first))) = halted_so inputs given input (limit (name_at inputs input) offset) _ long first (inr refl)
merges_well inputs chunk given back live stored (Err (merges.Halted input (readings.Limit offset))) long (inl (same, inr (still, reads, are, never))) = absurd never
merges_well inputs chunk given back live stored (Err (merges.Halted input (readings.Limit offset))) long (inr (inl (still, it))) = absurd (not_halted input (readings.Limit offset) it.stop it.answer)
merges_well inputs chunk given back live stored (Err (merges.Halted input (readings.Limit offset))) long (inr (inr it)) = absurd it.cause
merges_well inputs chunk given back live stored (Err (merges.Halted input readings.Memory)) long it = none_halts_well inputs _ refl
merges_well inputs chunk given back live stored (Err (merges.Changed input offset)) long (inl (same, inl never)) = absurd never
merges_well inputs chunk given back live stored (Err (merges.Changed input offset)) long (inl (same, inr (still, reads, are, never))) = absurd never
merges_well inputs chunk given back live stored (Err (merges.Changed input offset)) long (inr (inl (still, it))) = absurd (not_changed input offset it.stop it.answer)
merges_well inputs chunk given back live stored (Err (merges.Changed input offset)) long (inr (inr it)) = halts_well inputs input (grammar (name_at inputs input) offset) (omega (arith, long, (let within = it.cause.0 in within))) (inl refl)
merges_well inputs chunk given back live stored (Err merges.TooManySchemas) long it = none_halts_well inputs _ refl
merges_well inputs chunk given back live stored (Err merges.TooManyChannels) long it = none_halts_well inputs _ refl
merges_well inputs chunk given back live stored (Err (merges.Stopped (stops.Fault faults))) long it = none_halts_well inputs _ refl
merges_well inputs chunk given back live stored (Err (merges.Stopped (stops.Limit blocks bytes))) long it = none_halts_well inputs _ refl
merges_well inputs chunk given back live stored (Err (merges.Stopped stops.Memory)) long it = none_halts_well inputs _ refl

-- ---- what failed

or_first : (a b : Bool) → a ≡ true → (a || b) ≡ true
or_first true b is = refl
or_first false b is = absurd cc

or_second : (a b : Bool) → b ≡ true → (a || b) ≡ true
or_second true b is = refl
or_second false b is = is

-- an input whose store failed is told of
flag_at : (ks : List StoreKept) (n : ℕ) (s : StoreState) → At (backs_of ks) n s → (s.faults ≡ 0 → ⊥) → some_failed (map (λ (k : StoreKept). has_failed (store_entry k)) ks) ≡ true
flag_at [] n s at some = absurd (at_none n s at)
flag_at (k ∷ ks) zero s at some = or_first (has_failed (store_entry k)) _ (failed_often k.well k.back.faults (λ none. some (ap (λ (x : StoreState). x.faults) (sym (same_Some k.back s at)) ∙ none)))
flag_at (k ∷ ks) (suc n) s at some = or_second (has_failed (store_entry k)) _ (flag_at ks n s at some)

stop_shows : (stop : Stop) (faults before now : ℕ) (well : Bool) → merges.Stopped (stops.Fault faults) ≡ merges.Stopped stop → StopCause before now stop → before ≡ 0 → failed_so well now ≡ true
stop_shows (stops.Fault count) faults before now well is cause new = failed_often well now (λ none. omega (arith, cause.0.once, none, new))
stop_shows (stops.Limit blocks bytes) faults before now well is cause new = absurd cc
stop_shows stops.Memory faults before now well is cause new = absurd cc

one_shows : (given : List StoreState) (ks : List StoreKept) (k faults : ℕ) → Each IsUnused given → InputRose given (backs_of ks) k faults → some_failed (map (λ (k : StoreKept). has_failed (store_entry k)) ks) ≡ true
one_shows given ks k faults unused (was, now, at_was, at_now, rises, count, others) =
    let none = (unused k was at_was).faults in
    flag_at ks k now at_now (λ zero_is. omega (arith, rises.once, none, zero_is))

-- where the merge failed, a store did
pub fault_shows : (inputs : List (List ℕ)) (chunk : ℕ) (given : List StoreState) (live stored : LiveState) (well : Bool) (ks : List StoreKept) (answer : Result Merged MergeRefused) → MergesStores given (backs_of ks) live stored chunk answer → Each IsUnused given → live.faults ≡ 0
    → (ending_of_merging inputs (merging_of answer)).fails ≡ true → (some_failed (map (λ (k : StoreKept). has_failed (store_entry k)) ks) ≡ true) ⊎ (failed_so well stored.faults ≡ true)
fault_shows inputs chunk given live stored well ks (Ok m) it unused new e = absurd cc
fault_shows inputs chunk given live stored well ks (Err (merges.Halted input (readings.Fault faults))) (inl (same, inl rose)) unused new e = inl (one_shows given ks input faults unused rose)
fault_shows inputs chunk given live stored well ks (Err (merges.Halted input (readings.Fault faults))) (inl (same, inr (still, reads, are, never))) unused new e = absurd never
fault_shows inputs chunk given live stored well ks (Err (merges.Halted input (readings.Fault faults))) (inr (inl (still, it))) unused new e = absurd (not_halted input (readings.Fault faults) it.stop it.answer)
fault_shows inputs chunk given live stored well ks (Err (merges.Halted input (readings.Fault faults))) (inr (inr it)) unused new e = inl (one_shows given ks input faults unused it.cause)
fault_shows inputs chunk given live stored well ks (Err (merges.Halted input (readings.Grammar offset rule))) it unused new e = absurd cc
fault_shows inputs chunk given live stored well ks (Err (merges.Halted input (readings.Compressed offset name))) it unused new e = absurd cc
fault_shows inputs chunk given live stored well ks (Err (merges.Halted input (readings.Limit offset))) it unused new e = absurd cc
fault_shows inputs chunk given live stored well ks (Err (merges.Halted input readings.Memory)) it unused new e = absurd cc
fault_shows inputs chunk given live stored well ks (Err (merges.Changed input offset)) it unused new e = absurd cc
fault_shows inputs chunk given live stored well ks (Err merges.TooManySchemas) it unused new e = absurd cc
fault_shows inputs chunk given live stored well ks (Err merges.TooManyChannels) it unused new e = absurd cc
fault_shows inputs chunk given live stored well ks (Err (merges.Stopped (stops.Fault faults))) (inl (same, inl never)) unused new e = absurd never
fault_shows inputs chunk given live stored well ks (Err (merges.Stopped (stops.Fault faults))) (inl (same, inr (still, reads, are, never))) unused new e = absurd never
fault_shows inputs chunk given live stored well ks (Err (merges.Stopped (stops.Fault faults))) (inr (inl (still, it))) unused new e = inr (stop_shows it.stop faults live.faults stored.faults well it.answer it.cause new)
fault_shows inputs chunk given live stored well ks (Err (merges.Stopped (stops.Fault faults))) (inr (inr it)) unused new e = absurd it.cause
fault_shows inputs chunk given live stored well ks (Err (merges.Stopped (stops.Limit blocks bytes))) it unused new e = absurd cc
fault_shows inputs chunk given live stored well ks (Err (merges.Stopped stops.Memory)) it unused new e = absurd cc

-- ---- what the bytes decide

first_halts : (given : List StoreState) (files : List (List ℕ)) (n : ℕ) (P : List ℕ → Type 0) → AllZip TellsBytes given files → HaltsFirst given n P → FirstHalts files n P
first_halts given files n P told (before, s, at, so) =
    let (bytes, there, is) = zip_front TellsBytes given files n s told at in
    record {
      before = λ k other earlier found.
          let (store, at_store, tells) = zip_back TellsBytes given files k other told found in
          let (r, whole) = before k store earlier at_store in
          let ended = whole other tells in
          (r.tops, ended.0, ended.1);
      bytes = bytes;
      at = there;
      so = so bytes is;
    }

merge_decides : (inputs : List (List ℕ)) (chunk : ℕ) (given back : List StoreState) (live stored : LiveState) (answer : Result Merged MergeRefused) (files : List (List ℕ)) (status : Status) → MergesStores given back live stored chunk answer → AllZip TellsBytes given files
    → ((ending_of_merging inputs (merging_of answer)).fails ≡ true → ⊥) → status ≡ writing_status (ending_of_merging inputs (merging_of answer)) → MergeDecides files (merging_of answer) status
merge_decides inputs chunk given back live stored (Ok m) files status it told other is = (were_read given files it.profile it.extras it.history told it.is, is)
merge_decides inputs chunk given back live stored (Err (merges.Halted input (readings.Fault faults))) files status it told other is = absurd (other refl)
merge_decides inputs chunk given back live stored (Err (merges.Halted input (readings.Grammar offset rule))) files status (inl (same, inl (still, first))) told other is = (first_halts given files input _ told first, is ∙ status_halted input (grammar (name_at inputs input) offset))
merge_decides inputs chunk given back live stored (Err (merges.Halted input (readings.Grammar offset rule))) files status (inl (same, inr (still, reads, are, never))) told other is = absurd never
merge_decides inputs chunk given back live stored (Err (merges.Halted input (readings.Grammar offset rule))) files status (inr (inl (still, it))) told other is = absurd (not_halted input (readings.Grammar offset rule) it.stop it.answer)
merge_decides inputs chunk given back live stored (Err (merges.Halted input (readings.Grammar offset rule))) files status (inr (inr it)) told other is = absurd it.cause
merge_decides inputs chunk given back live stored (Err (merges.Halted input (readings.Compressed offset name))) files status (inl (same, inl (still, first))) told other is = (first_halts given files input _ told first, is ∙ status_halted input (compressed (name_at inputs input) name offset))
merge_decides inputs chunk given back live stored (Err (merges.Halted input (readings.Compressed offset name))) files status (inl (same, inr (still, reads, are, never))) told other is = absurd never
merge_decides inputs chunk given back live stored (Err (merges.Halted input (readings.Compressed offset name))) files status (inr (inl (still, it))) told other is = absurd (not_halted input (readings.Compressed offset name) it.stop it.answer)
merge_decides inputs chunk given back live stored (Err (merges.Halted input (readings.Compressed offset name))) files status (inr (inr it)) told other is = absurd it.cause
merge_decides inputs chunk given back live stored (Err (merges.Halted input (readings.Limit offset))) files status (inl (same, inl (still, first))) told other is = (first_halts given files input _ told first, is ∙ status_halted input (limit (name_at inputs input) offset))
merge_decides inputs chunk given back live stored (Err (merges.Halted input (readings.Limit offset))) files status (inl (same, inr (still, reads, are, never))) told other is = absurd never
merge_decides inputs chunk given back live stored (Err (merges.Halted input (readings.Limit offset))) files status (inr (inl (still, it))) told other is = absurd (not_halted input (readings.Limit offset) it.stop it.answer)
merge_decides inputs chunk given back live stored (Err (merges.Halted input (readings.Limit offset))) files status (inr (inr it)) told other is = absurd it.cause
merge_decides inputs chunk given back live stored (Err (merges.Halted input readings.Memory)) files status (inl (same, inl never)) told other is = never
merge_decides inputs chunk given back live stored (Err (merges.Halted input readings.Memory)) files status (inl (same, inr (still, reads, are, never))) told other is = never
merge_decides inputs chunk given back live stored (Err (merges.Halted input readings.Memory)) files status (inr (inl (still, it))) told other is = not_halted input readings.Memory it.stop it.answer
merge_decides inputs chunk given back live stored (Err (merges.Halted input readings.Memory)) files status (inr (inr it)) told other is = it.cause
merge_decides inputs chunk given back live stored (Err (merges.Changed input offset)) files status (inl (same, inl never)) told other is = never
merge_decides inputs chunk given back live stored (Err (merges.Changed input offset)) files status (inl (same, inr (still, reads, are, never))) told other is = never
merge_decides inputs chunk given back live stored (Err (merges.Changed input offset)) files status (inr (inl (still, it))) told other is = not_changed input offset it.stop it.answer
merge_decides inputs chunk given back live stored (Err (merges.Changed input offset)) files status (inr (inr it)) told other is = told_changes given files input told it.cause.0 it.cause.2
merge_decides inputs chunk given back live stored (Err merges.TooManySchemas) files status (inl (same, inl never)) told other is = absurd never
merge_decides inputs chunk given back live stored (Err merges.TooManySchemas) files status (inl (same, inr (still, reads, are, many))) told other is = ((read_tops reads, are_read given files reads told are, many), is)
merge_decides inputs chunk given back live stored (Err merges.TooManySchemas) files status (inr (inl (still, it))) told other is = absurd (not_schemas it.stop it.answer)
merge_decides inputs chunk given back live stored (Err merges.TooManySchemas) files status (inr (inr it)) told other is = absurd it.cause
merge_decides inputs chunk given back live stored (Err merges.TooManyChannels) files status (inl (same, inl never)) told other is = absurd never
merge_decides inputs chunk given back live stored (Err merges.TooManyChannels) files status (inl (same, inr (still, reads, are, many))) told other is = ((read_tops reads, are_read given files reads told are, many), is)
merge_decides inputs chunk given back live stored (Err merges.TooManyChannels) files status (inr (inl (still, it))) told other is = absurd (not_channels it.stop it.answer)
merge_decides inputs chunk given back live stored (Err merges.TooManyChannels) files status (inr (inr it)) told other is = absurd it.cause
merge_decides inputs chunk given back live stored (Err (merges.Stopped (stops.Fault faults))) files status it told other is = absurd (other refl)
merge_decides inputs chunk given back live stored (Err (merges.Stopped (stops.Limit blocks bytes))) files status (inl (same, inl never)) told other is = absurd never
merge_decides inputs chunk given back live stored (Err (merges.Stopped (stops.Limit blocks bytes))) files status (inl (same, inr (still, reads, are, never))) told other is = absurd never
merge_decides inputs chunk given back live stored (Err (merges.Stopped (stops.Limit blocks bytes))) files status (inr (inl (still, it))) told other is = (were_read given files it.profile it.extras it.history told it.is, is)
merge_decides inputs chunk given back live stored (Err (merges.Stopped (stops.Limit blocks bytes))) files status (inr (inr it)) told other is = absurd it.cause
merge_decides inputs chunk given back live stored (Err (merges.Stopped stops.Memory)) files status it told other is = is

-- an opening that was refused failed, or memory lacked for it
refusal_decides : (inputs files : List (List ℕ)) (failed : Bool) (status : Status) → ((ending_of_merging inputs (unopened_so failed)).fails ≡ true → ⊥) → status ≡ writing_status (ending_of_merging inputs (unopened_so failed)) → MergeDecides files (unopened_so failed) status
refusal_decides inputs files true status other is = absurd (other refl)
refusal_decides inputs files false status other is = is

-- where nothing failed, the bytes under the inputs' names decide
pub merging_decides : (chunk : ℕ) (inputs : List (List ℕ)) (out : List ℕ) (old new : WorldState) (entries : List Opening) (merging : Merging) (told : Told) (files : List (List ℕ)) (status : Status) → IsMerging chunk inputs out old new entries merging → old.told ≡ Some told
    → AllZip (HoldsBytes told) inputs files → ((ending_of_merging inputs merging).fails ≡ true → ⊥) → status ≡ writing_status (ending_of_merging inputs merging) → MergeDecides files merging status
merging_decides chunk inputs out old new entries merging told files status (inl (refusal, unreached)) here there other is =
    let same = refusal.answer in
    subst (λ (m : Merging). MergeDecides files m status) (sym same)
    (refusal_decides inputs files (some_refused entries) status (λ e. other (ap (λ (m : Merging). (ending_of_merging inputs m).fails) same ∙ e)) (is ∙ ap (λ (m : Merging). writing_status (ending_of_merging inputs m)) same))
merging_decides chunk inputs out old new entries merging told files status (inr (answer, same, reached)) here there other is =
    subst (λ (m : Merging). MergeDecides files m status) (sym same)
    (merge_decides inputs chunk reached.given (backs_of reached.kept_inputs) reached.live reached.stored answer files status reached.merges (files_told old told inputs reached.given files here reached.tells there)
    (λ e. other (ap (λ (m : Merging). (ending_of_merging inputs m).fails) same ∙ e)) (is ∙ ap (λ (m : Merging). writing_status (ending_of_merging inputs m)) same))
