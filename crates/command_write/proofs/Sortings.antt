-- What the openings, the sorting and the keepings of both names come to, and what is promised of the command.
use Rattle.std.proofs.Common.{◌≡◌, ℕ, ◌^◌, ◌<◌, Bool, true, false, ◌||◌, List, [], ◌∷◌, ◌++◌, length, map, take, Some, Result, Err, refl, sym, ap, subst, inl, inr, ◌∙◌, arith}
use Rattle.mcap_io.specs.Outside.{Told, Opening, LiveState, SinkState, WorldState}
use Rattle.mcap_io.specs.OutsideCalls.{Opens, OpenCause, CountsStand, went_well, WritesAll}
use Rattle.mcap_io.specs.Stores.{StoreState}
use Rattle.mcap_io.specs.declared.outside.Failed.{Failed}
use Rattle.mcap_io.specs.declared.outside.Short.{Short}
use Rattle.mcap_io.specs.declared.outside.ObjectKind.TheVariants as kinds
use Rattle.mcap_io.specs.declared.outside.OutsideRefused.{OutsideRefused}
use Rattle.mcap_io.specs.declared.outside.OutsideRefused.TheVariants as outside_refusals
use Rattle.mcap_merge.specs.Filed.{AsksTwice}
use Rattle.mcap_sort.specs.declared.answers.SortCounts.{SortCounts}
use Rattle.mcap_sort.specs.declared.answers.SortRefused.{SortRefused}
use Rattle.mcap_sort.specs.Sorting.{SortsSo, OfOne}
use Rattle.command_base.specs.declared.statuses.Status.{Status}
use Rattle.command_base.specs.Printing.{Tells, Takes}
use Rattle.command_base.specs.Ran.{Scene, kept, has_failed, failed_so}
use Rattle.command_base.specs.Endings.{writing_status}
use Rattle.command_base.specs.Inputs.{store_keeping, names_kept, backs_of}
use Rattle.command_base.specs.InputsSteps.{StoreSeen, InputsOpened, InputOpeningRefused, InputsKept, flags_with}
use Rattle.command_base.specs.OutputSteps.{HaltsByInput, NamesEnd}
use Rattle.command_base.specs.Outputs.{inputs_and_output, some_failed, WritesOutput}
use Rattle.command_base.proofs.Endings.{none_halts_well}
use Rattle.command_base.proofs.Opened.{live_keeping}
use Rattle.command_write.specs.Halting.{name_at}
use Rattle.command_write.specs.declared.sorting.Sorting.{Sorting}
use Rattle.command_write.specs.declared.sorting.Sorting.TheVariants as sortings
use Rattle.command_write.specs.declared.sorting.Ordered.{Ordered}
use Rattle.command_write.specs.Recover.{number_after_name}
use Rattle.command_write.specs.Merge.{StoreKept, store_entry, some_refused}
use Rattle.command_write.specs.Sort.{BothSorted, unopened_sorting, sorting_of, IsSorting, sorted_line, ending_of_sorting, SortDecides, SortsFile}
use Rattle.command_write.specs.SortingSteps.{NamesSorted}
use Rattle.command_write.proofs.Recoveries.{wrote}
use Rattle.command_write.proofs.StoreNames.{NoneRead, out_unread, input_unread, none_opened, told_or, AllGiven, all_entries, all_placed, nothing_yet, all_kept, stores_tell, stores_unused}
use Rattle.command_write.proofs.SortedStores.{of_one, output_holds, well, fault_shows, sort_decides}

-- ---- nothing was sorted

-- an opening that was refused doesn't halt an input
unopened_well : (inputs : List (List ℕ)) (input : List ℕ) (failed : Bool) → HaltsByInput inputs (ending_of_sorting input (unopened_sorting failed))
unopened_well inputs input true = none_halts_well inputs _ refl
unopened_well inputs input false = none_halts_well inputs _ refl

unopened_failing : (input : List ℕ) (failed : Bool) → (ending_of_sorting input (unopened_sorting failed)).fails ≡ true → failed ≡ true
unopened_failing input true e = refl
unopened_failing input false e = absurd cc

-- what a function that sorted nothing answers
pub record Unsorted (ordered : Ordered) (failed : Bool) (flags : List Bool) (out_failed : Bool) : Type 0 where
  pub sorting : ordered.sorting ≡ unopened_sorting failed
  pub inputs : ordered.inputs_failed.items ≡ flags
  pub out : ordered.out_failed ≡ out_failed

unsorted : (chunk : ℕ) (out : List ℕ) (inputs : List (List ℕ)) (old new : WorldState) (flags : List Bool) (out_failed failed : Bool) (ordered : Ordered) → length inputs ≡ 1 → NoneRead inputs out old new flags out_failed failed → Unsorted ordered failed flags out_failed → NamesSorted chunk inputs out old new ordered
unsorted chunk out inputs old new flags out_failed failed ordered one it made = record {
  entries = it.entries;
  comes = inl (record { answer = made.sorting ∙ ap unopened_sorting (sym it.refused_are); fewer = λ none. let fewer = it.fewer in omega (arith, fewer none, one) }, it.unreached);
  ends = subst (λ (l : List Bool). NamesEnd (inputs_and_output kinds.Store inputs out) old new it.entries l ordered.out_failed (λ some. ending_of_sorting (name_at inputs 0) ordered.sorting)) (sym made.inputs)
      (subst (λ (b : Bool). NamesEnd (inputs_and_output kinds.Store inputs out) old new it.entries flags b (λ some. ending_of_sorting (name_at inputs 0) ordered.sorting)) (sym made.out)
      (subst (λ (s : Sorting). NamesEnd (inputs_and_output kinds.Store inputs out) old new it.entries flags out_failed (λ some. ending_of_sorting (name_at inputs 0) s)) (sym made.sorting) (record {
        names = it.names;
        well = λ some. unopened_well inputs (name_at inputs 0) failed;
        sure = λ some e. let sure = it.sure in told_or some (sure (unopened_failing (name_at inputs 0) failed e));
      })));
}

pub out_refused : (chunk : ℕ) (out : List ℕ) (inputs : List (List ℕ)) (w0 w1 w2 w3 : WorldState) (ss : List StoreState) (flags : List Bool) (why : OutsideRefused) (failed : Bool) (ordered : Ordered) → length inputs ≡ 1 → InputsOpened kinds.Store StoreSeen w0 w1 inputs ss
    → Opens {T = Unit} w1 w2 kinds.Live out (Err why) → CountsStand w1 w2 → OpenCause {T = Unit} w1.faults w2.faults (Err why) → InputsKept kinds.Store store_keeping w2 w3 inputs ss flags
    → w0.faults < 2 ^ 64 → w0.input_faults < 2 ^ 64 → w0.output_faults < 2 ^ 64
    → (failed ≡ true → why ≡ outside_refusals.Failed) → (failed ≡ false → why ≡ outside_refusals.Memory) → Unsorted ordered failed flags failed → NamesSorted chunk inputs out w0 w3 ordered
out_refused chunk out inputs w0 w1 w2 w3 ss flags why failed ordered one opened opens stands cause kept world_fits inputs_fit outputs_fit is_failed is_memory made =
    unsorted chunk out inputs w0 w3 flags failed failed ordered one (out_unread out inputs w0 w1 w2 w3 ss flags why failed opened opens stands cause kept world_fits inputs_fit outputs_fit is_failed is_memory) made

pub input_refused : (chunk : ℕ) (out : List ℕ) (inputs : List (List ℕ)) (w0 w2 w3 : WorldState) (ss : List StoreState) (flags : List Bool) (why : OutsideRefused) (failed : Bool) (ordered : Ordered) → length inputs ≡ 1 → InputOpeningRefused kinds.Store StoreSeen w0 w2 inputs ss why → InputsKept kinds.Store store_keeping w2 w3 (take (length ss) inputs) ss flags
    → w0.faults < 2 ^ 64 → w0.input_faults < 2 ^ 64 → w0.output_faults < 2 ^ 64
    → (failed ≡ true → why ≡ outside_refusals.Failed) → (failed ≡ false → why ≡ outside_refusals.Memory) → Unsorted ordered failed (flags_with flags failed) false → NamesSorted chunk inputs out w0 w3 ordered
input_refused chunk out inputs w0 w2 w3 ss flags why failed ordered one refuses kept world_fits inputs_fit outputs_fit is_failed is_memory made =
    unsorted chunk out inputs w0 w3 (flags_with flags failed) false failed ordered one (input_unread out inputs w0 w2 w3 ss flags why failed refuses kept world_fits inputs_fit outputs_fit is_failed is_memory) made

pub nothing_opened : (chunk : ℕ) (out : List ℕ) (inputs : List (List ℕ)) (w : WorldState) (ordered : Ordered) → length inputs ≡ 1 → w.faults < 2 ^ 64 → w.input_faults < 2 ^ 64 → w.output_faults < 2 ^ 64 → Unsorted ordered false [] false → NamesSorted chunk inputs out w w ordered
nothing_opened chunk out inputs w ordered one world_fits inputs_fit outputs_fit made = unsorted chunk out inputs w w [] false false ordered one (none_opened out inputs w (omega (arith, one)) world_fits inputs_fit outputs_fit) made

-- ---- both were given

same_name : (name other : List ℕ) → name ∷ [] ≡ other ∷ [] → name ≡ other
same_name name other is = cc

same_back : (back other : StoreState) → back ∷ [] ≡ other ∷ [] → back ≡ other
same_back back other is = cc

-- the only input as it was kept
one_kept : (ks : List StoreKept) (input : List ℕ) (back : StoreState) → input ∷ [] ≡ names_kept ks → back ∷ [] ≡ backs_of ks → (k : StoreKept) × (ks ≡ k ∷ []) × (k.name ≡ input) × (k.back ≡ back)
one_kept [] input back names backs = absurd (omega (arith, ap length names))
one_kept (k ∷ []) input back names backs = (k, refl, sym (same_name input k.name names), sym (same_back back k.back backs))
one_kept (k ∷ l ∷ ks) input back names backs = absurd (omega (arith, ap length names))

or_first : (a b : Bool) → a ≡ true → (a || b) ≡ true
or_first true b is = refl
or_first false b is = absurd cc

module _ (out input : List ℕ) (w0 w1 w2 w3 w4 : WorldState) (given back : StoreState) (live live_now : LiveState) (flags : List Bool) (live_kept : Result Unit Failed) (b : AllGiven out (input ∷ []) w0 w1 w2 w3 w4 (given ∷ []) (back ∷ []) live live_now flags live_kept) where
  abbrev entries : List Opening
  entries = all_entries out (input ∷ []) w0 w1 w2 w3 w4 (given ∷ []) (back ∷ []) live live_now flags live_kept b

  entries_are : (k : StoreKept) → b.keeps.kept ≡ k ∷ [] → k.name ≡ input → k.back ≡ back → entries ≡ kept kinds.Store input (store_keeping back k.well) ∷ kept kinds.Live out (live_keeping live_now live_kept) ∷ []
  entries_are k one name is =
      ap (λ (ks : List StoreKept). map store_entry ks ++ kept kinds.Live out (live_keeping live_now live_kept) ∷ []) one
      ∙ ap (λ (n : List ℕ). kept kinds.Store n (store_keeping k.back k.well) ∷ kept kinds.Live out (live_keeping live_now live_kept) ∷ []) name
      ∙ ap (λ (s : StoreState). kept kinds.Store input (store_keeping s k.well) ∷ kept kinds.Live out (live_keeping live_now live_kept) ∷ []) is

  one_sorted : (chunk : ℕ) (ordered : Ordered) (answer : Result SortCounts SortRefused) → SortsSo chunk given back live live_now answer → AsksTwice given back → ordered.sorting ≡ sorting_of answer → ordered.inputs_failed.items ≡ flags
      → ordered.out_failed ≡ failed_so (went_well live_kept) live_now.faults → NamesSorted chunk (input ∷ []) out w0 w4 ordered
  one_sorted chunk ordered answer made asked is flags_are out_is =
      let (k, one, name, same) = one_kept b.keeps.kept input back b.keeps.names_are b.keeps.backs_are in
      let tells = (stores_tell w0 (input ∷ []) (given ∷ []) b.opens.seen).0 in
      let unused = stores_unused w0 (input ∷ []) (given ∷ []) b.opens.seen 0 given refl in
      let reached : BothSorted chunk input out w0 w4 entries answer = record {
        given = given;
        back = back;
        given_kept = k.well;
        live = live;
        stored = live_now;
        live_kept = went_well live_kept;
        sorts = made;
        asked = asked;
        tells = tells;
        unused = unused;
        live_unused = b.new;
        file = λ told now bytes here here_now there.
            output_holds chunk given back live live_now answer bytes out told.names now.names live_kept made ((tells told here).0 ∙ there)
            (nothing_yet out (input ∷ []) w0 w1 w2 w3 w4 (given ∷ []) (back ∷ []) live live_now flags live_kept b told here)
            (all_placed out (input ∷ []) w0 w1 w2 w3 w4 (given ∷ []) (back ∷ []) live live_now flags live_kept b told now here here_now).placed;
        kept_are = entries_are k one name same;
      } in
      record {
        entries = entries;
        comes = inr (answer, is, reached);
        ends = record {
          names = all_kept out (input ∷ []) w0 w1 w2 w3 w4 (given ∷ []) (back ∷ []) live live_now flags live_kept b ordered.inputs_failed.items ordered.out_failed flags_are out_is;
          well = λ some. well input ordered.sorting;
          sure = λ some e. elim (fault_shows input chunk given back live live_now answer k.well (went_well live_kept) made unused.faults b.new (ap (λ (s : Sorting). (ending_of_sorting input s).fails) (sym is) ∙ e)) [
            | inl read ↦
                let flag : some_failed ordered.inputs_failed.items ≡ (has_failed (store_entry k) || false) =
                ap some_failed (flags_are ∙ b.keeps.failed_are ∙ ap (λ (ks : List StoreKept). map (λ (x : StoreKept). has_failed (store_entry x)) ks) one) in
                inl (flag ∙ or_first (has_failed (store_entry k)) false (subst (λ (s : StoreState). failed_so k.well s.faults ≡ true) (sym same) read))
            | inr written ↦ inr (inl (out_is ∙ written))
          ];
        };
      }

pub all_sorted : (out : List ℕ) (inputs : List (List ℕ)) (w0 w1 w2 w3 w4 : WorldState) (ss ss_now : List StoreState) (live live_now : LiveState) (flags : List Bool) (live_kept : Result Unit Failed) → length inputs ≡ 1 → AllGiven out inputs w0 w1 w2 w3 w4 ss ss_now live live_now flags live_kept
    → (chunk : ℕ) (ordered : Ordered) (answer : Result SortCounts SortRefused) → OfOne ss ss_now (λ old new. SortsSo chunk old new live live_now answer) → OfOne ss ss_now AsksTwice → ordered.sorting ≡ sorting_of answer → ordered.inputs_failed.items ≡ flags
    → ordered.out_failed ≡ failed_so (went_well live_kept) live_now.faults → NamesSorted chunk inputs out w0 w4 ordered
all_sorted out [] w0 w1 w2 w3 w4 ss ss_now live live_now flags live_kept one b chunk ordered answer made asked is flags_are out_is = absurd (omega (arith, one))
all_sorted out (input ∷ []) w0 w1 w2 w3 w4 ss ss_now live live_now flags live_kept one b chunk ordered answer (given, back, olds, news, made) asked is flags_are out_is =
    let first = subst (λ (l : List StoreState). AllGiven out (input ∷ []) w0 w1 w2 w3 w4 l ss_now live live_now flags live_kept) olds b in
    let both = subst (λ (l : List StoreState). AllGiven out (input ∷ []) w0 w1 w2 w3 w4 (given ∷ []) l live live_now flags live_kept) news first in
    let twice = subst (λ (l : List StoreState). OfOne (given ∷ []) l AsksTwice) news (subst (λ (l : List StoreState). OfOne l ss_now AsksTwice) olds asked) in
    one_sorted out input w0 w1 w2 w3 w4 given back live live_now flags live_kept both chunk ordered answer made (of_one given back AsksTwice twice) is flags_are out_is
all_sorted out (input ∷ other ∷ more) w0 w1 w2 w3 w4 ss ss_now live live_now flags live_kept one b chunk ordered answer made asked is flags_are out_is = absurd (omega (arith, one))

-- ---- the bytes decide

-- an opening that was refused failed, or memory lacked for it
refusal_decides : (input bytes : List ℕ) (failed : Bool) (status : Status) → ((ending_of_sorting input (unopened_sorting failed)).fails ≡ true → ⊥) → status ≡ writing_status (ending_of_sorting input (unopened_sorting failed)) → SortDecides bytes (unopened_sorting failed) status
refusal_decides input bytes true status other is = absurd (other refl)
refusal_decides input bytes false status other is = is

decides : (chunk : ℕ) (input out bytes : List ℕ) (old new : WorldState) (entries : List Opening) (sorting : Sorting) (told : Told) (status : Status) → IsSorting chunk input out old new entries sorting → old.told ≡ Some told → told.names input ≡ Some bytes
    → ((ending_of_sorting input sorting).fails ≡ true → ⊥) → status ≡ writing_status (ending_of_sorting input sorting) → SortDecides bytes sorting status
decides chunk input out bytes old new entries sorting told status (inl (refusal, unreached)) here there other is =
    let same = refusal.answer in
    subst (λ (s : Sorting). SortDecides bytes s status) (sym same)
    (refusal_decides input bytes (some_refused entries) status (λ e. other (ap (λ (s : Sorting). (ending_of_sorting input s).fails) same ∙ e)) (is ∙ ap (λ (s : Sorting). writing_status (ending_of_sorting input s)) same))
decides chunk input out bytes old new entries sorting told status (inr (answer, same, it)) here there other is =
    subst (λ (s : Sorting). SortDecides bytes s status) (sym same)
    (sort_decides input chunk it.given it.back it.live it.stored answer bytes status it.sorts ((it.tells told here).0 ∙ there)
    (λ e. other (ap (λ (s : Sorting). (ending_of_sorting input s).fails) same ∙ e)) (is ∙ ap (λ (s : Sorting). writing_status (ending_of_sorting input s)) same))

-- ---- the command

-- all that is promised of it
pub sorted : (chunk : ℕ) (input out : List ℕ) (old new : Scene) (ordered : Ordered) (answer : Status) → (names : NamesSorted chunk (input ∷ []) out old.world new.world ordered)
    → WritesOutput (inputs_and_output kinds.Store (input ∷ []) out) old new names.entries (λ some. ending_of_sorting input ordered.sorting) answer → SortsFile chunk input out old new answer
sorted chunk input out old new ordered answer names writes = record {
  entries = names.entries;
  sorting = ordered.sorting;
  comes = names.comes;
  ran = writes.ran;
  decided = λ told bytes here there quiet.
      let (unnamed, other, is) = writes.ran.calm quiet in
      decides chunk input out bytes old.world new.world names.entries ordered.sorting told answer names.comes here there other is;
}

-- ---- the line

cons_some : (x : ℕ) (xs : List ℕ) → x ∷ xs ≡ [] → ⊥
cons_some x xs e = absurd cc

-- it isn't empty
line_is_said : (counts : SortCounts) → sorted_line counts ≡ [] → ⊥
unfolding sorted_line number_after_name
line_is_said counts e = cons_some _ _ e

-- what was printed of a sorting that was made
pub takes_line : (before now : SinkState) (input line : List ℕ) (result : Result Unit Short) (sorting : Sorting) (counts : SortCounts) → sorting ≡ sortings.Made counts → line ≡ sorted_line counts → WritesAll before now line result → Takes before now (ending_of_sorting input sorting).text
takes_line before now input line result sorting counts is line_is written =
    subst (λ (x : Sorting). Takes before now (ending_of_sorting input x).text) (sym is)
    (record { tells = subst (λ (l : List ℕ). Tells before now l) line_is (wrote before now line result written); silent = λ none. absurd (line_is_said counts none) })
