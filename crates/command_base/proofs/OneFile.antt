-- What the calls of a command come to that reads one file and prints of it.
use Rattle.std.proofs.Common.{◌≡◌, ◌⊎◌, ℕ, zero, suc, ◌^◌, ◌<◌, not, Bool, true, false, cond, ◌||◌, ◌==◌, if◌then◌else◌, List, [], ◌∷◌, ◌++◌, Some, None, Result, Err, refl, sym, ap, subst, inl, inr, ◌∙◌, arith}
use Rattle.std.specs.Prelude.{◌↔◌}
use Rattle.std.specs.Option.{option_map}
use Rattle.std.proofs.lemmas.List.{append-nil}
use Rattle.std.proofs.lemmas.Bool.{both_ways, ne_eqb, false_from_ne_true}
use Rattle.mcap_io.specs.Outside.{Rose, RisesOnce, added, SinkState, WorldState, Opening, Keeping, Told, opened}
use Rattle.mcap_io.specs.OutsideCalls.{HasCause, Opens, OpenCause, CountsStand, with_opening, went_well, NoneIsOut, Notes}
use Rattle.mcap_io.proofs.Notes.{noted_in}
use Rattle.mcap_io.specs.Stores.{StoreState}
use Rattle.mcap_io.specs.declared.outside.Failed.{Failed}
use Rattle.mcap_io.specs.declared.outside.ObjectKind.{ObjectKind}
use Rattle.mcap_io.specs.declared.outside.ObjectKind.TheVariants as kinds
use Rattle.mcap_io.specs.declared.outside.OutsideRefused.{OutsideRefused}
use Rattle.mcap_io.specs.declared.outside.OutsideRefused.TheVariants as outside_refusals
use Rattle.command_base.specs.InputKinds.{IsInput}
use Rattle.command_base.specs.declared.faults.Counts.{Counts}
use Rattle.command_base.specs.declared.one_file.Faults.{Faults}
use Rattle.command_base.specs.declared.statuses.Status.{Status}
use Rattle.command_base.specs.declared.statuses.Status.TheVariants as statuses
use Rattle.command_base.specs.Printing.{TellsAll, Takes}
use Rattle.command_base.specs.Texts.{Trouble, fault, output_fault, grammar, compressed, limit, output_limit, not_indexed, flaw, bad_line, no_memory, asked_status, status_of}
use Rattle.command_base.specs.Ran.{Scene, counts_in, AnyRose, IsCaused, Blames, kept, refused, failed_so, source_faults, live_faults, named_when, failed_names, Complains}
use Rattle.command_base.specs.OneFile.{Ending, was_read, halted, failing, lacked, text_of, is_lack, ending_status, single_file, NameRead, AskedRose, ReadsOne}
use Rattle.command_base.specs.OneFileSteps.{one_troubles, IsHalt, HaltsWell, PrintsEnding, ShowsFaults}
use Rattle.command_base.proofs.Counting.{added_none, kept_adds, kept_well, still_where, blamed, not_risen}
use Rattle.command_base.proofs.Opened.{tells_more, SameNames, leaves_same}
use Rattle.command_base.proofs.Blamed.{each_one, some_one}

-- ---- tests

pub is_true : (b : Bool) → (b ≡ false → ⊥) → b ≡ true
is_true true none = refl
is_true false none = absurd (none refl)

pub same_tests : (a b : Bool) → (a ≡ true → b ≡ true) → (b ≡ true → a ≡ true) → a ≡ b
same_tests true b there back = sym (there refl)
same_tests false b there back = sym (false_from_ne_true b (λ is. both_ways false refl (back is)))

pub either : (a b : Bool) → (a ≡ true) ⊎ (b ≡ true) → (a || b) ≡ true
either true b some = refl
either false b (inl is) = absurd cc
either false b (inr is) = is

pub which : (a b : Bool) → (a || b) ≡ true → (a ≡ true) ⊎ (b ≡ true)
which true b some = inl refl
which false b some = inr some

pub neither : (a b : Bool) → a ≡ false → b ≡ false → (a || b) ≡ false
neither true b first second = absurd cc
neither false b first second = second

-- what holds of each two answers
pub each_two : (P : Bool → Bool → Type 0) → P true true → P true false → P false true → P false false → (a b : Bool) → P a b
each_two P tt_is tf_is ft_is ff_is true true = tt_is
each_two P tt_is tf_is ft_is ff_is true false = tf_is
each_two P tt_is tf_is ft_is ff_is false true = ft_is
each_two P tt_is tf_is ft_is ff_is false false = ff_is

-- ---- the status

-- what the ending asks for besides a want of memory and a fault
abbrev pub own : Ending → Status
own (was_read text) = statuses.Done
own (halted trouble) = asked_status trouble
own failing = statuses.Done
own lacked = statuses.Done

-- the status where memory lacked, or something failed, and that is asked for besides
abbrev pub status_where : Bool → Bool → Status → Status
status_where lacks some other = cond lacks statuses.Memory (cond some statuses.Fault other)

abbrev pub status_for : Ending → Bool → Bool → Status
status_for ending broken printing = status_where (is_lack ending) (broken || printing) (own ending)

abbrev IsStatus : List ℕ → Ending → Bool → Bool → Type 0
IsStatus file ending broken printing = status_of (one_troubles file ending broken printing) ≡ status_for ending broken printing

halted_is : (file : List ℕ) (trouble : Trouble) → IsHalt trouble → (a b : Bool) → IsStatus file (halted trouble) a b
halted_is file (fault name) (inl is) a b = absurd cc
halted_is file (fault name) (inr is) a b = absurd cc
halted_is file output_fault (inl is) a b = absurd cc
halted_is file output_fault (inr is) a b = absurd cc
halted_is file (grammar name n) is a b = each_two (IsStatus file (halted (grammar name n))) refl refl refl refl a b
halted_is file (compressed name compression n) is a b = each_two (IsStatus file (halted (compressed name compression n))) refl refl refl refl a b
halted_is file (limit name n) is a b = each_two (IsStatus file (halted (limit name n))) refl refl refl refl a b
halted_is file (output_limit name) is a b = each_two (IsStatus file (halted (output_limit name))) refl refl refl refl a b
halted_is file (not_indexed name why) is a b = each_two (IsStatus file (halted (not_indexed name why))) refl refl refl refl a b
halted_is file (flaw name rule n) is a b = each_two (IsStatus file (halted (flaw name rule n))) refl refl refl refl a b
halted_is file (bad_line name n) is a b = each_two (IsStatus file (halted (bad_line name n))) refl refl refl refl a b
halted_is file no_memory (inl is) a b = absurd cc
halted_is file no_memory (inr is) a b = absurd cc

status_is : (file : List ℕ) (ending : Ending) → HaltsWell ending → (a b : Bool) → IsStatus file ending a b
status_is file (was_read text) well a b = each_two (IsStatus file (was_read text)) refl refl refl refl a b
status_is file (halted trouble) well a b = halted_is file trouble (well trouble refl) a b
status_is file failing well a b = each_two (IsStatus file failing) refl refl refl refl a b
status_is file lacked well a b = each_two (IsStatus file lacked) refl refl refl refl a b

-- the status is that of what failed and of the ending
answered : (file : List ℕ) (ending : Ending) (blamed printing : Bool) (before now : SinkState) (answer : Status) → HaltsWell ending → Complains (one_troubles file ending blamed printing) before now answer
    → answer ≡ status_for ending blamed printing
answered file ending blamed printing before now answer well a = a.status_is ∙ status_is file ending well blamed printing

-- which is neither a fault nor a want of memory by itself
apart_from : (s t : Status) → (s ≡ statuses.Refused) ⊎ (s ≡ statuses.Limit) → s ≡ t → (t ≡ statuses.Fault) ⊎ (t ≡ statuses.Memory) → ⊥
apart_from s t (inl is) same (inl other) = absurd cc
apart_from s t (inl is) same (inr other) = absurd cc
apart_from s t (inr is) same (inl other) = absurd cc
apart_from s t (inr is) same (inr other) = absurd cc

done_apart : (t : Status) → statuses.Done ≡ t → (t ≡ statuses.Fault) ⊎ (t ≡ statuses.Memory) → ⊥
done_apart t same (inl other) = absurd cc
done_apart t same (inr other) = absurd cc

pub own_other : (ending : Ending) (t : Status) → HaltsWell ending → own ending ≡ t → (t ≡ statuses.Fault) ⊎ (t ≡ statuses.Memory) → ⊥
own_other (was_read text) t well same other = done_apart t same other
own_other (halted trouble) t well same other = apart_from (asked_status trouble) t (well trouble refl) same other
own_other failing t well same other = done_apart t same other
own_other lacked t well same other = done_apart t same other

pub fault_where : (lacks some : Bool) (t : Status) → (t ≡ statuses.Fault → ⊥) → status_where lacks some t ≡ statuses.Fault → some ≡ true
fault_where true some t other e = absurd cc
fault_where false true t other e = refl
fault_where false false t other e = absurd (other e)

pub memory_where : (lacks some : Bool) (t : Status) → (t ≡ statuses.Memory → ⊥) → status_where lacks some t ≡ statuses.Memory → lacks ≡ true
memory_where true some t other e = refl
memory_where false true t other e = absurd cc
memory_where false false t other e = absurd (other e)

pub lack_is : (ending : Ending) → is_lack ending ≡ true → ending ≡ lacked
lack_is (was_read text) is = absurd cc
lack_is (halted trouble) is = absurd cc
lack_is failing is = absurd cc
lack_is lacked is = refl

pub fault_or : (lacks some : Bool) (t answer : Status) → some ≡ true → answer ≡ status_where lacks some t → (answer ≡ statuses.Fault) ⊎ (answer ≡ statuses.Memory)
fault_or true some t answer risen is = inr is
fault_or false true t answer risen is = inl is
fault_or false false t answer risen is = absurd cc

-- ---- endings

pub halts_so : (trouble : Trouble) → IsHalt trouble → HaltsWell (halted trouble)
halts_so trouble is other e = subst IsHalt (same trouble other e) is
  where
    same : (a b : Trouble) → halted a ≡ halted b → a ≡ b
    same a b e = cc

pub read_halts : (text : List ℕ) → HaltsWell (was_read text)
read_halts text trouble e = absurd cc

pub failed_halts : HaltsWell failing
failed_halts trouble e = absurd cc

pub lacked_halts : HaltsWell lacked
lacked_halts trouble e = absurd cc

pub lacked_sure : (broken : Bool) → lacked ≡ failing → broken ≡ true
lacked_sure broken e = absurd cc

pub read_sure : (text : List ℕ) (broken : Bool) → was_read text ≡ failing → broken ≡ true
read_sure text broken e = absurd cc

pub halted_sure : (trouble : Trouble) (broken : Bool) → halted trouble ≡ failing → broken ≡ true
halted_sure trouble broken e = absurd cc

-- ---- the command

-- whether the file's name failed, or a write; which parts are blamed; and the answer
pub record Outcome : Type 0 where
  pub broken : Bool
  pub broke : Bool
  pub faults : Faults
  pub answer : Status

-- what its calls came to
pub record AreParts (kind : ObjectKind) (file : List ℕ) (old new : Scene) (entries : List Opening) (ending : Ending) (came : Outcome) : Type 0 where
  pub name : NameRead kind file old.world new.world entries came.broken
  -- a reading that failed has a name that is blamed
  pub sure : ending ≡ failing → came.broken ≡ true
  pub well : HaltsWell ending
  pub prints : PrintsEnding old.out new.out ending came.broke
  pub takes : Takes old.out new.out (text_of ending)
  pub shows : ShowsFaults (counts_in old) (counts_in new) came.broken came.broke came.faults
  pub told : Complains (one_troubles file ending came.faults.file came.faults.printing) old.err new.err came.answer

-- a write that failed shows in the count
pub broke_rose : (before now : SinkState) (ending : Ending) (broke : Bool) → PrintsEnding before now ending broke → broke ≡ true → Rose before.faults now.faults
broke_rose before now (was_read text) broke (inl all) is = absurd (both_ways broke all.0 is)
broke_rose before now (was_read text) broke (inr part) is = omega (arith, part.1.rises.once)
broke_rose before now (halted trouble) broke prints is = absurd (both_ways broke prints.0 is)
broke_rose before now failing broke prints is = absurd (both_ways broke prints.0 is)
broke_rose before now lacked broke prints is = absurd (both_ways broke prints.0 is)

not_done : (lacks : Bool) (t : Status) → status_where lacks true t ≡ statuses.Done → ⊥
not_done true t e = absurd cc
not_done false t e = absurd cc

halts_undone : (trouble : Trouble) → IsHalt trouble → asked_status trouble ≡ statuses.Done → ⊥
halts_undone trouble (inl is) e = absurd cc
halts_undone trouble (inr is) e = absurd cc

-- where all was done the file was read, and nothing failed
pub all_read : (ending : Ending) (broken printing : Bool) → HaltsWell ending → status_for ending broken printing ≡ statuses.Done → (broken ≡ false → ending ≡ failing → ⊥) → (text : List ℕ) × (ending ≡ was_read text) × (broken ≡ false) × (printing ≡ false)
all_read ending true printing well e calm = absurd (not_done (is_lack ending) (own ending) e)
all_read ending false true well e calm = absurd (not_done (is_lack ending) (own ending) e)
all_read (was_read text) false false well e calm = (text, refl, refl, refl)
all_read (halted trouble) false false well e calm = absurd (halts_undone trouble (well trouble refl) e)
all_read failing false false well e calm = absurd (calm refl refl)
all_read lacked false false well e calm = absurd cc

pub all_taken : (before now : SinkState) (ending : Ending) (broke : Bool) (text : List ℕ) → PrintsEnding before now ending broke → ending ≡ was_read text → broke ≡ false → TellsAll before now text
all_taken before now ending broke text prints is well =
    let P : Ending → Type 0 = λ e. PrintsEnding before now e broke in
    elim (subst P is prints) [ inl all ↦ all.1 | inr part ↦ absurd (both_ways broke well part.0) ]

-- where nothing failed the ending decides
pub calm_status : (ending : Ending) → (ending ≡ failing → ⊥) → cond (is_lack ending) statuses.Memory (own ending) ≡ ending_status ending
calm_status (was_read text) other = refl
calm_status (halted trouble) other = refl
calm_status failing other = absurd (other refl)
calm_status lacked other = refl

module _ (kind : ObjectKind) (file : List ℕ) (old new : Scene) (entries : List Opening) (ending : Ending) (came : Outcome) (parts : AreParts kind file old new entries ending came) where
  answer_is : came.answer ≡ status_for ending came.faults.file came.faults.printing
  answer_is = answered file ending came.faults.file came.faults.printing old.err new.err came.answer parts.well parts.told

  rose : AskedRose (counts_in old) (counts_in new) → (came.answer ≡ statuses.Fault) ⊎ (came.answer ≡ statuses.Memory)
  rose risen =
      let some : (came.faults.file || came.faults.printing) ≡ true = either came.faults.file came.faults.printing (elim risen [
        | inl world ↦ inl (parts.shows.file_told (inr (inl world)))
        | inr (inl inputs) ↦ inl (parts.shows.file_told (inr (inr inputs)))
        | inr (inr printing) ↦ inr (parts.shows.printing_told (inr printing))
      ]) in
      fault_or (is_lack ending) (came.faults.file || came.faults.printing) (own ending) came.answer some answer_is

  file_rose : came.faults.file ≡ true → Rose old.world.faults new.world.faults ⊎ Rose old.world.input_faults new.world.input_faults
  file_rose blamed_is = elim (parts.shows.file_cause blamed_is) [ inl is ↦ parts.name.cause is | inr risen ↦ risen ]

  printing_rose : came.faults.printing ≡ true → Rose old.out.faults new.out.faults
  printing_rose blamed_is = elim (parts.shows.printing_cause blamed_is) [ inl is ↦ broke_rose old.out new.out ending came.broke parts.prints is | inr risen ↦ risen ]

  faulted : came.answer ≡ statuses.Fault → AskedRose (counts_in old) (counts_in new)
  faulted is = elim (which came.faults.file came.faults.printing (fault_where (is_lack ending) (came.faults.file || came.faults.printing) (own ending) (λ e. own_other ending statuses.Fault parts.well e (inl refl)) (sym answer_is ∙ is))) [
    | inl blamed_is ↦ elim (file_rose blamed_is) [ inl world ↦ inl world | inr inputs ↦ inr (inl inputs) ]
    | inr blamed_is ↦ inr (inr (printing_rose blamed_is))
  ]

  memory : (came.answer ≡ statuses.Memory) ↔ (ending ≡ lacked)
  memory = (
    λ is. lack_is ending (memory_where (is_lack ending) (came.faults.file || came.faults.printing) (own ending) (λ e. own_other ending statuses.Memory parts.well e (inr refl)) (sym answer_is ∙ is)),
    λ is. answer_is ∙ ap (λ (e : Ending). status_for e came.faults.file came.faults.printing) is,
  )

  -- where no count rose nothing failed
  file_calm : (AnyRose (counts_in old) (counts_in new) → ⊥) → came.faults.file ≡ false
  file_calm quiet = false_from_ne_true came.faults.file (λ blamed_is. elim (file_rose blamed_is) [ inl world ↦ quiet (inl world) | inr inputs ↦ quiet (inr (inl inputs)) ])

  printing_calm : (AnyRose (counts_in old) (counts_in new) → ⊥) → came.faults.printing ≡ false
  printing_calm quiet = false_from_ne_true came.faults.printing (λ blamed_is. quiet (inr (inr (inr (printing_rose blamed_is)))))

  -- a part that isn't blamed didn't fail
  unblamed : came.faults.file ≡ false → came.broken ≡ false
  unblamed well = false_from_ne_true came.broken (λ is. both_ways came.faults.file well (parts.shows.file_told (inl is)))

  -- and where nothing failed no name did
  unnamed : came.broken ≡ false → failed_names entries ≡ []
  unnamed well = parts.name.names_are ∙ ap (λ (b : Bool). named_when b file ++ []) well

  calm : (AnyRose (counts_in old) (counts_in new) → ⊥) → (failed_names entries ≡ []) × (ending ≡ failing → ⊥) × (came.answer ≡ ending_status ending)
  calm quiet =
      let well = unblamed (file_calm quiet) in
      let unfailing : ending ≡ failing → ⊥ = λ e. both_ways came.broken well (parts.sure e) in
      let none : (came.faults.file || came.faults.printing) ≡ false = neither came.faults.file came.faults.printing (file_calm quiet) (printing_calm quiet) in
      (unnamed well, unfailing, answer_is ∙ ap (λ (b : Bool). status_where (is_lack ending) b (own ending)) none ∙ calm_status ending unfailing)

  whole : came.answer ≡ statuses.Done → (failed_names entries ≡ []) × ((text : List ℕ) × (ending ≡ was_read text) × TellsAll old.out new.out text)
  whole done =
      let all = all_read ending came.faults.file came.faults.printing parts.well (sym answer_is ∙ done) (λ well e. both_ways came.broken (unblamed well) (parts.sure e)) in
      let well : came.broke ≡ false = false_from_ne_true came.broke (λ is. both_ways came.faults.printing all.3 (parts.shows.printing_told (inl is))) in
      (unnamed (unblamed all.2), (all.0, all.1, all_taken old.out new.out ending came.broke all.0 parts.prints all.1 well))

  blames : Blames (single_file kind file) old.world new.world entries (named_when came.faults.file file ++ [])
  blames = record {
    exact = λ on.
        let same : came.faults.file ≡ came.broken = same_tests came.faults.file came.broken (λ blamed_is. elim (parts.shows.file_cause blamed_is) [
          | inl is ↦ is
          | inr (inl world) ↦ is_true came.broken (λ none. not_risen ⊥ old.world.faults new.world.faults on.world (parts.name.world_told none) world)
          | inr (inr inputs) ↦ is_true came.broken (λ none. not_risen ⊥ old.world.input_faults new.world.input_faults on.inputs (parts.name.inputs_told none) inputs)
        ]) (λ is. parts.shows.file_told (inl is)) in
        ap (λ (b : Bool). named_when b file ++ []) same ∙ sym parts.name.names_are;
    caused = each_one (IsCaused (single_file kind file) old.world new.world) came.faults.file file (λ blamed_is. elim (file_rose blamed_is) [ inl world ↦ inl world | inr inputs ↦ inr (inl ((0, refl), inputs)) ]);
    told = λ on risen none.
        let well : came.faults.file ≡ false = false_from_ne_true came.faults.file (λ is. some_one came.faults.file file is none) in
        elim risen [
          | inl world ↦ both_ways came.faults.file well (parts.shows.file_told (inr (inl world)))
          | inr (inl inputs) ↦ both_ways came.faults.file well (parts.shows.file_told (inr (inr inputs)))
          | inr (inr outputs) ↦ not_risen ⊥ old.world.output_faults new.world.output_faults on.outputs parts.name.outputs outputs
        ];
  }

  -- all that is promised of the command
  pub reads_one : ReadsOne kind file old new entries ending came.answer
  reads_one = record {
    ran = record {
      opened = parts.name.opened;
      leaves = parts.name.leaves;
      counts = parts.name.counts;
      printed = parts.takes;
      failed = record { inputs = came.faults.file ∷ []; outputs = [] };
      blames = blames;
      printing = came.faults.printing;
      blames_output = (printing_rose, λ risen. parts.shows.printing_told (inr risen));
      said = parts.told;
    };
    blamed = came.faults.file;
    blame = refl;
    cause = (file_rose, λ risen. parts.shows.file_told (inr risen));
    memory = memory;
    rose = rose;
    faulted = faulted;
    calm = calm;
    whole = whole;
  }

-- what holds of counts holds of equal ones
pub shows_at : (b before n now : Counts) (broken broke : Bool) (faults : Faults) → b ≡ before → n ≡ now → ShowsFaults b n broken broke faults → ShowsFaults before now broken broke faults
shows_at b before n now broken broke faults same same_now shows =
    subst (λ (x : Counts). ShowsFaults before x broken broke faults) same_now (subst (λ (x : Counts). ShowsFaults x n broken broke faults) same shows)

-- ---- the file's name

module _ (kind : ObjectKind) (file : List ℕ) where
  -- the opening failed
  opening_failed : (old new : WorldState) → new.told ≡ option_map (λ (t : Told). with_opening t (refused kind file)) old.told → CountsStand old new → RisesOnce old.faults new.faults
      → old.input_faults < 2 ^ 64 → old.output_faults < 2 ^ 64 → IsInput kind → NameRead kind file old new (refused kind file ∷ []) true
  opening_failed old new opens stand rises inputs_fit outputs_fit input =
      let entries : List Opening = refused kind file ∷ [] in
      let same : SameNames old new entries = λ told here. (with_opening told (refused kind file), tells_more old.told new.told (refused kind file) told opens here, refl, refl) in
      record {
        opened = inl (refl, refl);
        leaves = leaves_same old new entries same;
        counts = record {
          world = rises.once;
          inputs = omega (arith, added_none old.input_faults new.input_faults inputs_fit stand.inputs, input.inputs 0);
          outputs = omega (arith, added_none old.output_faults new.output_faults outputs_fit stand.outputs, input.outputs 0);
        };
        names_are = refl;
        cause = λ is. inl (omega (arith, rises.once));
        world_told = λ is. absurd cc;
        inputs_told = λ is. stand.inputs;
        outputs = stand.outputs;
      }

  pub unopened : (old new : WorldState) (why : OutsideRefused) → why ≡ outside_refusals.Failed → Opens {T = Unit} old new kind file (Err why) → CountsStand old new → OpenCause {T = Unit} old.faults new.faults (Err why)
      → old.input_faults < 2 ^ 64 → old.output_faults < 2 ^ 64 → IsInput kind → NameRead kind file old new (refused kind file ∷ []) true
  unopened old new outside_refusals.Failed is opens stand cause inputs_fit outputs_fit input = opening_failed old new opens stand cause inputs_fit outputs_fit input
  unopened old new outside_refusals.Memory is opens stand cause inputs_fit outputs_fit input = absurd cc

  -- memory lacked for the opening
  lacked_so : (old new : WorldState) → new.told ≡ old.told → CountsStand old new → new.faults ≡ old.faults
      → old.faults < 2 ^ 64 → old.input_faults < 2 ^ 64 → old.output_faults < 2 ^ 64 → NameRead kind file old new [] false
  lacked_so old new told_on stand still world_fits inputs_fit outputs_fit =
      let same : SameNames old new [] = λ told here. (told, told_on ∙ here, sym (append-nil told.log), refl) in
      record {
        opened = tt;
        leaves = leaves_same old new [] same;
        counts = record { world = added_none old.faults new.faults world_fits still; inputs = added_none old.input_faults new.input_faults inputs_fit stand.inputs; outputs = added_none old.output_faults new.output_faults outputs_fit stand.outputs };
        names_are = refl;
        cause = λ is. absurd cc;
        world_told = λ is. still;
        inputs_told = λ is. stand.inputs;
        outputs = stand.outputs;
      }

  pub unopened_for_memory : (old new : WorldState) (why : OutsideRefused) → why ≡ outside_refusals.Memory → Opens {T = Unit} old new kind file (Err why) → CountsStand old new → OpenCause {T = Unit} old.faults new.faults (Err why)
      → old.faults < 2 ^ 64 → old.input_faults < 2 ^ 64 → old.output_faults < 2 ^ 64 → NameRead kind file old new [] false
  unopened_for_memory old new outside_refusals.Failed is opens stand cause world_fits inputs_fit outputs_fit = absurd cc
  unopened_for_memory old new outside_refusals.Memory is opens stand cause world_fits inputs_fit outputs_fit = lacked_so old new opens stand cause world_fits inputs_fit outputs_fit

  -- an object without a failure never failed
  never : (well : Bool) (faults : ℕ) → failed_so well faults ≡ false → faults ≡ 0
  never true zero is = refl
  never true (suc n) is = absurd (both_ways (not (suc n == 0)) is (ap not (ne_eqb (suc n) 0 (λ none. omega (arith, none)))))
  never false faults is = absurd cc

  -- what was seen of the world at each of the calls: the object was opened, and taken back
  pub record IsTakenBack (w0 w1 w2 : WorldState) (keeping : Keeping) (result : Result Unit Failed) : Type 0 where
    pub same : SameNames w0 w2 (kept kind file keeping ∷ [])
    pub well_is : keeping.well ≡ went_well result
    pub stands : CountsStand w0 w1
    pub still : w1.faults ≡ w0.faults
    pub inputs : w2.input_faults ≡ added w1.input_faults keeping.faults
    pub outputs : w2.output_faults ≡ w1.output_faults
    pub cause : HasCause w1.faults w2.faults result
    pub world_fits : w0.faults < 2 ^ 64
    pub inputs_fit : w0.input_faults < 2 ^ 64
    pub outputs_fit : w0.output_faults < 2 ^ 64
    pub input : IsInput kind

  pub taken_back : (w0 w1 w2 : WorldState) (keeping : Keeping) (result : Result Unit Failed) → IsTakenBack w0 w1 w2 keeping result → NameRead kind file w0 w2 (kept kind file keeping ∷ []) (failed_so keeping.well keeping.faults)
  taken_back w0 w1 w2 keeping result a =
      let inputs_are : w2.input_faults ≡ added w0.input_faults keeping.faults = a.inputs ∙ ap (λ (n : ℕ). added n keeping.faults) a.stands.inputs in
      let same_outputs : w2.output_faults ≡ w0.output_faults = a.outputs ∙ a.stands.outputs in
      let failures : w2.faults ≡ added w1.faults (if keeping.well then 0 else 1) =
      kept_adds w1.faults w2.faults result (omega (arith, a.still, a.world_fits)) a.cause ∙ ap (λ (b : Bool). added w1.faults (if b then 0 else 1)) (sym a.well_is) in
      record {
        opened = inr (keeping, refl, refl);
        leaves = leaves_same w0 w2 (kept kind file keeping ∷ []) a.same;
        counts = record {
          world = omega (arith, a.still, failures);
          inputs = omega (arith, inputs_are, a.input.inputs keeping.faults);
          outputs = omega (arith, same_outputs, a.outputs_fit, a.input.outputs keeping.faults);
        };
        names_are = refl;
        cause = λ is. blamed w0.faults w1.faults w2.faults w2.faults w0.input_faults w2.input_faults keeping.faults result (omega (arith, a.still)) a.cause (omega arith) a.inputs_fit inputs_are
            (subst (λ (b : Bool). failed_so b keeping.faults ≡ true) a.well_is is);
        world_told = λ is. still_where w1.faults w2.faults result a.cause (sym a.well_is ∙ kept_well keeping.well keeping.faults is) ∙ a.still;
        inputs_told = λ is. omega (arith, inputs_are, never keeping.well keeping.faults is, a.inputs_fit);
        outputs = same_outputs;
      }

  none_last : NoneIsOut kind file []
  none_last k d within = absurd (omega (arith, within))

  -- the entry of an object that was opened last is the one in which its keeping is noted
  noted_last : (log new : List Opening) (keeping : Keeping) → Notes (log ++ opened kind file true ∷ []) new kind file keeping → new ≡ log ++ kept kind file keeping ∷ []
  noted_last log new keeping notes =
      noted_in (log ++ opened kind file true ∷ []) new log [] (opened kind file true) kind file keeping
      (record { there = refl; out = record { kind_is = refl; name_is = refl; given = refl; out = refl }; newest = none_last }) notes

  -- a world goes on telling that an object is taken back, and its names hold what they held
  abbrev pub KeepsSo : WorldState → WorldState → Keeping → Type 0
  KeepsSo old new keeping = (told : Told) → old.told ≡ Some told → (now : Told) × (new.told ≡ Some now) × (now.names ≡ told.names) × Notes told.log now.log kind file keeping

  pub same_back : (w0 w1 w2 : WorldState) (keeping : Keeping) → w1.told ≡ option_map (λ (t : Told). with_opening t (opened kind file true)) w0.told → KeepsSo w1 w2 keeping → SameNames w0 w2 (kept kind file keeping ∷ [])
  same_back w0 w1 w2 keeping opens keeps = λ told here.
      let back = keeps (with_opening told (opened kind file true)) (tells_more w0.told w1.told (opened kind file true) told opens here) in
      (back.0, back.1, noted_last told.log back.0.log keeping back.3, back.2)

-- what a world notes of a store that is taken back
abbrev pub store_keeping : StoreState → Result Unit Failed → Keeping
store_keeping store result = record { well = went_well result; faults = store.faults; left = None; asked = store.asked }
