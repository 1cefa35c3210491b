-- What the calls of a command come to that reads some files and writes one.
use Rattle.std.proofs.Common.{◌≡◌, ◌⊎◌, ℕ, ◌≤◌, Bool, true, false, cond, ◌||◌, List, [], ◌∷◌, ◌++◌, length, refl, sym, ap, subst, inl, inr, ◌∙◌, arith}
use Rattle.std.specs.Prelude.{◌↔◌}
use Rattle.std.proofs.lemmas.Bool.{both_ways, false_from_ne_true}
use Rattle.mcap_io.specs.Outside.{Opening}
use Rattle.mcap_io.specs.declared.outside.ObjectKind.{ObjectKind}
use Rattle.command_base.specs.declared.faults.Counts.{Counts}
use Rattle.command_base.specs.declared.statuses.Status.{Status}
use Rattle.command_base.specs.declared.statuses.Status.TheVariants as statuses
use Rattle.command_base.specs.Printing.{TellsAll, Takes}
use Rattle.command_base.specs.Texts.{status_of}
use Rattle.command_base.specs.Ran.{Scene, counts_in, AnyRose, IsCaused, Blames, blamed_among, blamed_names, named_when, failed_names}
use Rattle.command_base.proofs.Blamed.{each_one}
use Rattle.command_base.specs.declared.blaming.FailedParts.{FailedParts}
use Rattle.command_base.specs.Endings.{WritingEnding, all_halts, writing_status, status_besides, IsWritingDone}
use Rattle.command_base.specs.OutputSteps.{HaltsByInput, FailsWithCause, flags_of, PartFailed, NamesKept, PartsShow, Answers, NamesEnd}
use Rattle.command_base.specs.Outputs.{inputs_and_output, failed_of, some_failed, ReadsSomeWritesOne, WritesOutput}
use Rattle.command_base.proofs.BlamedNames.{flags_long, each_blamed, some_blamed, none_behind}
use Rattle.command_base.proofs.EndingStatuses.{status_where, due_status, besides_apart, done_halts_none}

-- ---- the status

fault_where : (lacks some : Bool) (s : Status) → (s ≡ statuses.Fault → ⊥) → status_where lacks some s ≡ statuses.Fault → some ≡ true
fault_where true some s other e = absurd cc
fault_where false true s other e = refl
fault_where false false s other e = absurd (other e)

memory_where : (lacks some : Bool) (s : Status) → (s ≡ statuses.Memory → ⊥) → status_where lacks some s ≡ statuses.Memory → lacks ≡ true
memory_where true some s other e = refl
memory_where false true s other e = absurd cc
memory_where false false s other e = absurd (other e)

fault_or : (lacks some : Bool) (s answer : Status) → some ≡ true → answer ≡ status_where lacks some s → (answer ≡ statuses.Fault) ⊎ (answer ≡ statuses.Memory)
fault_or true some s answer risen is = inr is
fault_or false true s answer risen is = inl is
fault_or false false s answer risen is = absurd cc

lacking_where : (lacks some : Bool) (s : Status) → lacks ≡ true → status_where lacks some s ≡ statuses.Memory
lacking_where true some s is = refl
lacking_where false some s is = absurd cc

-- where nothing failed the ending decides
calm_where : (lacks fails : Bool) (s : Status) → (fails ≡ true → ⊥) → status_where lacks false s ≡ cond lacks statuses.Memory (cond fails statuses.Fault s)
calm_where true fails s well = refl
calm_where false true s well = absurd (well refl)
calm_where false false s well = refl

-- all was done
record DoneWhere (lacks some passes : Bool) (s : Status) : Type 0 where
  memory : lacks ≡ false
  well : some ≡ false
  within : passes ≡ false
  own : s ≡ statuses.Done

done_where : (lacks some passes : Bool) (s : Status) → status_where lacks some (cond passes statuses.Limit s) ≡ statuses.Done → DoneWhere lacks some passes s
done_where true some passes s e = absurd cc
done_where false true passes s e = absurd cc
done_where false false true s e = absurd cc
done_where false false false s e = record { memory = refl; well = refl; within = refl; own = e }

-- ---- which parts failed

-- inputs, the output, or standard output
abbrev AnyBlamed : List Bool → Bool → Bool → Type 0
AnyBlamed flags o p = (some_failed flags ≡ true) ⊎ ((o ≡ true) ⊎ (p ≡ true))

some_of : (f o p : Bool) → (f ≡ true) ⊎ ((o ≡ true) ⊎ (p ≡ true)) → (f || (o || p)) ≡ true
some_of true o p some = refl
some_of false true p some = refl
some_of false false true some = refl
some_of false false false some = elim some [ inl e ↦ cc | inr others ↦ elim others [ inl e ↦ cc | inr e ↦ cc ] ]

which : (f o p : Bool) → (f || (o || p)) ≡ true → (f ≡ true) ⊎ ((o ≡ true) ⊎ (p ≡ true))
which true o p some = inl refl
which false true p some = inr (inl refl)
which false false true some = inr (inr refl)
which false false false some = absurd cc

none_of : (f o p : Bool) → (f || (o || p)) ≡ false → (f ≡ false) × (o ≡ false) × (p ≡ false)
none_of true o p none = absurd cc
none_of false true p none = absurd cc
none_of false false true none = absurd cc
none_of false false false none = (refl, refl, refl)

-- no answer is that it failed, so no name is blamed
none_named : (names : List (List ℕ)) (flags : List Bool) (behind : List (List ℕ)) → some_failed flags ≡ false → behind ≡ [] → blamed_among names flags behind ≡ []
none_named [] flags behind none last = last
none_named (name ∷ names) [] behind none last = last
none_named (name ∷ names) (true ∷ flags) behind none last = absurd cc
none_named (name ∷ names) (false ∷ flags) behind none last = none_named names flags behind none last

out_named : (out : List ℕ) (b : Bool) → b ≡ true → named_when b out ++ [] ≡ [] → ⊥
out_named out true is none = absurd cc
out_named out false is none = absurd cc

out_unnamed : (out : List ℕ) (b : Bool) → b ≡ false → named_when b out ++ [] ≡ []
out_unnamed out true is = absurd cc
out_unnamed out false is = refl

-- ---- the command

-- what its calls came to
pub record AreParts (kind : ObjectKind) (inputs : List (List ℕ)) (out : List ℕ) (old new : Scene) (entries : List Opening) (ending : Bool → WritingEnding) (inputs_failed : List Bool) (out_failed : Bool) (failed : FailedParts) (answer : Status) : Type 0 where
  pub names : NamesEnd (inputs_and_output kind inputs out) old.world new.world entries inputs_failed out_failed ending
  pub takes : (some : Bool) → Takes old.out new.out (ending some).text
  pub shows : PartsShow (counts_in old) (counts_in new) inputs inputs_failed out_failed failed
  pub told : Answers (inputs_and_output kind inputs out) ending failed old.err new.err answer

module _ (kind : ObjectKind) (inputs : List (List ℕ)) (out : List ℕ) (old new : Scene) (entries : List Opening) (endings : Bool → WritingEnding) (inputs_failed : List Bool) (out_failed : Bool) (failed : FailedParts) (answer : Status) (parts : AreParts kind inputs out old new entries endings inputs_failed out_failed failed answer) where
  abbrev flags : List Bool
  flags = flags_of inputs failed

  abbrev some_part : Bool
  some_part = some_failed flags || (failed.out || failed.printing)

  abbrev kept : NamesKept (inputs_and_output kind inputs out) old.world new.world entries inputs_failed out_failed
  kept = parts.names.names

  abbrev ending : WritingEnding
  ending = endings parts.told.some

  few : length flags ≤ length inputs
  few = flags_long inputs failed (omega (arith, ap length parts.shows.told, kept.few))

  well : HaltsByInput inputs ending
  well = parts.names.well parts.told.some

  answer_is : answer ≡ status_where ending.lacks_memory some_part (status_besides ending)
  answer_is = parts.told.told.status_is ∙ due_status out inputs ending.halts flags failed.out ending.passes_limit failed.printing ending.lacks_memory well.few well.halt few

  part_rose : AnyBlamed flags failed.out failed.printing → AnyRose (counts_in old) (counts_in new)
  part_rose some = elim some [
    | inl e ↦ elim (parts.shows.causes.input_cause e) [ inl world ↦ inl world | inr read ↦ inr (inl read) ]
    | inr (inl e) ↦ elim (parts.shows.causes.out_cause e) [ inl world ↦ inl world | inr outputs ↦ inr (inr (inl outputs)) ]
    | inr (inr e) ↦ inr (inr (inr (parts.shows.printing.0 e)))
  ]

  rose_part : AnyRose (counts_in old) (counts_in new) → AnyBlamed flags failed.out failed.printing
  rose_part risen = elim risen [
    | inl world ↦ elim (parts.shows.causes.world_told world) [ inl e ↦ inl e | inr e ↦ inr (inl e) ]
    | inr (inl read) ↦ inl (parts.shows.causes.inputs_told read)
    | inr (inr (inl outputs)) ↦ inr (inl (parts.shows.causes.outputs_told outputs))
    | inr (inr (inr printing)) ↦ inr (inr (parts.shows.printing.1 printing))
  ]

  some_rose : (parts.told.some ≡ true) ↔ AnyRose (counts_in old) (counts_in new)
  some_rose = (λ is. parts.shows.any.1 (parts.told.some_is.0 is), λ risen. parts.told.some_is.1 (parts.shows.any.0 risen))

  rose : AnyRose (counts_in old) (counts_in new) → (answer ≡ statuses.Fault) ⊎ (answer ≡ statuses.Memory)
  rose risen = fault_or ending.lacks_memory some_part (status_besides ending) answer (some_of (some_failed flags) failed.out failed.printing (rose_part risen)) answer_is

  faulted : answer ≡ statuses.Fault → AnyRose (counts_in old) (counts_in new)
  faulted is = part_rose (which (some_failed flags) failed.out failed.printing (fault_where ending.lacks_memory some_part (status_besides ending)
      (λ e. besides_apart ending.passes_limit (all_halts ending.halts) statuses.Fault well.halt e (inl refl)) (sym answer_is ∙ is)))

  memory : (answer ≡ statuses.Memory) ↔ (ending.lacks_memory ≡ true)
  memory = (
    λ is. memory_where ending.lacks_memory some_part (status_besides ending) (λ e. besides_apart ending.passes_limit (all_halts ending.halts) statuses.Memory well.halt e (inr refl)) (sym answer_is ∙ is),
    λ is. answer_is ∙ lacking_where ending.lacks_memory some_part (status_besides ending) is,
  )

  -- where no part is blamed, no name failed
  well_when : some_part ≡ false → (some_failed inputs_failed ≡ false) × (out_failed ≡ false)
  well_when none =
      let (first, second, third) = none_of (some_failed flags) failed.out failed.printing none in (
        false_from_ne_true (some_failed inputs_failed) (λ is. both_ways (some_failed flags) first (parts.shows.inputs_told is)),
        false_from_ne_true out_failed (λ is. both_ways failed.out second (parts.shows.out_told is)),
      )

  quiet_when : some_part ≡ false → AnyRose (counts_in old) (counts_in new) → ⊥
  quiet_when none risen = both_ways some_part none (some_of (some_failed flags) failed.out failed.printing (rose_part risen))

  unfailing : some_part ≡ false → ending.fails ≡ true → ⊥
  unfailing none e =
      let (first, second) = well_when none in
      elim (parts.names.sure parts.told.some e) [
        | inl is ↦ both_ways (some_failed inputs_failed) first is
        | inr (inl is) ↦ both_ways out_failed second is
        | inr (inr is) ↦ quiet_when none (some_rose.0 is)
      ]

  unnamed : some_part ≡ false → failed_names entries ≡ []
  unnamed none =
      let (first, second) = well_when none in
      kept.names_are ∙ none_named inputs inputs_failed (named_when out_failed out ++ []) first (out_unnamed out out_failed second)

  calm : (AnyRose (counts_in old) (counts_in new) → ⊥) → (failed_names entries ≡ []) × (ending.fails ≡ true → ⊥) × (answer ≡ writing_status ending)
  calm quiet =
      let none : some_part ≡ false = false_from_ne_true some_part (λ is. quiet (part_rose (which (some_failed flags) failed.out failed.printing is))) in
      let other = unfailing none in
      (unnamed none, other, answer_is ∙ ap (λ (b : Bool). status_where ending.lacks_memory b (status_besides ending)) none ∙ calm_where ending.lacks_memory ending.fails (status_besides ending) other)

  whole : answer ≡ statuses.Done → (failed_names entries ≡ []) × IsWritingDone ending × TellsAll old.out new.out ending.text
  whole done =
      let all = done_where ending.lacks_memory some_part ending.passes_limit (status_of (all_halts ending.halts)) (sym answer_is ∙ done) in
      let (first, second, third) = none_of (some_failed flags) failed.out failed.printing all.well in
      let taken : TellsAll old.out new.out ending.text = elim (parts.takes parts.told.some).tells [
        | inl told ↦ told
        | inr part ↦ absurd (both_ways failed.printing third (parts.shows.printing.1 (omega (arith, part.rises.once))))
      ] in (
        unnamed all.well,
        record {
          read = done_halts_none (all_halts ending.halts) well.halt all.own;
          within = all.within;
          memory = all.memory;
          well = false_from_ne_true ending.fails (unfailing all.well);
        },
        taken,
      )

  blames : Blames (inputs_and_output kind inputs out) old.world new.world entries (blamed_names (inputs_and_output kind inputs out) (failed_of flags failed.out))
  blames = record {
    exact = λ on.
        let first : flags ≡ inputs_failed = parts.shows.inputs_are (kept.inputs_told on.inputs) in
        let second : failed.out ≡ out_failed = parts.shows.out_is (kept.outputs_told on.outputs) (kept.world_told on.world) in
        ap (λ (l : List Bool). blamed_names (inputs_and_output kind inputs out) (failed_of l failed.out)) first
        ∙ ap (λ (b : Bool). blamed_names (inputs_and_output kind inputs out) (failed_of inputs_failed b)) second
        ∙ sym kept.names_are;
    caused = each_blamed (IsCaused (inputs_and_output kind inputs out) old.world new.world) inputs flags (named_when failed.out out ++ [])
        (λ name some has. elim (parts.shows.causes.input_cause some) [ inl world ↦ inl world | inr read ↦ inr (inl (has, read)) ])
        (each_one (IsCaused (inputs_and_output kind inputs out) old.world new.world) failed.out out (λ is. elim (parts.shows.causes.out_cause is) [ inl world ↦ inl world | inr outputs ↦ inr (inr ((0, refl), outputs)) ]));
    told = λ on risen none.
        let input_told : some_failed flags ≡ true → ⊥ = λ some. some_blamed inputs flags (named_when failed.out out ++ []) few some none in
        let out_told : failed.out ≡ true → ⊥ = λ some. out_named out failed.out some (none_behind inputs flags (named_when failed.out out ++ []) none) in
        elim risen [
          | inl world ↦ elim (parts.shows.causes.world_told world) [ inl some ↦ input_told some | inr some ↦ out_told some ]
          | inr (inl read) ↦ input_told (parts.shows.causes.inputs_told read)
          | inr (inr outputs) ↦ out_told (parts.shows.causes.outputs_told outputs)
        ];
  }

  -- all that is promised of the command
  pub writes : WritesOutput (inputs_and_output kind inputs out) old new entries endings answer
  writes = record {
    some = parts.told.some;
    some_rose = some_rose;
    ran = record {
      ran = record {
        opened = kept.opened;
        leaves = kept.leaves;
        counts = kept.counts;
        printed = parts.takes parts.told.some;
        failed = failed_of flags failed.out;
        blames = blames;
        printing = failed.printing;
        blames_output = parts.shows.printing;
        said = parts.told.told;
      };
      inputs_blamed = flags;
      out_blamed = failed.out;
      blame = refl;
      causes = parts.shows.causes;
      memory = memory;
      rose = rose;
      faulted = faulted;
      calm = calm;
      whole = whole;
    };
  }

-- what holds of counts holds of equal ones
pub parts_at : (b before n now : Counts) (inputs : List (List ℕ)) (inputs_failed : List Bool) (out_failed : Bool) (failed : FailedParts) → b ≡ before → n ≡ now → PartsShow b n inputs inputs_failed out_failed failed → PartsShow before now inputs inputs_failed out_failed failed
parts_at b before n now inputs inputs_failed out_failed failed same same_now shows =
    subst (λ (x : Counts). PartsShow before x inputs inputs_failed out_failed failed) same_now (subst (λ (x : Counts). PartsShow x n inputs inputs_failed out_failed failed) same shows)

-- the names that failed did so with a cause
pub caused : (b before n now : Counts) (inputs_failed : List Bool) (out_failed : Bool) → b ≡ before → n ≡ now → FailsWithCause before now inputs_failed out_failed → FailsWithCause b n inputs_failed out_failed
caused b before n now inputs_failed out_failed same same_now holds =
    subst (λ (x : Counts). FailsWithCause x n inputs_failed out_failed) (sym same) (subst (λ (x : Counts). FailsWithCause before x inputs_failed out_failed) (sym same_now) holds)
