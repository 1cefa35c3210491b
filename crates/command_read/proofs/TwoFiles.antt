-- What the calls of a command come to that reads a file and then another.
use Rattle.std.proofs.Common.{◌≡◌, ◌⊎◌, ℕ, Bool, true, false, ◌||◌, if◌then◌else◌, List, [], ◌++◌, refl, sym, ap, subst, inl, inr, ◌∙◌}
use Rattle.std.specs.Prelude.{◌↔◌}
use Rattle.std.proofs.lemmas.Bool.{both_ways, false_from_ne_true}
use Rattle.mcap_io.specs.Outside.{Rose, SinkState, WorldState, Opening}
use Rattle.command_base.specs.declared.statuses.Status.{Status}
use Rattle.command_base.specs.declared.statuses.Status.TheVariants as statuses
use Rattle.command_base.specs.Printing.{TellsAll}
use Rattle.command_base.specs.Texts.{Trouble, fault, output_fault, grammar, compressed, limit, output_limit, not_indexed, flaw, bad_line, no_memory, status_of}
use Rattle.command_base.specs.ComplaintTroubles.{complained}
use Rattle.command_base.specs.Ran.{Scene, counts_in, counted_faults, AnyRose, IsCaused, Blames, named_when, failed_names, troubles_of, Complains}
use Rattle.command_base.specs.OneFile.{Ending, was_read, halted, failing, lacked, troubles_in, is_lack, ending_status, AskedRose}
use Rattle.command_base.specs.OneFileSteps.{IsHalt, HaltsWell}
use Rattle.command_base.specs.Scenes.{scene}
use Rattle.command_base.proofs.Counting.{not_risen}
use Rattle.command_base.proofs.Blamed.{each_two, some_two}
use Rattle.command_base.proofs.OneFile.{is_true, same_tests, either, which, neither, own, status_where, status_for, own_other, fault_where, memory_where, lack_is, fault_or, broke_rose, all_read, all_taken, calm_status}
use Rattle.command_read.specs.declared.two_files.TwoFaults.{TwoFaults}
use Rattle.command_read.specs.declared.two_files.Found.{Found}
use Rattle.command_read.specs.TwoFiles.{two_files, failed_two, two_findings, ReadsTwo}
use Rattle.command_read.specs.TwoFilesSteps.{ShowsTwoFaults, FindsTwo, due_of_two}

-- ---- the status

-- what holds of each four answers
each_four : (P : Bool → Bool → Bool → Bool → Type 0) → P true true true true → P true true true false → P true true false true → P true true false false → P true false true true → P true false true false → P true false false true → P true false false false → P false true true true → P false true true false → P false true false true → P false true false false → P false false true true → P false false true false → P false false false true → P false false false false → (s a b p : Bool) → P s a b p
each_four P q0 q1 q2 q3 q4 q5 q6 q7 q8 q9 q10 q11 q12 q13 q14 q15 true true true true = q0
each_four P q0 q1 q2 q3 q4 q5 q6 q7 q8 q9 q10 q11 q12 q13 q14 q15 true true true false = q1
each_four P q0 q1 q2 q3 q4 q5 q6 q7 q8 q9 q10 q11 q12 q13 q14 q15 true true false true = q2
each_four P q0 q1 q2 q3 q4 q5 q6 q7 q8 q9 q10 q11 q12 q13 q14 q15 true true false false = q3
each_four P q0 q1 q2 q3 q4 q5 q6 q7 q8 q9 q10 q11 q12 q13 q14 q15 true false true true = q4
each_four P q0 q1 q2 q3 q4 q5 q6 q7 q8 q9 q10 q11 q12 q13 q14 q15 true false true false = q5
each_four P q0 q1 q2 q3 q4 q5 q6 q7 q8 q9 q10 q11 q12 q13 q14 q15 true false false true = q6
each_four P q0 q1 q2 q3 q4 q5 q6 q7 q8 q9 q10 q11 q12 q13 q14 q15 true false false false = q7
each_four P q0 q1 q2 q3 q4 q5 q6 q7 q8 q9 q10 q11 q12 q13 q14 q15 false true true true = q8
each_four P q0 q1 q2 q3 q4 q5 q6 q7 q8 q9 q10 q11 q12 q13 q14 q15 false true true false = q9
each_four P q0 q1 q2 q3 q4 q5 q6 q7 q8 q9 q10 q11 q12 q13 q14 q15 false true false true = q10
each_four P q0 q1 q2 q3 q4 q5 q6 q7 q8 q9 q10 q11 q12 q13 q14 q15 false true false false = q11
each_four P q0 q1 q2 q3 q4 q5 q6 q7 q8 q9 q10 q11 q12 q13 q14 q15 false false true true = q12
each_four P q0 q1 q2 q3 q4 q5 q6 q7 q8 q9 q10 q11 q12 q13 q14 q15 false false true false = q13
each_four P q0 q1 q2 q3 q4 q5 q6 q7 q8 q9 q10 q11 q12 q13 q14 q15 false false false true = q14
each_four P q0 q1 q2 q3 q4 q5 q6 q7 q8 q9 q10 q11 q12 q13 q14 q15 false false false false = q15

abbrev due_at : List ℕ → List ℕ → Bool → Ending → Bool → Bool → Bool → List Trouble
due_at file other s ending a b p = troubles_of (two_files file other) (two_findings s ending) (failed_two a b) p

abbrev IsStatusTwo : List ℕ → List ℕ → Bool → Ending → Bool → Bool → Bool → Type 0
IsStatusTwo file other s ending a b p = status_of (due_at file other s ending a b p) ≡ status_for ending (a || b) p

halted_two : (file other : List ℕ) (trouble : Trouble) → IsHalt trouble → (s a b p : Bool) → IsStatusTwo file other s (halted trouble) a b p
halted_two file other (fault name) (inl is) s a b p = absurd cc
halted_two file other (fault name) (inr is) s a b p = absurd cc
halted_two file other output_fault (inl is) s a b p = absurd cc
halted_two file other output_fault (inr is) s a b p = absurd cc
halted_two file other no_memory (inl is) s a b p = absurd cc
halted_two file other no_memory (inr is) s a b p = absurd cc
halted_two file other (grammar name n) is s a b p = each_four (λ s a b p. IsStatusTwo file other s (halted (grammar name n)) a b p) refl refl refl refl refl refl refl refl refl refl refl refl refl refl refl refl s a b p
halted_two file other (compressed name compression n) is s a b p = each_four (λ s a b p. IsStatusTwo file other s (halted (compressed name compression n)) a b p) refl refl refl refl refl refl refl refl refl refl refl refl refl refl refl refl s a b p
halted_two file other (limit name n) is s a b p = each_four (λ s a b p. IsStatusTwo file other s (halted (limit name n)) a b p) refl refl refl refl refl refl refl refl refl refl refl refl refl refl refl refl s a b p
halted_two file other (output_limit name) is s a b p = each_four (λ s a b p. IsStatusTwo file other s (halted (output_limit name)) a b p) refl refl refl refl refl refl refl refl refl refl refl refl refl refl refl refl s a b p
halted_two file other (not_indexed name why) is s a b p = each_four (λ s a b p. IsStatusTwo file other s (halted (not_indexed name why)) a b p) refl refl refl refl refl refl refl refl refl refl refl refl refl refl refl refl s a b p
halted_two file other (flaw name rule n) is s a b p = each_four (λ s a b p. IsStatusTwo file other s (halted (flaw name rule n)) a b p) refl refl refl refl refl refl refl refl refl refl refl refl refl refl refl refl s a b p
halted_two file other (bad_line name n) is s a b p = each_four (λ s a b p. IsStatusTwo file other s (halted (bad_line name n)) a b p) refl refl refl refl refl refl refl refl refl refl refl refl refl refl refl refl s a b p

status_two : (file other : List ℕ) (ending : Ending) → HaltsWell ending → (s a b p : Bool) → IsStatusTwo file other s ending a b p
status_two file other (was_read text) well s a b p = each_four (λ s a b p. IsStatusTwo file other s (was_read text) a b p) refl refl refl refl refl refl refl refl refl refl refl refl refl refl refl refl s a b p
status_two file other (halted trouble) well s a b p = halted_two file other trouble (well trouble refl) s a b p
status_two file other failing well s a b p = each_four (λ s a b p. IsStatusTwo file other s failing a b p) refl refl refl refl refl refl refl refl refl refl refl refl refl refl refl refl s a b p
status_two file other lacked well s a b p = each_four (λ s a b p. IsStatusTwo file other s lacked a b p) refl refl refl refl refl refl refl refl refl refl refl refl refl refl refl refl s a b p

-- the troubles that were told are those of the ending
due_same : (file other : List ℕ) (s : Bool) (ending : Ending) (faults : TwoFaults) → due_of_two file other (if s then [] else troubles_in ending) (if s then troubles_in ending else []) faults (is_lack ending) ≡ due_at file other s ending faults.file faults.other faults.printing
due_same file other true ending faults = refl
due_same file other false ending faults = refl

pub first_false : (a b : Bool) → (a || b) ≡ false → a ≡ false
first_false true b is = is
first_false false b is = refl

pub second_false : (a b : Bool) → (a || b) ≡ false → b ≡ false
second_false true b is = absurd cc
second_false false b is = is

-- ---- the command

module _ (file other : List ℕ) (old : Scene) (world : WorldState) (out err : SinkState) (entries : List Opening) (second : Bool) (ending : Ending) (found : Found) (faults : TwoFaults) (answer : Status)
    (f : FindsTwo file other old world out entries second ending found)
    (shows : ShowsTwoFaults (counts_in old) (counted_faults world out) found.file_failed found.other_failed found.broke faults)
    (told : Complains (due_of_two file other (complained found.file_halt) (complained found.other_halt) faults found.lacked) old.err err answer) where
  abbrev new : Scene
  new = scene world out err

  abbrev both : Bool
  both = faults.file || faults.other

  abbrev broken : Bool
  broken = found.file_failed || found.other_failed

  due_is : due_of_two file other (complained found.file_halt) (complained found.other_halt) faults found.lacked ≡ due_at file other second ending faults.file faults.other faults.printing
  due_is =
      ap (λ (l : List Trouble). due_of_two file other l (complained found.other_halt) faults found.lacked) f.file_halt
      ∙ ap (λ (l : List Trouble). due_of_two file other (if second then [] else troubles_in ending) l faults found.lacked) f.other_halt
      ∙ ap (λ (b : Bool). due_of_two file other (if second then [] else troubles_in ending) (if second then troubles_in ending else []) faults b) f.lacks
      ∙ due_same file other second ending faults

  said_is : Complains (due_at file other second ending faults.file faults.other faults.printing) old.err err answer
  said_is = subst (λ (l : List Trouble). Complains l old.err err answer) due_is told

  answer_is : answer ≡ status_for ending both faults.printing
  answer_is = said_is.status_is ∙ status_two file other ending f.well second faults.file faults.other faults.printing

  abbrev FilesRose : Type 0
  FilesRose = Rose old.world.faults world.faults ⊎ Rose old.world.input_faults world.input_faults

  files_rose : both ≡ true → FilesRose
  files_rose blamed = elim (which faults.file faults.other blamed) [
    | inl one ↦ elim (shows.file_cause one) [
      | inl is ↦ f.names.cause (either found.file_failed found.other_failed (inl is))
      | inr (none, risen) ↦ risen
    ]
    | inr two ↦ f.names.cause (either found.file_failed found.other_failed (inr (sym shows.other_is ∙ two)))
  ]

  printing_rose : faults.printing ≡ true → Rose old.out.faults out.faults
  printing_rose blamed = elim (shows.printing_cause blamed) [ inl is ↦ broke_rose old.out out ending found.broke f.prints is | inr risen ↦ risen ]

  rose : AskedRose (counts_in old) (counts_in new) → (answer ≡ statuses.Fault) ⊎ (answer ≡ statuses.Memory)
  rose risen =
      let some : (both || faults.printing) ≡ true = either both faults.printing (elim risen [
        | inl world_rose ↦ inl (shows.told (inl world_rose))
        | inr (inl inputs) ↦ inl (shows.told (inr inputs))
        | inr (inr printing) ↦ inr (shows.printing_told (inr printing))
      ]) in
      fault_or (is_lack ending) (both || faults.printing) (own ending) answer some answer_is

  faulted : answer ≡ statuses.Fault → AskedRose (counts_in old) (counts_in new)
  faulted is = elim (which both faults.printing (fault_where (is_lack ending) (both || faults.printing) (own ending) (λ e. own_other ending statuses.Fault f.well e (inl refl)) (sym answer_is ∙ is))) [
    | inl blamed ↦ elim (files_rose blamed) [ inl world_rose ↦ inl world_rose | inr inputs ↦ inr (inl inputs) ]
    | inr blamed ↦ inr (inr (printing_rose blamed))
  ]

  memory : (answer ≡ statuses.Memory) ↔ (ending ≡ lacked)
  memory = (
    λ is. lack_is ending (memory_where (is_lack ending) (both || faults.printing) (own ending) (λ e. own_other ending statuses.Memory f.well e (inr refl)) (sym answer_is ∙ is)),
    λ is. answer_is ∙ ap (λ (e : Ending). status_for e both faults.printing) is,
  )

  files_calm : (AnyRose (counts_in old) (counts_in new) → ⊥) → both ≡ false
  files_calm quiet = false_from_ne_true both (λ blamed. elim (files_rose blamed) [ inl world_rose ↦ quiet (inl world_rose) | inr inputs ↦ quiet (inr (inl inputs)) ])

  printing_calm : (AnyRose (counts_in old) (counts_in new) → ⊥) → faults.printing ≡ false
  printing_calm quiet = false_from_ne_true faults.printing (λ blamed. quiet (inr (inr (inr (printing_rose blamed)))))

  -- a file that isn't blamed didn't fail
  unblamed : both ≡ false → broken ≡ false
  unblamed well = false_from_ne_true broken (λ is. both_ways both well (either faults.file faults.other (elim (which found.file_failed found.other_failed is) [
    | inl one ↦ inl (shows.file_told one)
    | inr two ↦ inr (shows.other_is ∙ two)
  ])))

  unnamed : broken ≡ false → failed_names entries ≡ []
  unnamed well =
      f.names.names_are
      ∙ ap (λ (b : Bool). named_when b file ++ (named_when found.other_failed other ++ [])) (first_false found.file_failed found.other_failed well)
      ∙ ap (λ (b : Bool). named_when b other ++ []) (second_false found.file_failed found.other_failed well)

  calm : (AnyRose (counts_in old) (counts_in new) → ⊥) → (failed_names entries ≡ []) × (ending ≡ failing → ⊥) × (answer ≡ ending_status ending)
  calm quiet =
      let well = unblamed (files_calm quiet) in
      let unfailing : ending ≡ failing → ⊥ = λ e. both_ways broken well (f.sure e) in
      let none : (both || faults.printing) ≡ false = neither both faults.printing (files_calm quiet) (printing_calm quiet) in
      (unnamed well, unfailing, answer_is ∙ ap (λ (b : Bool). status_where (is_lack ending) b (own ending)) none ∙ calm_status ending unfailing)

  whole : answer ≡ statuses.Done → (failed_names entries ≡ []) × ((text : List ℕ) × (ending ≡ was_read text) × TellsAll old.out new.out text)
  whole done =
      let all = all_read ending both faults.printing f.well (sym answer_is ∙ done) (λ well e. both_ways broken (unblamed well) (f.sure e)) in
      let well : found.broke ≡ false = false_from_ne_true found.broke (λ is. both_ways faults.printing all.3 (shows.printing_told (inl is))) in
      (unnamed (unblamed all.2), (all.0, all.1, all_taken old.out new.out ending found.broke all.0 f.prints all.1 well))

  file_same : (FilesRose → broken ≡ true) → faults.file ≡ found.file_failed
  file_same risen_told = same_tests faults.file found.file_failed (λ blamed. elim (shows.file_cause blamed) [
    | inl is ↦ is
    | inr (none, risen) ↦ elim (which found.file_failed found.other_failed (risen_told risen)) [ inl is ↦ is | inr is ↦ absurd (both_ways found.other_failed none is) ]
  ]) shows.file_told

  blames : Blames (two_files file other) old.world world entries (named_when faults.file file ++ (named_when faults.other other ++ []))
  blames = record {
    exact = λ on.
        let same = file_same (λ risen. is_true broken (λ none. elim risen [
          | inl world_rose ↦ not_risen ⊥ old.world.faults world.faults on.world (f.names.world_told none) world_rose
          | inr inputs ↦ not_risen ⊥ old.world.input_faults world.input_faults on.inputs (f.names.inputs_told none) inputs
        ])) in
        ap (λ (b : Bool). named_when b file ++ (named_when faults.other other ++ [])) same
        ∙ ap (λ (b : Bool). named_when found.file_failed file ++ (named_when b other ++ [])) shows.other_is
        ∙ sym f.names.names_are;
    caused = each_two (IsCaused (two_files file other) old.world world) faults.file faults.other file other
        (λ blamed. elim (files_rose (either faults.file faults.other (inl blamed))) [ inl world_rose ↦ inl world_rose | inr inputs ↦ inr (inl ((0, refl), inputs)) ])
        (λ blamed. elim (files_rose (either faults.file faults.other (inr blamed))) [ inl world_rose ↦ inl world_rose | inr inputs ↦ inr (inl ((1, refl), inputs)) ]);
    told = λ on risen none. elim risen [
      | inl world_rose ↦ some_two faults.file faults.other file other (which faults.file faults.other (shows.told (inl world_rose))) none
      | inr (inl inputs) ↦ some_two faults.file faults.other file other (which faults.file faults.other (shows.told (inr inputs))) none
      | inr (inr outputs) ↦ not_risen ⊥ old.world.output_faults world.output_faults on.outputs f.names.outputs outputs
    ];
  }

  -- all that is promised of the command
  pub reads_two : ReadsTwo file other old new entries second ending answer
  reads_two = record {
    ran = record {
      opened = f.names.opened;
      leaves = f.names.leaves;
      counts = f.names.counts;
      printed = f.takes;
      failed = failed_two faults.file faults.other;
      blames = blames;
      printing = faults.printing;
      blames_output = (printing_rose, λ risen. shows.printing_told (inr risen));
      said = said_is;
    };
    file_blamed = faults.file;
    other_blamed = faults.other;
    blame = refl;
    cause = (files_rose, shows.told);
    memory = memory;
    rose = rose;
    faulted = faulted;
    calm = calm;
    whole = whole;
  }
