-- What becomes of the names of a command that reads a file and then another.
use Rattle.std.proofs.Common.{◌≡◌, ℕ, zero, suc, ◌+◌, Bool, true, false, List, [], ◌∷◌, ◌++◌, Option, refl, sym, ap, subst, inl, inr, ◌∙◌, append_assoc, arith}
use Rattle.std.specs.Prelude.{IsSome}
use Rattle.std.proofs.lemmas.Grind.{flat_map-append}
use Rattle.mcap_io.specs.Outside.{Rose, added, SourceState, WorldState, Opening, TellsName}
use Rattle.mcap_io.specs.declared.outside.ObjectKind.TheVariants as kinds
use Rattle.mcap_model.specs.Places.{At}
use Rattle.mcap_model.proofs.Places.{at_none}
use Rattle.command_base.specs.Ran.{wanted, AreOpened, IsGivenLive, world_faults, input_faults, output_faults, has_failed, named_when, failed_names}
use Rattle.command_base.specs.OneFile.{single_file, NameRead}
use Rattle.command_base.proofs.OneFile.{which}
use Rattle.command_read.specs.TwoFiles.{two_files}
use Rattle.command_read.specs.TwoFilesSteps.{TwoRead}
use Rattle.command_read.specs.PlaySteps.{IsTakenBack}
use Rattle.command_read.proofs.TwoFiles.{first_false, second_false}

same_entry : (a b : Opening) (n : ℕ) → At (a ∷ []) n b → a ≡ b
same_entry a b zero at = cc
same_entry a b (suc n) at = absurd (at_none n b at)

lone_live : (entry : Opening) (name : List ℕ) → entry.kind ≡ kinds.Source → IsGivenLive (entry ∷ []) name → ⊥
lone_live entry name is given = apart (sym is ∙ ap (λ (o : Opening). o.kind) (same_entry entry given.entry given.there.0 given.there.1) ∙ given.live)
  where
    apart : kinds.Source ≡ kinds.Live → ⊥
    apart e = cc

-- no name is written
pub unlive : (file : List ℕ) (entries : List Opening) → AreOpened (wanted (single_file kinds.Source file)) entries → (name : List ℕ) → IsGivenLive entries name → ⊥
unlive file [] opened name given = at_none given.there.0 given.entry given.there.1
unlive file (entry ∷ more) (inl (is, none)) name given =
    lone_live entry name (ap (λ (o : Opening). o.kind) is) (subst (λ (l : List Opening). IsGivenLive (entry ∷ l) name) none given)
unlive file (entry ∷ more) (inr (keeping, is, none)) name given =
    lone_live entry name (ap (λ (o : Opening). o.kind) is) (subst (λ (l : List Opening). IsGivenLive (entry ∷ l) name) none given)

nothing_more : (other : List ℕ) (entries : List Opening) → entries ≡ [] → AreOpened ((kinds.Source, other) ∷ []) entries
nothing_more other [] none = tt
nothing_more other (entry ∷ more) none = absurd cc

-- the second file wasn't opened
pub one_read : (file other : List ℕ) (old new : WorldState) (entries : List Opening) (failed : Bool) → NameRead kinds.Source file old new entries failed → TwoRead file other old new entries failed false
one_read file other old new entries failed r = record {
  opened = opened_by entries r.opened;
  leaves = r.leaves;
  counts = r.counts;
  names_are = r.names_are;
  cause = λ some. r.cause (elim (which failed false some) [ inl is ↦ is | inr is ↦ absurd cc ]);
  world_told = λ none. r.world_told (first_false failed false none);
  inputs_told = λ none. r.inputs_told (first_false failed false none);
  outputs = r.outputs;
}
  where
    opened_by : (es : List Opening) → AreOpened (wanted (single_file kinds.Source file)) es → AreOpened (wanted (two_files file other)) es
    opened_by [] are = tt
    opened_by (entry ∷ more) (inl (is, none)) = inl (is, none)
    opened_by (entry ∷ more) (inr (keeping, is, none)) = inr (keeping, is, nothing_more other more none)

rose_first : (a b c x : ℕ) → Rose a b → c ≡ added b x → Rose a c
rose_first a b c x rose is = omega (arith, rose, is)

rose_second : (a b c x : ℕ) → b ≡ added a x → Rose b c → Rose a c
rose_second a b c x is rose = omega (arith, rose, is)

added_both : (a b c x y z : ℕ) → b ≡ added a x → c ≡ added b y → z ≡ x + y → c ≡ added a z
added_both a b c x y z first second sum = omega (arith, first, second, sum)

-- both were
pub two_read : (file other : List ℕ) (old mid new : WorldState) (entries more : List Opening) (failed also : Bool) → IsTakenBack file entries → NameRead kinds.Source file old mid entries failed → NameRead kinds.Source other mid new more also
    → TwoRead file other old new (entries ++ more) failed also
two_read file other old mid new entries more failed also back r s = record {
  opened = subst (λ (l : List Opening). AreOpened (wanted (two_files file other)) (l ++ more)) (sym back.1) (inr (back.0, refl, s.opened));
  leaves = λ told here.
      let a = r.leaves told here in
      let b = s.leaves a.0 a.1 in (
        b.0,
        b.1,
        b.2 ∙ ap (λ (l : List Opening). l ++ more) a.2 ∙ append_assoc told.log entries more,
        λ name none. b.3 name (unlive other more s.opened name) ∙ a.3 name (unlive file entries r.opened name),
      );
  counts = record {
    world = added_both old.faults mid.faults new.faults (world_faults entries) (world_faults more) (world_faults (entries ++ more)) r.counts.world s.counts.world (world_joined entries);
    inputs = added_both old.input_faults mid.input_faults new.input_faults (input_faults entries) (input_faults more) (input_faults (entries ++ more)) r.counts.inputs s.counts.inputs (inputs_joined entries);
    outputs = added_both old.output_faults mid.output_faults new.output_faults (output_faults entries) (output_faults more) (output_faults (entries ++ more)) r.counts.outputs s.counts.outputs (outputs_joined entries);
  };
  names_are = names;
  cause = λ some. elim (which failed also some) [
    | inl is ↦ elim (r.cause is) [
      | inl world ↦ inl (rose_first old.faults mid.faults new.faults (world_faults more) world s.counts.world)
      | inr inputs ↦ inr (rose_first old.input_faults mid.input_faults new.input_faults (input_faults more) inputs s.counts.inputs)
    ]
    | inr is ↦ elim (s.cause is) [
      | inl world ↦ inl (rose_second old.faults mid.faults new.faults (world_faults entries) r.counts.world world)
      | inr inputs ↦ inr (rose_second old.input_faults mid.input_faults new.input_faults (input_faults entries) r.counts.inputs inputs)
    ]
  ];
  world_told = λ none. s.world_told (second_false failed also none) ∙ r.world_told (first_false failed also none);
  inputs_told = λ none. s.inputs_told (second_false failed also none) ∙ r.inputs_told (first_false failed also none);
  outputs = s.outputs ∙ r.outputs;
}
  where
    world_joined : (es : List Opening) → world_faults (es ++ more) ≡ world_faults es + world_faults more
    world_joined [] = omega arith
    world_joined (e ∷ es) = let rest = world_joined es in omega (arith, rest)

    inputs_joined : (es : List Opening) → input_faults (es ++ more) ≡ input_faults es + input_faults more
    inputs_joined [] = omega arith
    inputs_joined (e ∷ es) = let rest = inputs_joined es in omega (arith, rest)

    outputs_joined : (es : List Opening) → output_faults (es ++ more) ≡ output_faults es + output_faults more
    outputs_joined [] = omega arith
    outputs_joined (e ∷ es) = let rest = outputs_joined es in omega (arith, rest)

    nested : (b : Bool) → (named_when b file ++ []) ++ (named_when also other ++ []) ≡ named_when b file ++ (named_when also other ++ [])
    nested true = refl
    nested false = refl

    names : failed_names (entries ++ more) ≡ named_when failed file ++ (named_when also other ++ [])
    names =
        flat_map-append (λ (o : Opening). named_when (has_failed o) o.name) entries more
        ∙ ap (λ (l : List (List ℕ)). l ++ failed_names more) r.names_are
        ∙ ap (λ (l : List (List ℕ)). (named_when failed file ++ []) ++ l) s.names_are
        ∙ nested failed

-- what a name tells after the file was taken back it told before
pub told_before : (file : List ℕ) (old mid : WorldState) (entries : List Opening) (failed : Bool) → NameRead kinds.Source file old mid entries failed → (other : List ℕ) (source : SourceState) → TellsName mid other source → TellsName old other source
told_before file old mid entries failed r other source tells told here =
    let a = r.leaves told here in
    let same = a.3 other (unlive file entries r.opened other) in
    let there = tells a.0 a.1 in
    (there.0 ∙ same, subst (λ (o : Option (List ℕ)). IsSome o) same there.1)
