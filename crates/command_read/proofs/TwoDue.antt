-- The complaints of a command that reads a file and then another, as a list.
use Rattle.std.proofs.Common.{◌≡◌, ◌⊎◌, ℕ, not, ◌||◌, Bool, true, false, if◌then◌else◌, List, [], ◌∷◌, ◌++◌, Option, refl, sym, inl, inr, ap, subst, ◌∙◌}
use Rattle.std.specs.Prelude.{◌↔◌}
use Rattle.std.proofs.lemmas.Bool.{false≢true}
use Rattle.mcap_io.specs.Outside.{Rose}
use Rattle.std.specs.List.{flat_map}
use Rattle.std.proofs.lemmas.List.{append-nil}
use Rattle.command_base.specs.declared.complaint.Complaint.{Complaint}
use Rattle.command_base.specs.declared.faults.Counts.{Counts}
use Rattle.command_base.specs.Texts.{Trouble, fault, output_fault, no_memory}
use Rattle.command_base.specs.ComplaintTroubles.{complained}
use Rattle.command_base.specs.Ran.{when}
use Rattle.command_base.proofs.OneFile.{either, which}
use Rattle.command_read.specs.declared.two_files.TwoFaults.{TwoFaults}
use Rattle.command_read.specs.TwoFilesSteps.{ShowsTwoFaults, due_of_two}

pub two_due : (file other : List ℕ) (faults : TwoFaults) (lacks : Bool) (a b c d e f : Option Complaint) → complained b ≡ when faults.file (fault file) → complained d ≡ when faults.other (fault other) → complained e ≡ when faults.printing output_fault → complained f ≡ when lacks no_memory
    → flat_map complained (a ∷ b ∷ c ∷ d ∷ e ∷ f ∷ []) ≡ due_of_two file other (complained a) (complained c) faults lacks
two_due file other faults lacks a b c d e f second fourth fifth sixth =
    ap (λ (l : List Trouble). complained a ++ (l ++ (complained c ++ (complained d ++ (complained e ++ (complained f ++ [])))))) second
    ∙ ap (λ (l : List Trouble). complained a ++ (when faults.file (fault file) ++ (complained c ++ (l ++ (complained e ++ (complained f ++ [])))))) fourth
    ∙ ap (λ (l : List Trouble). complained a ++ (when faults.file (fault file) ++ (complained c ++ (when faults.other (fault other) ++ (l ++ (complained f ++ [])))))) fifth
    ∙ ap (λ (l : List Trouble). complained a ++ (when faults.file (fault file) ++ (complained c ++ (when faults.other (fault other) ++ (when faults.printing output_fault ++ (l ++ [])))))) sixth
    ∙ ap (λ (l : List Trouble). complained a ++ (when faults.file (fault file) ++ (complained c ++ (when faults.other (fault other) ++ (when faults.printing output_fault ++ l))))) (append-nil (when lacks no_memory))

-- what holds of counts holds of equal ones
pub shows_two : (b before n now : Counts) (one two broke : Bool) (faults : TwoFaults) → b ≡ before → n ≡ now → ShowsTwoFaults b n one two broke faults → ShowsTwoFaults before now one two broke faults
shows_two b before n now one two broke faults same same_now shows =
    subst (λ (x : Counts). ShowsTwoFaults before x one two broke faults) same_now (subst (λ (x : Counts). ShowsTwoFaults x n one two broke faults) same shows)

-- ---- faults

abbrev blames_file : Bool → Bool → Bool → Bool → Bool
blames_file f o w i = f || ((if w then not o else false) || (if i then not o else false))

told_by : (f o w i : Bool) → (w ≡ true) ⊎ (i ≡ true) → (blames_file f o w i || o) ≡ true
told_by true o w i some = refl
told_by false true true true some = refl
told_by false true true false some = refl
told_by false true false true some = refl
told_by false true false false some = refl
told_by false false true i some = refl
told_by false false false true some = refl
told_by false false false false (inl is) = absurd (false≢true is)
told_by false false false false (inr is) = absurd (false≢true is)

cause_by : (f o w i : Bool) → blames_file f o w i ≡ true → (f ≡ true) ⊎ ((o ≡ false) × ((w ≡ true) ⊎ (i ≡ true)))
cause_by true o w i is = inl refl
cause_by false true true true is = absurd (false≢true is)
cause_by false true true false is = absurd (false≢true is)
cause_by false true false true is = absurd (false≢true is)
cause_by false true false false is = absurd (false≢true is)
cause_by false false true i is = inr (refl, inl refl)
cause_by false false false true is = inr (refl, inr refl)
cause_by false false false false is = absurd (false≢true is)

or_none : (p : Bool) → (p || false) ≡ p
or_none true = refl
or_none false = refl

-- which parts failed, by the counts that rose
pub two_show : (before now : Counts) (f o broke w i p : Bool) (faults : TwoFaults) → faults.file ≡ blames_file f o w i → faults.other ≡ o → faults.printing ≡ (broke || (p || false))
    → (w ≡ true) ↔ Rose before.world now.world → (i ≡ true) ↔ Rose before.inputs now.inputs → (p ≡ true) ↔ Rose before.printing now.printing → ShowsTwoFaults before now f o broke faults
two_show before now f o broke w i p faults file other printing world inputs printed = record {
  other_is = other;
  file_told = λ is. file ∙ ap (λ (b : Bool). blames_file b o w i) is;
  told = λ risen. ap (λ (b : Bool). b || faults.other) file ∙ ap (λ (b : Bool). blames_file f o w i || b) other
      ∙ told_by f o w i (elim risen [ inl one ↦ inl (world.1 one) | inr two ↦ inr (inputs.1 two) ]);
  file_cause = λ is. elim (cause_by f o w i (sym file ∙ is)) [
    | inl told ↦ inl told
    | inr (none, inl one) ↦ inr (none, inl (world.0 one))
    | inr (none, inr two) ↦ inr (none, inr (inputs.0 two))
  ];
  printing_told = λ some. printing ∙ ap (λ (b : Bool). broke || b) (or_none p) ∙ either broke p (elim some [ inl is ↦ inl is | inr risen ↦ inr (printed.1 risen) ]);
  printing_cause = λ is. elim (which broke p (sym (printing ∙ ap (λ (b : Bool). broke || b) (or_none p)) ∙ is)) [ inl told ↦ inl told | inr risen ↦ inr (printed.0 risen) ];
}
