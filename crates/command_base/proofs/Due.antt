-- Which troubles are due of the reading of a file, as a list.
use Rattle.std.proofs.Common.{◌≡◌, ℕ, Bool, List, [], ◌∷◌, ◌++◌, Option, ap, ◌∙◌}
use Rattle.std.specs.List.{flat_map}
use Rattle.std.proofs.lemmas.List.{append-nil}
use Rattle.command_base.specs.declared.complaint.Complaint.{Complaint}
use Rattle.command_base.specs.Texts.{Trouble, fault, output_fault, no_memory}
use Rattle.command_base.specs.ComplaintTroubles.{complained}
use Rattle.command_base.specs.Ran.{when}

-- the complaints of a reading, in their order
pub one_due : (file : List ℕ) (halts : List Trouble) (failed printing lacked : Bool) (a b c d : Option Complaint) → complained a ≡ halts → complained b ≡ when failed (fault file) → complained c ≡ when printing output_fault → complained d ≡ when lacked no_memory
    → flat_map complained (a ∷ b ∷ c ∷ d ∷ []) ≡ halts ++ (when failed (fault file) ++ (when printing output_fault ++ when lacked no_memory))
one_due file halts failed printing lacked a b c d first second third fourth =
    ap (λ (l : List Trouble). l ++ (complained b ++ (complained c ++ (complained d ++ [])))) first
    ∙ ap (λ (l : List Trouble). halts ++ (l ++ (complained c ++ (complained d ++ [])))) second
    ∙ ap (λ (l : List Trouble). halts ++ (when failed (fault file) ++ (l ++ (complained d ++ [])))) third
    ∙ ap (λ (l : List Trouble). halts ++ (when failed (fault file) ++ (when printing output_fault ++ (l ++ [])))) fourth
    ∙ ap (λ (l : List Trouble). halts ++ (when failed (fault file) ++ (when printing output_fault ++ l))) (append-nil (when lacked no_memory))
