-- Which troubles are due of a recording with watchers, as a list.
use Rattle.std.proofs.Common.{◌≡◌, ℕ, ◌+◌, Bool, List, [], ◌∷◌, ◌++◌, drop, append_assoc, Option, refl, sym, ap, ◌∙◌}
use Rattle.std.specs.List.{flat_map}
use Rattle.std.proofs.lemmas.List.{append-nil, drop-drop}
use Rattle.std.proofs.lemmas.Grind.{flat_map-append}
use Rattle.live_watcher.specs.declared.report.WatchReport.{WatchReport}
use Rattle.command_base.specs.declared.complaint.Complaint.{Complaint}
use Rattle.command_base.specs.Texts.{Trouble, fault}
use Rattle.command_base.specs.ComplaintTroubles.{complained}
use Rattle.command_base.specs.Ran.{when, first_halts, first_failed, told_of}
use Rattle.command_record.specs.WatchedAnswer.{flaws_of}
use Rattle.command_record.specs.WatchedSteps.{first_flaw}

-- ---- one watcher after another

no_flaws : (names : List (List ℕ)) → flaws_of names [] ≡ []
no_flaws [] = refl
no_flaws (name ∷ names) = refl

next_flaws : (name : List ℕ) (names : List (List ℕ)) (reports : List WatchReport) → drop 1 (flaws_of (name ∷ names) reports) ≡ flaws_of names (drop 1 reports)
next_flaws name names [] = sym (no_flaws names)
next_flaws name names (w ∷ ws) = refl

first_flaws : (name : List ℕ) (names : List (List ℕ)) (reports : List WatchReport) → first_halts (flaws_of (name ∷ names) reports) ≡ first_flaw name reports
first_flaws name names [] = refl
first_flaws name names (w ∷ ws) = refl

-- the troubles of the watchers from an index on
abbrev pub watches_from : ℕ → List (List ℕ) → List WatchReport → List Bool → List Trouble
watches_from i names reports flags = told_of (drop i names) (flaws_of (drop i names) (drop i reports)) (drop i flags) []

from_next : (i : ℕ) (names : List (List ℕ)) (reports : List WatchReport) (flags : List Bool) (name : List ℕ) → drop i names ≡ name ∷ drop (i + 1) names
    → watches_from i names reports flags ≡ first_flaw name (drop i reports) ++ (when (first_failed (drop i flags)) (fault name) ++ watches_from (i + 1) names reports flags)
from_next i names reports flags name next =
    let more = drop (i + 1) names in
    let left = drop i reports in
    let blamed = when (first_failed (drop i flags)) (fault name) in
    ap (λ (l : List (List ℕ)). told_of l (flaws_of l left) (drop i flags) []) next
    ∙ ap (λ (l : List Trouble). l ++ (blamed ++ told_of more (drop 1 (flaws_of (name ∷ more) left)) (drop 1 (drop i flags)) [])) (first_flaws name more left)
    ∙ ap (λ (l : List (List Trouble)). first_flaw name left ++ (blamed ++ told_of more l (drop 1 (drop i flags)) [])) (next_flaws name more left ∙ ap (flaws_of more) (drop-drop 1 i reports))
    ∙ ap (λ (l : List Bool). first_flaw name left ++ (blamed ++ told_of more (flaws_of more (drop (i + 1) reports)) l [])) (drop-drop 1 i flags)

-- two complaints more
pub two_more : (done items : List (Option Complaint)) (a b : Option Complaint) → items ≡ (done ++ a ∷ []) ++ b ∷ [] → flat_map complained items ≡ flat_map complained done ++ (complained a ++ complained b)
two_more done items a b are =
    ap (flat_map complained) (are ∙ append_assoc done (a ∷ []) (b ∷ [])) ∙ flat_map-append complained done (a ∷ b ∷ [])
    ∙ ap (λ (l : List Trouble). flat_map complained done ++ (complained a ++ l)) (append-nil (complained b))

pub watch_due : (done : List (Option Complaint)) (all : List Trouble) (i : ℕ) (names : List (List ℕ)) (reports : List WatchReport) (flags : List Bool) (name : List ℕ) (a b : Option Complaint) (items : List (Option Complaint))
    → flat_map complained done ++ watches_from i names reports flags ≡ all → drop i names ≡ name ∷ drop (i + 1) names → complained a ≡ first_flaw name (drop i reports) → complained b ≡ when (first_failed (drop i flags)) (fault name)
    → items ≡ (done ++ a ∷ []) ++ b ∷ [] → flat_map complained items ++ watches_from (i + 1) names reports flags ≡ all
watch_due done all i names reports flags name a b items so_far next is_a is_b are =
    let later = watches_from (i + 1) names reports flags in
    let here : watches_from i names reports flags ≡ complained a ++ (complained b ++ later) =
    from_next i names reports flags name next
    ∙ ap (λ (l : List Trouble). l ++ (when (first_failed (drop i flags)) (fault name) ++ later)) (sym is_a)
    ∙ ap (λ (l : List Trouble). complained a ++ (l ++ later)) (sym is_b) in
    ap (λ (l : List Trouble). l ++ later) (two_more done items a b are)
    ∙ append_assoc (flat_map complained done) (complained a ++ complained b) later
    ∙ ap (λ (l : List Trouble). flat_map complained done ++ l) (append_assoc (complained a) (complained b) later ∙ sym here)
    ∙ so_far

-- all of them: those of the feeds, of the output, of the watchers, and the others
pub all_due : (feeds_done out_done watches_done all_done : List (Option Complaint)) (a b c d : Option Complaint) (feeds watches out limit printing memory : List Trouble) → flat_map complained feeds_done ≡ feeds → complained a ≡ out → complained b ≡ limit → complained c ≡ printing → complained d ≡ memory
    → out_done ≡ (feeds_done ++ a ∷ []) ++ b ∷ [] → flat_map complained watches_done ≡ flat_map complained out_done ++ watches → all_done ≡ (watches_done ++ c ∷ []) ++ d ∷ []
    → flat_map complained all_done ≡ feeds ++ (out ++ (limit ++ (watches ++ (printing ++ memory))))
all_due feeds_done out_done watches_done all_done a b c d feeds watches out limit printing memory is is_a is_b is_c is_d first second third =
    let behind = printing ++ memory in
    let last : flat_map complained all_done ≡ flat_map complained watches_done ++ behind =
    two_more watches_done all_done c d third ∙ ap (λ (l : List Trouble). flat_map complained watches_done ++ (l ++ complained d)) is_c ∙ ap (λ (l : List Trouble). flat_map complained watches_done ++ (printing ++ l)) is_d in
    let front : flat_map complained out_done ≡ feeds ++ (out ++ limit) =
    two_more feeds_done out_done a b first ∙ ap (λ (l : List Trouble). l ++ (complained a ++ complained b)) is ∙ ap (λ (l : List Trouble). feeds ++ (l ++ complained b)) is_a ∙ ap (λ (l : List Trouble). feeds ++ (out ++ l)) is_b in
    last
    ∙ ap (λ (l : List Trouble). l ++ behind) (second ∙ ap (λ (l : List Trouble). l ++ watches) front)
    ∙ append_assoc (feeds ++ (out ++ limit)) watches behind
    ∙ append_assoc feeds (out ++ limit) (watches ++ behind)
    ∙ ap (λ (l : List Trouble). feeds ++ l) (append_assoc out limit (watches ++ behind))
