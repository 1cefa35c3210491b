-- Which troubles are due of a command that reads some files and writes one, as a list.
use Rattle.std.proofs.Common.{◌≡◌, ℕ, zero, suc, ◌+◌, Bool, List, [], ◌∷◌, ◌++◌, drop, append_assoc, Option, refl, sym, ap, ◌∙◌, arith}
use Rattle.std.specs.List.{flat_map}
use Rattle.std.proofs.lemmas.List.{append-nil, drop-drop}
use Rattle.std.proofs.lemmas.Grind.{flat_map-append}
use Rattle.command_base.specs.declared.complaint.Complaint.{Complaint}
use Rattle.command_base.specs.Texts.{Trouble, fault}
use Rattle.command_base.specs.ComplaintTroubles.{complained}
use Rattle.command_base.specs.Ran.{when, first_halts, first_failed, told_of}
use Rattle.command_base.specs.Endings.{halts_at}

-- what is told behind the names
pub told_behind : (names : List (List ℕ)) (halts : List (List Trouble)) (flags : List Bool) (behind : List Trouble) → told_of names halts flags behind ≡ told_of names halts flags [] ++ behind
told_behind [] halts flags behind = refl
told_behind (name ∷ names) halts flags behind =
    let first = when (first_failed flags) (fault name) in
    let rest = told_of names (drop 1 halts) (drop 1 flags) [] in
    ap (λ (l : List Trouble). first_halts halts ++ (first ++ l)) (told_behind names (drop 1 halts) (drop 1 flags) behind)
    ∙ ap (λ (l : List Trouble). first_halts halts ++ l) (sym (append_assoc first rest behind))
    ∙ sym (append_assoc (first_halts halts) (first ++ rest) behind)

pub drop_again : {X : Type 0} (xs : List X) (i : ℕ) → drop 1 (drop i xs) ≡ drop (i + 1) xs
drop_again xs i = drop-drop 1 i xs

-- the troubles of the inputs from an index on
abbrev pub told_from : ℕ → List (List ℕ) → List (List Trouble) → List Bool → List Trouble
told_from i inputs halts flags = told_of (drop i inputs) (drop i halts) (drop i flags) []

-- those of one input more stand behind those so far
pub input_due : (done : List (Option Complaint)) (all : List Trouble) (i : ℕ) (inputs : List (List ℕ)) (halts : List (List Trouble)) (flags : List Bool) (input : List ℕ) (a b : Option Complaint) (items : List (Option Complaint))
    → flat_map complained done ++ told_from i inputs halts flags ≡ all → drop i inputs ≡ input ∷ drop (i + 1) inputs → drop 1 (drop i halts) ≡ drop (i + 1) halts → drop 1 (drop i flags) ≡ drop (i + 1) flags
    → complained a ≡ first_halts (drop i halts) → complained b ≡ when (first_failed (drop i flags)) (fault input) → items ≡ (done ++ a ∷ []) ++ b ∷ []
    → flat_map complained items ++ told_from (i + 1) inputs halts flags ≡ all
input_due done all i inputs halts flags input a b items so_far next halts_next flags_next is_a is_b are =
    let later = told_from (i + 1) inputs halts flags in
    let here : told_from i inputs halts flags ≡ complained a ++ (complained b ++ later) =
    ap (λ (l : List (List ℕ)). told_of l (drop i halts) (drop i flags) []) next
    ∙ ap (λ (l : List (List Trouble)). first_halts (drop i halts) ++ (when (first_failed (drop i flags)) (fault input) ++ told_of (drop (i + 1) inputs) l (drop 1 (drop i flags)) [])) halts_next
    ∙ ap (λ (l : List Bool). first_halts (drop i halts) ++ (when (first_failed (drop i flags)) (fault input) ++ told_of (drop (i + 1) inputs) (drop (i + 1) halts) l [])) flags_next
    ∙ ap (λ (l : List Trouble). l ++ (when (first_failed (drop i flags)) (fault input) ++ later)) (sym is_a)
    ∙ ap (λ (l : List Trouble). complained a ++ (l ++ later)) (sym is_b) in
    let both : flat_map complained items ≡ flat_map complained done ++ (complained a ++ complained b) =
    ap (flat_map complained) (are ∙ append_assoc done (a ∷ []) (b ∷ [])) ∙ flat_map-append complained done (a ∷ b ∷ [])
    ∙ ap (λ (l : List Trouble). flat_map complained done ++ (complained a ++ l)) (append-nil (complained b)) in
    ap (λ (l : List Trouble). l ++ later) both
    ∙ append_assoc (flat_map complained done) (complained a ++ complained b) later
    ∙ ap (λ (l : List Trouble). flat_map complained done ++ l) (append_assoc (complained a) (complained b) later ∙ sym here)
    ∙ so_far

-- the input of a number has its trouble, and the others have none
pub halts_there : (n : ℕ) (trouble : Trouble) (i : ℕ) → n ≡ i → first_halts (drop i (halts_at n trouble)) ≡ trouble ∷ []
halts_there zero trouble zero same = refl
halts_there zero trouble (suc i) same = absurd (omega (arith, same))
halts_there (suc n) trouble zero same = absurd (omega (arith, same))
halts_there (suc n) trouble (suc i) same = halts_there n trouble i (omega (arith, same))

pub halts_elsewhere : (n : ℕ) (trouble : Trouble) (i : ℕ) → (n ≡ i → ⊥) → first_halts (drop i (halts_at n trouble)) ≡ []
halts_elsewhere zero trouble zero other = absurd (other refl)
halts_elsewhere zero trouble (suc i) other = none_behind i
  where
    none_behind : (i : ℕ) → first_halts (drop (suc i) ((trouble ∷ []) ∷ [])) ≡ []
    none_behind zero = refl
    none_behind (suc i) = refl
halts_elsewhere (suc n) trouble zero other = refl
halts_elsewhere (suc n) trouble (suc i) other = halts_elsewhere n trouble i (λ same. other (ap suc same))

pub none_halts : (i : ℕ) → first_halts (drop i []) ≡ []
none_halts zero = refl
none_halts (suc i) = refl

-- four complaints more
pub four_more : (done items : List (Option Complaint)) (told : List Trouble) (a b c d : Option Complaint) (first second third fourth : List Trouble) → flat_map complained done ≡ told → complained a ≡ first → complained b ≡ second → complained c ≡ third → complained d ≡ fourth
    → items ≡ (((done ++ a ∷ []) ++ b ∷ []) ++ c ∷ []) ++ d ∷ [] → flat_map complained items ≡ told ++ (first ++ (second ++ (third ++ fourth)))
four_more done items told a b c d first second third fourth is is_a is_b is_c is_d are =
    let flat : (((done ++ a ∷ []) ++ b ∷ []) ++ c ∷ []) ++ d ∷ [] ≡ done ++ (a ∷ b ∷ c ∷ d ∷ []) =
    append_assoc ((done ++ a ∷ []) ++ b ∷ []) (c ∷ []) (d ∷ []) ∙ append_assoc (done ++ a ∷ []) (b ∷ []) (c ∷ d ∷ []) ∙ append_assoc done (a ∷ []) (b ∷ c ∷ d ∷ []) in
    ap (flat_map complained) (are ∙ flat) ∙ flat_map-append complained done (a ∷ b ∷ c ∷ d ∷ [])
    ∙ ap (λ (l : List Trouble). l ++ (complained a ++ (complained b ++ (complained c ++ (complained d ++ []))))) is
    ∙ ap (λ (l : List Trouble). told ++ (l ++ (complained b ++ (complained c ++ (complained d ++ []))))) is_a
    ∙ ap (λ (l : List Trouble). told ++ (first ++ (l ++ (complained c ++ (complained d ++ []))))) is_b
    ∙ ap (λ (l : List Trouble). told ++ (first ++ (second ++ (l ++ (complained d ++ []))))) is_c
    ∙ ap (λ (l : List Trouble). told ++ (first ++ (second ++ (third ++ l)))) (append-nil (complained d) ∙ is_d)
