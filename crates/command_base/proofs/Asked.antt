-- What is said of complaints that there may be, and which status they ask for.
use Rattle.std.proofs.Common.{◌≡◌, ℕ, ◌||◌, List, [], ◌∷◌, ◌++◌, Bool, Option, refl, sym, ap, ◌∙◌}
use Rattle.std.specs.List.{flat_map, list_any}
use Rattle.std.proofs.lemmas.List.Folds.{list_any-append}
use Rattle.std.proofs.lemmas.Grind.{flat_map-append}
use Rattle.command_base.specs.declared.complaint.Complaint.{Complaint}
use Rattle.command_base.specs.Texts.{trouble_line, said}
use Rattle.command_base.specs.ComplaintTroubles.{complained}

-- a test of the elements of lists is one of the lists
pub any_in_all : {X Y : Type 0} (p : Y → Bool) (f : X → List Y) (xs : List X) → list_any p (flat_map f xs) ≡ list_any (λ x. list_any p (f x)) xs
any_in_all p f [] = refl
any_in_all p f (x ∷ xs) = list_any-append p (f x) (flat_map f xs) ∙ ap (λ b. list_any p (f x) || b) (any_in_all p f xs)

-- the lines of all are those of each
pub said_of_all : (complaints : List (Option Complaint)) → flat_map (λ c. said (complained c)) complaints ≡ said (flat_map complained complaints)
said_of_all [] = refl
said_of_all (c ∷ cs) = ap (λ (l : List ℕ). said (complained c) ++ l) (said_of_all cs) ∙ sym (flat_map-append trouble_line (complained c) (flat_map complained cs))
