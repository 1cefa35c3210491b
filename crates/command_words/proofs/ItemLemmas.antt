-- Which item stands at the front of words.
use Rattle.std.proofs.Common.{◌≡◌, ◌≢◌, ℕ, suc, List, [], ◌∷◌, ◌++◌, refl, arith, codes}
use Rattle.std.specs.Prelude.{◌<◌, length, slice_index}
use Rattle.command_words.specs.Synopses.{Synopsis}
use Rattle.command_words.specs.Items.{Word, IsBare, IsFlag, IsFree, IsOption}
use Rattle.command_words.proofs.SynopsisLemmas.{flag_bare_in, flag_or_option_in, no_empty_flag_in, no_empty_option_in, option_bare_in}

-- ---- the names of a command

pub flag_bare : (synopsis : Synopsis) (name : Word) → IsFlag synopsis name → IsBare name
flag_bare synopsis = flag_bare_in synopsis

pub option_bare : (synopsis : Synopsis) (name : Word) → IsOption synopsis name → IsBare name
option_bare synopsis = option_bare_in synopsis

pub flag_or_option : (synopsis : Synopsis) (name : Word) → IsFlag synopsis name → IsOption synopsis name → ⊥
flag_or_option synopsis = flag_or_option_in synopsis

pub no_empty_flag : (synopsis : Synopsis) → IsFlag synopsis [] → ⊥
no_empty_flag synopsis = no_empty_flag_in synopsis

pub no_empty_option : (synopsis : Synopsis) → IsOption synopsis [] → ⊥
no_empty_option synopsis = no_empty_option_in synopsis

-- ---- texts cut in one place

-- the text lacks that character
abbrev pub Lacks : ℕ → List ℕ → Type 0
Lacks mark text = (i : ℕ) → i < length text → slice_index text i ≢ mark

tail_lacks : (mark c : ℕ) (cs : List ℕ) → Lacks mark (c ∷ cs) → Lacks mark cs
tail_lacks mark c cs is = λ i less. is (suc i) (omega (arith, less))

tail_is : (c : ℕ) (cs : List ℕ) → IsBare (c ∷ cs) → IsBare cs
tail_is = tail_lacks 61

-- a text without `=` isn't cut by one
pub uncut : (name front back : List ℕ) → IsBare name → name ≡ front ++ 61 ∷ back → ⊥
uncut [] [] back is cut = cc
uncut [] (d ∷ front) back is cut = cc
uncut (c ∷ cs) [] back is cut = is 0 (omega arith) (cc)
uncut (c ∷ cs) (d ∷ front) back is cut = uncut cs front back (tail_is c cs is) (cc)

-- the first of a mark stands at one place
pub marked_once : (mark : ℕ) (name other value more : List ℕ) → Lacks mark name → Lacks mark other → name ++ mark ∷ value ≡ other ++ mark ∷ more → (name ≡ other) × (value ≡ more)
marked_once mark [] [] value more is isn't same = (refl, cc)
marked_once mark [] (c ∷ cs) value more is isn't same = absurd (isn't 0 (omega arith) (cc))
marked_once mark (c ∷ cs) [] value more is isn't same = absurd (is 0 (omega arith) (cc))
marked_once mark (c ∷ cs) (d ∷ ds) value more is isn't same =
    let first : c ≡ d = cc in
    let rest : cs ++ mark ∷ value ≡ ds ++ mark ∷ more = cc in
    let both = marked_once mark cs ds value more (tail_lacks mark c cs is) (tail_lacks mark d ds isn't) rest in
    let names = both.0 in (cc, both.1)

-- and so does the first `=`
pub cut_once : (name other value more : List ℕ) → IsBare name → IsBare other → name ++ 61 ∷ value ≡ other ++ 61 ∷ more → (name ≡ other) × (value ≡ more)
cut_once = marked_once 61

-- ---- words that begin with `--`

-- the rest of a word that begins with `--`
pub named_same : (name other : Word) (rest after : List Word) → (codes "--" ++ name) ∷ rest ≡ (codes "--" ++ other) ∷ after → (name ≡ other) × (rest ≡ after)
named_same name other rest after same = (cc, cc)

pub not_plain : (name word : Word) (rest after : List Word) → IsFree word → (codes "--" ++ name) ∷ rest ≡ word ∷ after → ⊥
not_plain name word rest after free same = free (45 ∷ name) (cc)
