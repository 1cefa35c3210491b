-- Words are cut in one way.
use Rattle.std.proofs.Common.{◌≡◌, ◌≢◌, List, [], ◌∷◌, ◌++◌, refl, sym, ap, subst, inl, inr, ◌∙◌, arith, codes, append_assoc, append-nil}
use Rattle.std.specs.List.{All, flat_map, slice_index_or}
use Rattle.std.proofs.lemmas.List.Elements.{All-head, All-tail}
use Rattle.command_words.specs.Synopses.{Synopsis}
use Rattle.command_words.specs.Items.{Word, Item, flag, joined, apart, plain, WordsAreItems, IsFlag, IsItem, IsOption, place_of, words_of}
use Rattle.command_words.specs.Commands.{ReadsWords}
use Rattle.command_words.specs.Matches.{IsLoose, IsLooseCut}
use Rattle.command_words.proofs.ItemLemmas.{cut_once, uncut, flag_bare, option_bare, named_same, not_plain, flag_or_option, no_empty_flag, no_empty_option}

-- the item at the front of words is one
pub one_item : (synopsis : Synopsis) (one two : Item) (rest after : List Word) → IsLoose synopsis one → IsLoose synopsis two → words_of one ++ rest ≡ words_of two ++ after → (two ≡ one) × (after ≡ rest)
one_item synopsis (flag name) (flag other) rest after is isn't same = (cc, cc)
one_item synopsis (flag name) (joined other more) rest after is isn't same = absurd (uncut name other more (flag_bare synopsis name is) (cc))
one_item synopsis (flag name) (apart other more) rest after is isn't same = absurd (flag_or_option synopsis name is (subst (IsOption synopsis) (sym (named_same name other rest (more ∷ after) same).0) isn't.0))
one_item synopsis (flag name) (plain word) rest after is isn't same = absurd (not_plain name word rest after isn't same)
one_item synopsis (joined name value) (flag other) rest after is isn't same = absurd (uncut other name value (flag_bare synopsis other isn't) (cc))
one_item synopsis (joined name value) (joined other more) rest after is isn't same =
    let both = cut_once name other value more (option_bare synopsis name is) (option_bare synopsis other isn't) (named_same (name ++ 61 ∷ value) (other ++ 61 ∷ more) rest after same).0 in
    let names = both.0 in let values = both.1 in (cc, cc)
one_item synopsis (joined name value) (apart other more) rest after is isn't same = absurd (uncut other name value (option_bare synopsis other isn't.0) (cc))
one_item synopsis (joined name value) (plain word) rest after is isn't same = absurd (not_plain (name ++ 61 ∷ value) word rest after isn't same)
one_item synopsis (apart name value) (flag other) rest after is isn't same = absurd (flag_or_option synopsis other isn't (subst (IsOption synopsis) (named_same name other (value ∷ rest) after same).0 is.0))
one_item synopsis (apart name value) (joined other more) rest after is isn't same = absurd (uncut name other more (option_bare synopsis name is.0) (cc))
one_item synopsis (apart name value) (apart other more) rest after is isn't same = (cc, cc)
one_item synopsis (apart name value) (plain word) rest after is isn't same = absurd (not_plain name word (value ∷ rest) after isn't same)
one_item synopsis (plain word) (flag other) rest after is isn't same = absurd (not_plain other word after rest is (sym same))
one_item synopsis (plain word) (joined other more) rest after is isn't same = absurd (not_plain (other ++ 61 ∷ more) word after rest is (sym same))
one_item synopsis (plain word) (apart other more) rest after is isn't same = absurd (not_plain other word (more ∷ after) rest is (sym same))
one_item synopsis (plain word) (plain other) rest after is isn't same = (cc, cc)

-- no item is `--`, or no word at all
pub not_ended : (synopsis : Synopsis) (item : Item) (after behind : List Word) → IsLoose synopsis item → words_of item ++ after ≡ codes "--" ∷ behind → ⊥
not_ended synopsis (flag name) after behind is same = no_empty_flag synopsis (subst (IsFlag synopsis) (named_same name [] after behind same).0 is)
not_ended synopsis (joined name value) after behind is same = absurd (uncut [] name value (λ i less. absurd (omega (arith, less))) (cc))
not_ended synopsis (apart name value) after behind is same = no_empty_option synopsis (subst (IsOption synopsis) (named_same name [] (value ∷ after) behind same).0 is.0)
not_ended synopsis (plain word) after behind is same = not_plain [] word behind after is (sym same)

pub not_none : (item : Item) (after : List Word) → words_of item ++ after ≡ [] → ⊥
not_none (flag name) after same = cc
not_none (joined name value) after same = cc
not_none (apart name value) after same = cc
not_none (plain word) after same = cc

no_words : (first : Word) (after : List Word) → first ∷ after ≡ [] → ⊥
no_words first after same = cc

-- an item that stands at the front of words is the first of each cut
first_cut : (synopsis : Synopsis) (item : Item) (rest : List Word) (items : List Item) (behind : List Word) → IsLoose synopsis item → IsLooseCut synopsis (words_of item ++ rest) items behind
    → (more : List Item) × (items ≡ item ∷ more) × IsLooseCut synopsis rest more behind
first_cut synopsis item rest [] behind is cut = absurd (elim cut.ends [
  | inl none ↦ not_none item rest (cut.form ∙ none.0)
  | inr more ↦ not_ended synopsis item rest behind is (cut.form ∙ more.0)
])
first_cut synopsis item rest (other ∷ more) behind is cut =
    let whole = cut.form ∙ append_assoc (words_of other) (flat_map words_of more) cut.tail in
    let both = one_item synopsis item other rest (flat_map words_of more ++ cut.tail) is (All-head (IsLoose synopsis) other more cut.each) whole in
    (more, ap (λ (x : Item). x ∷ more) both.0, record { tail = cut.tail; form = sym both.1; each = All-tail (IsLoose synopsis) other more cut.each; ends = cut.ends })

-- and so are several
pub front_cut : (synopsis : Synopsis) (read : List Item) (words rest : List Word) (items : List Item) (behind : List Word) → All (IsLoose synopsis) read → words ≡ flat_map words_of read ++ rest → IsLooseCut synopsis words items behind
    → (more : List Item) × (items ≡ read ++ more) × IsLooseCut synopsis rest more behind
front_cut synopsis [] words rest items behind each form cut = (items, refl, subst (λ (l : List Word). IsLooseCut synopsis l items behind) form cut)
front_cut synopsis (item ∷ read) words rest items behind each form cut =
    let front = form ∙ append_assoc (words_of item) (flat_map words_of read) rest in
    let one = first_cut synopsis item (flat_map words_of read ++ rest) items behind (All-head (IsLoose synopsis) item read each) (subst (λ (l : List Word). IsLooseCut synopsis l items behind) front cut) in
    let others = front_cut synopsis read (flat_map words_of read ++ rest) rest one.0 behind (All-tail (IsLoose synopsis) item read each) refl one.2 in
    (others.0, one.1 ∙ ap (λ (l : List Item). item ∷ l) others.1, others.2)

-- where `--` stands the items end
pub ended : (synopsis : Synopsis) (after : List Word) (items : List Item) (behind : List Word) → IsLooseCut synopsis (codes "--" ∷ after) items behind
    → (items ≡ []) × (behind ≡ after) × All (λ word. word ≢ codes "-") after
ended synopsis after [] behind cut = elim cut.ends [
  | inl none ↦ let wrong : codes "--" ∷ after ≡ [] = cut.form ∙ none.0 in absurd (no_words (codes "--") after wrong)
  | inr more ↦ let same : codes "--" ∷ after ≡ codes "--" ∷ behind = cut.form ∙ more.0 in let back : behind ≡ after = cc in
      (refl, back, subst (All (λ word. word ≢ codes "-")) back more.1)
]
ended synopsis after (item ∷ more) behind cut = absurd (not_ended synopsis item (flat_map words_of more ++ cut.tail) after (All-head (IsLoose synopsis) item more cut.each)
    (sym (append_assoc (words_of item) (flat_map words_of more) cut.tail) ∙ sym cut.form))

-- where no word is left they end too
pub over : (synopsis : Synopsis) (items : List Item) (behind : List Word) → IsLooseCut synopsis [] items behind → (items ≡ []) × (behind ≡ [])
over synopsis [] behind cut = elim cut.ends [
  | inl none ↦ (refl, none.1)
  | inr more ↦ let wrong : codes "--" ∷ behind ≡ [] = sym (cut.form ∙ more.0) in absurd (no_words (codes "--") behind wrong)
]
over synopsis (item ∷ more) behind cut = absurd (not_none item (flat_map words_of more ++ cut.tail) (sym (append_assoc (words_of item) (flat_map words_of more) cut.tail) ∙ sym cut.form))

-- words are cut in one way
pub one_cut : (synopsis : Synopsis) (words : List Word) (items : List Item) (behind : List Word) (others : List Item) (last : List Word) → IsLooseCut synopsis words items behind → IsLooseCut synopsis words others last → (others ≡ items) × (last ≡ behind)
one_cut synopsis words items behind others last cut other =
    let front = front_cut synopsis items words cut.tail others last cut.each cut.form other in
    let end : (front.0 ≡ []) × (last ≡ behind) = elim cut.ends [
      | inl none ↦ let both = over synopsis front.0 last (subst (λ (l : List Word). IsLooseCut synopsis l front.0 last) none.0 front.2) in (both.0, both.1 ∙ sym none.1)
      | inr more ↦ let both = ended synopsis behind front.0 last (subst (λ (l : List Word). IsLooseCut synopsis l front.0 last) more.0 front.2) in (both.0, both.1)
    ] in
    (front.1 ∙ ap (λ (l : List Item). items ++ l) end.0 ∙ append-nil items, end.1)

-- an item of the command is such an item
loose_item : (synopsis : Synopsis) (item : Item) → IsItem synopsis item → IsLoose synopsis item
loose_item synopsis (flag name) is = is
loose_item synopsis (joined name value) is = is.0
loose_item synopsis (apart name value) is = is
loose_item synopsis (plain word) is = is

pub loose_items : (synopsis : Synopsis) (items : List Item) → All (IsItem synopsis) items → All (IsLoose synopsis) items
loose_items synopsis items each = λ i d less. loose_item synopsis (slice_index_or items i d) (each i d less)

pub loose_cut : (synopsis : Synopsis) (words : List Word) (items : List Item) (behind : List Word) → WordsAreItems synopsis words items behind → IsLooseCut synopsis words items behind
loose_cut synopsis words items behind cut = record { tail = cut.tail; form = cut.form; each = loose_items synopsis items cut.each; ends = cut.ends }

-- and read in one way
pub one_reading : (synopsis : Synopsis) (words : List Word) (items others : List Item) (places last : List Word) → ReadsWords synopsis words items places → ReadsWords synopsis words others last → (others ≡ items) × (last ≡ places)
one_reading synopsis words items others places last reads other =
    let both = one_cut synopsis words items reads.behind others other.behind (loose_cut synopsis words items reads.behind reads.cut) (loose_cut synopsis words others other.behind other.cut) in
    (both.0, other.all ∙ ap (λ (l : List Item). flat_map place_of l ++ other.behind) both.0 ∙ ap (λ (l : List Word). flat_map place_of items ++ l) both.1 ∙ sym reads.all)
