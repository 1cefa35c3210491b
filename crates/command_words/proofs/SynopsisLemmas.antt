-- What holds of the names of any synopsis.
use Rattle.std.proofs.Common.{◌≡◌, ◌≢◌, ◌⊎◌, ◌==◌, ◌&&◌, ◌||◌, ℕ, zero, suc, Bool, true, false, not, List, [], ◌∷◌, ◌++◌, Option, Some, refl, sym, ap, subst, inl, inr, ◌∙◌, arith}
use Rattle.std.specs.Option.{option_to_list}
use Rattle.std.specs.Str.{bytes_eq}
use Rattle.std.proofs.lemmas.Slice.Eq.{bytes_eq-Decides}
use Rattle.command_words.specs.Synopses.{IsOneOf, Synopsis, are_distinct, can_all_name, can_name, has_name, has_no_equals, places_with}
use Rattle.command_words.specs.Defaults.{Word}
use Rattle.command_words.specs.Items.{IsBare}

-- ---- tests

pub or_true : (b : Bool) → (b || true) ≡ true
or_true true = refl
or_true false = refl

pub or_false : (b : Bool) → (b || false) ≡ b
or_false true = refl
or_false false = refl

pub both : (a b : Bool) → (a && b) ≡ true → (a ≡ true) × (b ≡ true)
both true b is = (refl, is)
both false b is = cc

pub same_text : (a : Word) → bytes_eq a a ≡ true
same_text a = (bytes_eq-Decides a a).1 refl

pub unlike_text : (a b : Word) → bytes_eq a b ≡ false → a ≢ b
unlike_text a b differ same = let equal : bytes_eq a b ≡ true = (bytes_eq-Decides a b).1 same in let wrong : false ≡ true = sym differ ∙ equal in cc

pub is_text : (a b : Word) → (a ≡ b) ⊎ (bytes_eq a b ≡ false)
is_text a b = go (bytes_eq a b) refl
  where
    go : (t : Bool) → bytes_eq a b ≡ t → (a ≡ b) ⊎ (bytes_eq a b ≡ false)
    go true is = inl ((bytes_eq-Decides a b).0 is)
    go false is = inr is

-- ---- names among others

-- a name is one of them, or not
pub among : (names : List Word) (name : Word) → IsOneOf names name ⊎ (IsOneOf names name → ⊥)
among [] name = inr (λ is. is)
among (other ∷ others) name = elim (is_text other name) [
  | inl same ↦ inl (inl (sym same))
  | inr differ ↦ elim (among others name) [
    | inl later ↦ inl (inr later)
    | inr none ↦ inr (λ is. elim is [
      | inl same ↦ unlike_text other name differ (sym same)
      | inr later ↦ none later
    ])
  ]
]

pub among_left : (names others : List Word) (name : Word) → IsOneOf names name → IsOneOf (names ++ others) name
among_left [] others name is = absurd is
among_left (n ∷ names) others name (inl same) = inl same
among_left (n ∷ names) others name (inr later) = inr (among_left names others name later)

pub among_right : (names others : List Word) (name : Word) → IsOneOf others name → IsOneOf (names ++ others) name
among_right [] others name is = is
among_right (n ∷ names) others name is = inr (among_right names others name is)

has_among : (names : List Word) (name : Word) → IsOneOf names name → has_name names name ≡ true
has_among [] name is = absurd is
has_among (other ∷ others) name (inl same) = let equal : bytes_eq other name ≡ true = (bytes_eq-Decides other name).1 (sym same) in rw equal refl
has_among (other ∷ others) name (inr later) = rw (has_among others name later) (or_true (bytes_eq other name))

-- a distinct name doesn't stand again
pub not_again : (name : Word) (names : List Word) → are_distinct (name ∷ names) ≡ true → IsOneOf names name → ⊥
not_again name names distinct is =
    let alone : not (has_name names name) ≡ true = (both (not (has_name names name)) (are_distinct names) distinct).0 in
    let wrong : false ≡ true = sym (ap not (has_among names name is)) ∙ alone in cc

pub distinct_rest : (name : Word) (names : List Word) → are_distinct (name ∷ names) ≡ true → are_distinct names ≡ true
distinct_rest name names distinct = (both (not (has_name names name)) (are_distinct names) distinct).1

-- and of two parts it stands in one
pub distinct_parts : (names others : List Word) (name : Word) → are_distinct (names ++ others) ≡ true → IsOneOf names name → IsOneOf others name → ⊥
distinct_parts [] others name distinct is other = is
distinct_parts (n ∷ names) others name distinct (inl same) other = not_again n (names ++ others) distinct (among_right names others n (subst (IsOneOf others) same other))
distinct_parts (n ∷ names) others name distinct (inr later) other = distinct_parts names others name (distinct_rest n (names ++ others) distinct) later other

distinct_right : (names others : List Word) → are_distinct (names ++ others) ≡ true → are_distinct others ≡ true
distinct_right [] others distinct = distinct
distinct_right (n ∷ names) others distinct = distinct_right names others (distinct_rest n (names ++ others) distinct)

-- ---- what a name is

pub bare_head : (c : ℕ) (cs : List ℕ) → has_no_equals (c ∷ cs) ≡ true → c ≢ 61
bare_head c cs is same = let wrong : has_no_equals (61 ∷ cs) ≡ true = subst (λ (x : ℕ). has_no_equals (x ∷ cs) ≡ true) same is in cc

bare_is : (text : List ℕ) → has_no_equals text ≡ true → IsBare text
bare_is [] is i less = absurd (omega (arith, less))
bare_is (c ∷ cs) is zero less = bare_head c cs is
bare_is (c ∷ cs) is (suc i) less = bare_is cs (both (not (c == 61)) (has_no_equals cs) is).1 i (omega (arith, less))

each_can_name : (names : List Word) (name : Word) → can_all_name names ≡ true → IsOneOf names name → can_name name ≡ true
each_can_name [] name can is = absurd is
each_can_name (n ∷ names) name can (inl same) = subst (λ (w : Word). can_name w ≡ true) (sym same) (both (can_name n) (can_all_name names) can).0
each_can_name (n ∷ names) name can (inr later) = each_can_name names name (both (can_name n) (can_all_name names) can).1 later

name_bare : (name : Word) → can_name name ≡ true → IsBare name
name_bare [] can = cc
name_bare (c ∷ cs) can = bare_is (c ∷ cs) can

-- ---- any synopsis

module _ (s : Synopsis) where
  names_can : can_all_name (s.flags ++ s.options) ≡ true
  names_can = (both (can_all_name (s.flags ++ s.options)) (are_distinct (s.flags ++ (s.options ++ places_with s.first s.rest))) s.sound).0

  pub names_distinct : are_distinct (s.flags ++ (s.options ++ places_with s.first s.rest)) ≡ true
  names_distinct = (both (can_all_name (s.flags ++ s.options)) (are_distinct (s.flags ++ (s.options ++ places_with s.first s.rest))) s.sound).1

  behind_flags : are_distinct (s.options ++ places_with s.first s.rest) ≡ true
  behind_flags = distinct_right s.flags (s.options ++ places_with s.first s.rest) names_distinct

  pub flag_bare_in : (name : Word) → IsOneOf s.flags name → IsBare name
  flag_bare_in name is = name_bare name (each_can_name (s.flags ++ s.options) name names_can (among_left s.flags s.options name is))

  pub option_bare_in : (name : Word) → IsOneOf s.options name → IsBare name
  option_bare_in name is = name_bare name (each_can_name (s.flags ++ s.options) name names_can (among_right s.flags s.options name is))

  no_empty : IsOneOf (s.flags ++ s.options) [] → ⊥
  no_empty is = let wrong : can_name [] ≡ true = each_can_name (s.flags ++ s.options) [] names_can is in cc

  pub no_empty_flag_in : IsOneOf s.flags [] → ⊥
  no_empty_flag_in is = no_empty (among_left s.flags s.options [] is)

  pub no_empty_option_in : IsOneOf s.options [] → ⊥
  no_empty_option_in is = no_empty (among_right s.flags s.options [] is)

  pub flag_or_option_in : (name : Word) → IsOneOf s.flags name → IsOneOf s.options name → ⊥
  flag_or_option_in name is other = distinct_parts s.flags (s.options ++ places_with s.first s.rest) name names_distinct is (among_left s.options (places_with s.first s.rest) name other)

  pub flag_or_place_in : (name : Word) → IsOneOf s.flags name → IsOneOf (places_with s.first s.rest) name → ⊥
  flag_or_place_in name is other = distinct_parts s.flags (s.options ++ places_with s.first s.rest) name names_distinct is (among_right s.options (places_with s.first s.rest) name other)

  pub option_or_place_in : (name : Word) → IsOneOf s.options name → IsOneOf (places_with s.first s.rest) name → ⊥
  option_or_place_in name is other = distinct_parts s.options (places_with s.first s.rest) name behind_flags is other

  pub two_places_in : (id : Word) → s.rest ≡ Some id → s.first ≢ id
  two_places_in id is same =
      not_again s.first (option_to_list s.rest) (distinct_right s.options (places_with s.first s.rest) behind_flags)
      (subst (λ (rest : Option Word). IsOneOf (option_to_list rest) s.first) (sym is) (inl same))
