-- A keeping is noted in one way.
use Rattle.std.proofs.Common.{◌≡◌, ℕ, zero, suc, List, [], ◌∷◌, ◌++◌, length, true, sym, ◌∙◌, refl, subst, inl, inr, arith, length-append, append_assoc}
use Rattle.std.proofs.lemmas.List.{get_or_at}
use Rattle.mcap_io.specs.declared.outside.ObjectKind.{ObjectKind}
use Rattle.mcap_io.specs.declared.outside.ObjectKind.TheVariants as kinds
use Rattle.mcap_io.specs.Outside.{Keeping, Opening, opened, taken_back}
use Rattle.mcap_io.specs.OutsideCalls.{IsOut, NoneIsOut, IsNewestOut, Notes}

-- of entries that are all not out, none stands in the middle
none_there : (kind : ObjectKind) (name : List ℕ) (before : List Opening) (entry : Opening) (behind : List Opening) → NoneIsOut kind name (before ++ entry ∷ behind) → IsOut kind name entry → ⊥
none_there kind name before entry behind none out =
    none (length before) entry (omega (arith, length-append before (entry ∷ behind)))
    (subst (IsOut kind name) (sym (get_or_at before entry behind entry (length before) refl)) out)

-- two splits of a log at its newest entry that is out are one
newest_once : (kind : ObjectKind) (name : List ℕ) (before before' : List Opening) (entry entry' : Opening) (behind behind' : List Opening) → before ++ entry ∷ behind ≡ before' ++ entry' ∷ behind'
    → IsOut kind name entry → NoneIsOut kind name behind → IsOut kind name entry' → NoneIsOut kind name behind' → (before ≡ before') × (entry ≡ entry') × (behind ≡ behind')
newest_once kind name [] [] entry entry' behind behind' same out none out' none' = (refl, cc, cc)
newest_once kind name [] (b ∷ others) entry entry' behind behind' same out none out' none' =
    let tail : behind ≡ others ++ entry' ∷ behind' = cc in
    absurd (none_there kind name others entry' behind' (subst (NoneIsOut kind name) tail none) out')
newest_once kind name (a ∷ more) [] entry entry' behind behind' same out none out' none' =
    let tail : more ++ entry ∷ behind ≡ behind' = cc in
    absurd (none_there kind name more entry behind (subst (NoneIsOut kind name) (sym tail) none') out)
newest_once kind name (a ∷ more) (b ∷ others) entry entry' behind behind' same out none out' none' =
    let head : a ≡ b = cc in
    let tail : more ++ entry ∷ behind ≡ others ++ entry' ∷ behind' = cc in
    let (e1, e2, e3) = newest_once kind name more others entry entry' behind behind' tail out none out' none' in
    (cc, e2, e3)

-- where an entry is the newest that is out, a keeping is noted there
pub noted_in : (log new before behind : List Opening) (entry : Opening) (kind : ObjectKind) (name : List ℕ) (keeping : Keeping) → IsNewestOut log kind name before entry behind → Notes log new kind name keeping
    → new ≡ before ++ taken_back entry keeping ∷ behind
noted_in log new before behind entry kind name keeping newest (inl (before', behind', entry', newest', new_is)) =
    let (e1, e2, e3) = newest_once kind name before before' entry entry' behind behind' (sym newest.there ∙ newest'.there) newest.out newest.newest newest'.out newest'.newest in
    new_is ∙ cc
noted_in log new before behind entry kind name keeping newest (inr (none, new_is)) =
    absurd (none_there kind name before entry behind (subst (NoneIsOut kind name) newest.there none) newest.out)

none_at_all : (kind : ObjectKind) (name : List ℕ) → NoneIsOut kind name []
none_at_all kind name k d within = absurd (omega (arith, within))

other_alone : (kind : ObjectKind) (name : List ℕ) (entry : Opening) → (IsOut kind name entry → ⊥) → NoneIsOut kind name (entry ∷ [])
other_alone kind name entry other zero d within = other
other_alone kind name entry other (suc k) d within = absurd (omega (arith, within))

-- the source before a live store that is out
source_out : (log : List Opening) (feed out : List ℕ) → IsNewestOut (log ++ opened kinds.Source feed true ∷ opened kinds.Live out true ∷ []) kinds.Source feed log (opened kinds.Source feed true) (opened kinds.Live out true ∷ [])
source_out log feed out = record {
  there = refl;
  out = record { kind_is = refl; name_is = refl; given = refl; out = refl };
  newest = other_alone kinds.Source feed (opened kinds.Live out true) (λ is. let kind = is.kind_is in absurd (cc));
}

-- the live store behind a source that was taken back
live_out : (log : List Opening) (feed out : List ℕ) (keeping : Keeping) → IsNewestOut (log ++ taken_back (opened kinds.Source feed true) keeping ∷ opened kinds.Live out true ∷ []) kinds.Live out (log ++ taken_back (opened kinds.Source feed true) keeping ∷ []) (opened kinds.Live out true) []
live_out log feed out keeping = record {
  there = sym (append_assoc log (taken_back (opened kinds.Source feed true) keeping ∷ []) (opened kinds.Live out true ∷ []));
  out = record { kind_is = refl; name_is = refl; given = refl; out = refl };
  newest = none_at_all kinds.Live out;
}

-- a source and then a live store are opened; the source is taken back, and then the store
pub both_noted : (log mid new : List Opening) (feed out : List ℕ) (source live : Keeping) → Notes (log ++ opened kinds.Source feed true ∷ opened kinds.Live out true ∷ []) mid kinds.Source feed source → Notes mid new kinds.Live out live
    → new ≡ log ++ taken_back (opened kinds.Source feed true) source ∷ taken_back (opened kinds.Live out true) live ∷ []
both_noted log mid new feed out source live first second =
    let source_noted = noted_in _ mid log (opened kinds.Live out true ∷ []) (opened kinds.Source feed true) kinds.Source feed source (source_out log feed out) first in
    noted_in _ new (log ++ taken_back (opened kinds.Source feed true) source ∷ []) [] (opened kinds.Live out true) kinds.Live out live (live_out log feed out source) (subst (λ l. Notes l new kinds.Live out live) source_noted second)
    ∙ append_assoc log (taken_back (opened kinds.Source feed true) source ∷ []) (taken_back (opened kinds.Live out true) live ∷ [])
