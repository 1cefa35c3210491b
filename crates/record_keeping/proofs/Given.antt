-- What repairing makes of records that were given in their places.
use Rattle.std.proofs.Common.{◌≡◌, ◌⊎◌, ℕ, zero, suc, Bool, true, false, List, [], ◌∷◌, ◌++◌, map, refl, sym, ap, subst, inl, inr, ◌∙◌, arith}
use Rattle.std.specs.Prelude.{filter, fold, if◌then◌else◌}
use Rattle.std.specs.List.{AllZip}
use Rattle.std.proofs.lemmas.List.{map-append}
use Rattle.std.proofs.lemmas.List.Elements.{filter-append}
use Rattle.rec_data.specs.declared.owned.Rec.{Rec}
use Rattle.mcap_model.specs.Places.{Each}
use Rattle.mcap_model.specs.Tops.{Top, Placed, flat, is_flat_kind}
use Rattle.mcap_model.specs.WalkedRecords.{walked}
use Rattle.mcap_model.specs.Rules.{V6}
use Rattle.mcap_model.specs.History.{kept_with, without_repeats, schema_of, channel_of, message_of}
use Rattle.mcap_model.specs.Written.{IsRec}
use Rattle.mcap_model.specs.Repaired.{is_extra, ProfileIs, Repairs}
use Rattle.mcap_model.proofs.Repairs.{fold_more, fold_grows, zip_parts, zip_join}
use Rattle.mcap_scan.proofs.Walked.{walked_flat_tops}
use Rattle.record_keeping.specs.Keeping.{tops_at}
use Rattle.record_keeping.specs.Readings.{RepairsGiven}

-- ---- some and none

pub not_none : {X : Type 0} (xs : List X) (x : X) → xs ++ x ∷ [] ≡ [] → ⊥
not_none [] x is = cc
not_none (u ∷ us) x is = cc

none_front : {X : Type 0} (xs ys : List X) → xs ++ ys ≡ [] → xs ≡ []
none_front [] ys is = refl
none_front (x ∷ xs) ys is = absurd (cc)

tops_none : (given : List Placed) → tops_at given ≡ [] → given ≡ []
tops_none [] is = refl
tops_none (p ∷ ps) is = absurd (cc)

pub given_none : (tops : List Top) (given ahead : List Placed) → walked tops ≡ given ++ ahead → tops ≡ [] → given ≡ []
given_none tops given ahead all none = none_front given ahead (sym all ∙ ap walked none)

pub tops_some : (tops : List Top) (given ahead : List Placed) (p : Placed) → walked tops ≡ (given ++ p ∷ []) ++ ahead → tops ≡ [] → ⊥
tops_some tops given ahead p all none = not_none given p (given_none tops (given ++ p ∷ []) ahead all none)

-- ---- Schemas, Channels and Messages

map_filter : (ps : List Placed) → map (λ (p : Placed). p.top) (filter (λ (p : Placed). is_flat_kind p.top) ps) ≡ filter is_flat_kind (tops_at ps)
map_filter [] = refl
map_filter (p ∷ ps) = by (is_flat_kind p.top) (map_filter ps)
  where
    by : (b : Bool) → map (λ (q : Placed). q.top) (filter (λ (q : Placed). is_flat_kind q.top) ps) ≡ filter is_flat_kind (tops_at ps)
        → map (λ (q : Placed). q.top) (if b then p ∷ filter (λ (q : Placed). is_flat_kind q.top) ps else filter (λ (q : Placed). is_flat_kind q.top) ps) ≡ (if b then p.top ∷ filter is_flat_kind (tops_at ps) else filter is_flat_kind (tops_at ps))
    by true rest = ap (λ (l : List Top). p.top ∷ l) rest
    by false rest = rest

flat_walked : (tops : List Top) → filter is_flat_kind (tops_at (walked tops)) ≡ flat tops
flat_walked tops = sym (map_filter (walked tops)) ∙ walked_flat_tops tops

tops_joined : (ps qs : List Placed) → tops_at (ps ++ qs) ≡ tops_at ps ++ tops_at qs
tops_joined ps qs = map-append (λ (p : Placed). p.top) ps qs

pub flat_given : (tops : List Top) (ps qs : List Placed) → walked tops ≡ ps ++ qs → flat tops ≡ filter is_flat_kind (tops_at ps) ++ filter is_flat_kind (tops_at qs)
flat_given tops ps qs all =
    sym (flat_walked tops) ∙ ap (λ (l : List Placed). filter is_flat_kind (tops_at l)) all ∙ ap (filter is_flat_kind) (tops_joined ps qs) ∙ filter-append is_flat_kind (tops_at ps) (tops_at qs)

flat_rec : (u : Top) → is_flat_kind u ≡ true → V6 u → (r : Rec) × IsRec u r
flat_rec u is v6 = by (kind_of u is)
  where
    kind_of : (t : Top) → is_flat_kind t ≡ true → (t.op ≡ 3) ⊎ ((t.op ≡ 4) ⊎ (t.op ≡ 5))
    kind_of t flat_is = grind arith

    by : (u.op ≡ 3) ⊎ ((u.op ≡ 4) ⊎ (u.op ≡ 5)) → (r : Rec) × IsRec u r
    by (inl three) = let (id, f, shown) = v6.schema three in (schema_of id f, (three, shown.layout))
    by (inr (inl four)) = let (id, f, shown) = v6.channel four in (channel_of id f, (four, shown.layout))
    by (inr (inr five)) = let (id, m, shown) = v6.message five in (message_of id m, (five, shown.layout))

rec_more : (t : Top) (us : List Top) (rs : List Rec) → V6 t → AllZip IsRec us rs → (ss : List Rec) × AllZip IsRec (if is_flat_kind t then t ∷ us else us) ss
rec_more t us rs v6 zip = by (is_flat_kind t) refl
  where
    by : (b : Bool) → is_flat_kind t ≡ b → (ss : List Rec) × AllZip IsRec (if b then t ∷ us else us) ss
    by true is = let (r, shown) = flat_rec t is v6 in (r ∷ rs, (shown, zip))
    by false is = (rs, zip)

-- what records show that meet their layouts
pub recs_ahead : (ps : List Placed) → Each (λ (p : Placed). V6 p.top) ps → (rs : List Rec) × AllZip IsRec (filter is_flat_kind (tops_at ps)) rs
recs_ahead [] meets = ([], tt)
recs_ahead (p ∷ ps) meets =
    let (rs, zip) = recs_ahead ps (λ n x at. meets (suc n) x at) in
    rec_more p.top (filter is_flat_kind (tops_at ps)) rs (meets zero p refl) zip

pub recs_one : (t : Top) → V6 t → (rs : List Rec) × AllZip IsRec (filter is_flat_kind (t ∷ [])) rs
recs_one t v6 = rec_more t [] [] v6 tt

-- ---- the profile

profile_front : (us more : List Top) (profile : List ℕ) → (us ≡ [] → ⊥) → ProfileIs us profile → ProfileIs (us ++ more) profile
profile_front [] more profile some is = absurd (some refl)
profile_front (t ∷ ts) more profile some is = is

profile_walked : (tops : List Top) (profile : List ℕ) → ProfileIs (tops_at (walked tops)) profile → ProfileIs tops profile
profile_walked [] profile is = is
profile_walked (t ∷ ts) profile is = is

pub profile_given : (tops : List Top) (given ahead : List Placed) (profile : List ℕ) → walked tops ≡ given ++ ahead → (given ≡ [] → ⊥) → ProfileIs (tops_at given) profile → ProfileIs tops profile
profile_given tops given ahead profile all some is =
    profile_walked tops profile
    (subst (λ (l : List Top). ProfileIs l profile) (sym (tops_joined given ahead) ∙ ap tops_at (sym all))
    (profile_front (tops_at given) (tops_at ahead) profile (λ none. some (tops_none given none)) is))

-- ---- the first ones

-- What repairing makes of the first ones of the records that were given, which with those inside them were given in front.
front_repairs : (front tops : List Top) (given behind : List Placed) (profile : List ℕ) (extras : List Top) (history : List Rec) → (front ≡ [] → ⊥) → given ≡ walked front ++ behind → RepairsGiven tops given profile extras history
    → (first : List Rec) × (more : List Rec) × Repairs front profile (filter is_extra front) first × (history ≡ first ++ more)
front_repairs [] tops given behind profile extras history some split was = absurd (some refl)
front_repairs (t ∷ ts) tops given behind profile extras history some split was =
    let front = t ∷ ts in
    let later = filter is_flat_kind (tops_at behind) in
    let parts : filter is_flat_kind (tops_at given) ≡ flat front ++ later =
    ap (λ (l : List Placed). filter is_flat_kind (tops_at l)) split ∙ ap (filter is_flat_kind) (tops_joined (walked front) behind) ∙ filter-append is_flat_kind (tops_at (walked front)) (tops_at behind)
    ∙ ap (λ (l : List Top). l ++ later) (flat_walked front) in
    let (ys, vs, is, one, two) = zip_parts IsRec (flat front) later was.flattened (subst (λ (l : List Top). AllZip IsRec l was.flattened) parts was.are_flattened) in
    let grown = fold_grows (without_repeats ys) vs in (
      without_repeats ys,
      grown.0,
      record {
        profile_is = subst (λ (l : List Placed). ProfileIs (tops_at l) profile) split was.profile_is;
        extras_are = refl;
        flattened = ys;
        are_flattened = one;
        history_is = refl;
      },
      was.history_is ∙ ap without_repeats is ∙ fold_more [] ys vs ∙ sym grown.1,
    )

-- what holds of each first part of a history holds of theirs, if there are any
pub first_part : (holds : List Rec → Type 0) (front tops : List Top) (given behind : List Placed) (profile : List ℕ) (extras : List Top) (history : List Rec) → given ≡ walked front ++ behind → RepairsGiven tops given profile extras history
    → ((others : List Top) (first more : List Rec) → Repairs front profile others first → history ≡ first ++ more → holds first)
    → (front ≡ []) ⊎ ((others : List Top) × (first : List Rec) × Repairs front profile others first × holds first)
first_part holds [] tops given behind profile extras history split was each = inl refl
first_part holds (t ∷ ts) tops given behind profile extras history split was each =
    let (first, more, repairs, is) = front_repairs (t ∷ ts) tops given behind profile extras history (λ none. cc) split was in
    inr (filter is_extra (t ∷ ts), first, repairs, each (filter is_extra (t ∷ ts)) first more repairs is)

-- ---- a record more, and all of them

given_more : (given : List Placed) (p : Placed) → tops_at (given ++ p ∷ []) ≡ tops_at given ++ p.top ∷ []
given_more given p = tops_joined given (p ∷ [])

pub repairs_more : (tops more : List Top) (given : List Placed) (p : Placed) (profile : List ℕ) (extras others : List Top) (history rs : List Rec) → (given ≡ [] → ⊥) → RepairsGiven tops given profile extras history → others ≡ filter is_extra more
    → AllZip IsRec (filter is_flat_kind (p.top ∷ [])) rs → RepairsGiven (tops ++ more) (given ++ p ∷ []) profile (extras ++ others) (fold kept_with history rs)
repairs_more tops more given p profile extras others history rs some was are zip = record {
  profile_is = subst (λ (l : List Top). ProfileIs l profile) (sym (given_more given p)) (profile_front (tops_at given) (p.top ∷ []) profile (λ none. some (tops_none given none)) was.profile_is);
  extras_are = ap (λ (l : List Top). l ++ others) was.extras_are ∙ ap (λ (l : List Top). filter is_extra tops ++ l) are ∙ sym (filter-append is_extra tops more);
  flattened = was.flattened ++ rs;
  are_flattened = subst (λ (l : List Top). AllZip IsRec l (was.flattened ++ rs)) (sym (filter-append is_flat_kind (tops_at given) (p.top ∷ [])) ∙ ap (filter is_flat_kind) (sym (given_more given p)))
      (zip_join IsRec (filter is_flat_kind (tops_at given)) (filter is_flat_kind (p.top ∷ [])) was.flattened rs was.are_flattened zip);
  history_is = ap (λ (l : List Rec). fold kept_with l rs) was.history_is ∙ sym (fold_more [] was.flattened rs);
}

pub repairs_whole : (tops : List Top) (given : List Placed) (profile : List ℕ) (extras : List Top) (history : List Rec) → given ≡ walked tops → RepairsGiven tops given profile extras history → Repairs tops profile extras history
repairs_whole tops given profile extras history whole was = record {
  profile_is = profile_walked tops profile (subst (λ (l : List Placed). ProfileIs (tops_at l) profile) whole was.profile_is);
  extras_are = was.extras_are;
  flattened = was.flattened;
  are_flattened = subst (λ (l : List Top). AllZip IsRec l was.flattened) (ap (λ (l : List Placed). filter is_flat_kind (tops_at l)) whole ∙ flat_walked tops) was.are_flattened;
  history_is = was.history_is;
}
