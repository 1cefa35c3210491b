-- Profiles and extras of inputs.
use Rattle.std.proofs.Common.{◌≡◌, ℕ, suc, ◌+◌, Bool, true, false, inl, inr, List, [], ◌∷◌, ◌++◌, length, take, refl, sym, ap, subst, ◌∙◌, append_assoc, append-nil}
use Rattle.std.specs.Prelude.{filter, ◌||◌, ◌==◌, nat_le}
use Rattle.std.specs.List.{AllZip}
use Rattle.std.proofs.lemmas.Bool.{eqb-true, leb-true, both_ways}
use Rattle.std.proofs.lemmas.Grind.{flat_map-append}
use Rattle.mcap_wire.proofs.Contents.{shows_decided}
use Rattle.rec_data.specs.Records.{header_kinds, header_values}
use Rattle.mcap_model.specs.Places.{At, Each}
use Rattle.mcap_model.specs.Tops.{Top}
use Rattle.mcap_model.specs.Kept.{reading_limits, Good}
use Rattle.mcap_model.specs.ReadBack.{IsExtraKind, IsExtra}
use Rattle.mcap_model.specs.Repaired.{is_extra, ProfileIs}
use Rattle.mcap_model.proofs.Lists.{cut_at, filter_passed}
use Rattle.mcap_model.proofs.NamedTopics.{zip_front, zip_back, unmapped}
use Rattle.mcap_model.proofs.Flat.{at_mapped, map-append}
use Rattle.mcap_model.proofs.OneMore.{taken_more}
use Rattle.mcap_merge.specs.declared.input.Extra.{Extra}
use Rattle.mcap_merge.specs.declared.input.Input.{Input}
use Rattle.mcap_model.specs.Merged.{CommonProfile}
use Rattle.mcap_merge.specs.Inputs.{extra_top, extra_tops, HoldsInput, HoldInputs}
use Rattle.mcap_merge.specs.ReadInputs.{Read, read_tops}
use Rattle.mcap_io.specs.Stores.{StoreState}
use Rattle.mcap_merge.specs.Reading.{IsReadOf}
use Rattle.mcap_merge.specs.ReadingSteps.{AllReadWhole}
use Rattle.mcap_merge.specs.Writing.{ExtrasMeet, extras_of}

-- lists that stand beside each other are as long
pub zip_length : {A B : Type 0} (R : A → B → Type 0) (xs : List A) (ys : List B) → AllZip R xs ys → length xs ≡ length ys
zip_length R [] [] zip = refl
zip_length R [] (y ∷ ys) zip = absurd zip
zip_length R (x ∷ xs) [] zip = absurd zip
zip_length R (x ∷ xs) (y ∷ ys) zip = ap suc (zip_length R xs ys zip.1)

-- ---- profiles

-- records have one profile
profile_once : (tops : List Top) (p q : List ℕ) → ProfileIs tops p → ProfileIs tops q → p ≡ q
profile_once [] p q one other = one ∙ sym other
profile_once (t ∷ ts) p q (h, one) (g, other) =
    let same = shows_decided header_kinds t.content (header_values (record { profile = h.profile; library = h.library })) (header_values (record { profile = g.profile; library = g.library })) h.layout g.layout in
    let equal : h.profile ≡ g.profile = cc same in
    sym one ∙ equal ∙ other

held_profile : (reads : List Read) (inputs : List Input) (k : ℕ) (x : Input) (p : List ℕ) → HoldInputs reads inputs → At inputs k x → Each (λ tops. ProfileIs tops p) (read_tops reads) → x.profile ≡ p
held_profile reads inputs k x p hold at each =
    let (r, there, holds) = zip_back HoldsInput reads inputs k x hold at in
    profile_once r.tops x.profile p holds.profile_is (each k r.tops (at_mapped (λ (y : Read). y.tops) reads k r there))

pub profiles_differ : (reads : List Read) (inputs : List Input) (k : ℕ) (x first : Input) → HoldInputs reads inputs → At inputs 0 first → At inputs k x → (x.profile ≡ first.profile → ⊥) → CommonProfile (read_tops reads) []
profiles_differ reads inputs k x first hold start at differ = record {
  common = λ p each. absurd (differ (held_profile reads inputs k x p hold at each ∙ sym (held_profile reads inputs 0 first p hold start each)));
  none = λ none. refl;
}

pub profiles_same : (reads : List Read) (inputs : List Input) (first : Input) → HoldInputs reads inputs → At inputs 0 first → ((k : ℕ) (x : Input) → At inputs k x → x.profile ≡ first.profile) → CommonProfile (read_tops reads) first.profile
profiles_same reads inputs first hold start same = record {
  common = λ p each. held_profile reads inputs 0 first p hold start each;
  none = λ none. absurd (none first.profile (λ k tops at.
      let (r, there, is) = unmapped (λ (y : Read). y.tops) reads k tops at in
      let (x, here, holds) = zip_front HoldsInput reads inputs k r hold there in
      subst (λ (l : List Top). ProfileIs l first.profile) is (subst (ProfileIs r.tops) (same k x here) holds.profile_is)));
}

-- ---- extras, one after the other

pub extras_next : (xs : List Extra) (k : ℕ) (x : Extra) → At xs k x → extra_tops (take (k + 1) xs) ≡ extra_tops (take k xs) ++ extra_top x ∷ []
extras_next xs k x at = ap extra_tops (taken_more xs k x at) ∙ map-append extra_top (take k xs) (x ∷ [])

pub extras_rest : (xs : List Extra) (k : ℕ) (x : Extra) → At xs k x → (more : List Top) × (extra_tops xs ≡ (extra_tops (take k xs) ++ extra_top x ∷ []) ++ more)
extras_rest xs k x at =
    let cut = cut_at xs k x at in
    (extra_tops cut.0, ap extra_tops cut.1 ∙ map-append extra_top (take k xs) (x ∷ cut.0) ∙ sym (append_assoc (extra_tops (take k xs)) (extra_top x ∷ []) (extra_tops cut.0)))

abbrev of : Input → List Top
of i = extra_tops i.extras.items

pub inputs_next : (xs : List Input) (k : ℕ) (x : Input) → At xs k x → extras_of (take (k + 1) xs) ≡ extras_of (take k xs) ++ extra_tops x.extras.items
inputs_next xs k x at = ap extras_of (taken_more xs k x at) ∙ flat_map-append of (take k xs) (x ∷ []) ∙ ap (λ (l : List Top). extras_of (take k xs) ++ l) (append-nil (extra_tops x.extras.items))

pub inputs_rest : (xs : List Input) (k : ℕ) (x : Input) → At xs k x → (more : List Top) × (extras_of xs ≡ (extras_of (take k xs) ++ extra_tops x.extras.items) ++ more)
inputs_rest xs k x at =
    let cut = cut_at xs k x at in
    (extras_of cut.0, ap extras_of cut.1 ∙ flat_map-append of (take k xs) (x ∷ cut.0) ∙ sym (append_assoc (extras_of (take k xs)) (extra_tops x.extras.items) (extras_of cut.0)))

-- ---- what is held of extras keeps their rules

kind_by : (op : ℕ) (a b c : Bool) → (op == 9) ≡ a → (op == 12) ≡ b → nat_le 128 op ≡ c → (a || (b || c)) ≡ true → IsExtraKind op
kind_by op true b c nine twelve high is = inl (eqb-true op 9 nine)
kind_by op false true c nine twelve high is = inr (inl (eqb-true op 12 twelve))
kind_by op false false true nine twelve high is = inr (inr (leb-true 128 op high))
kind_by op false false false nine twelve high is = absurd (both_ways false refl is)

pub extra_meets : (tops : List Top) (n : ℕ) (t : Top) → Good reading_limits tops → At (filter is_extra tops) n t → IsExtra t
extra_meets tops n t good at =
    let passed = filter_passed is_extra tops n t at in
    let fits = good passed.0.0 t passed.0.1 in
    record { kind = kind_by t.op (t.op == 9) (t.op == 12) (nat_le 128 t.op) refl refl refl passed.1; v6 = fits.v6; v10 = fits.v10 }

pub meet_all : (reads : List Read) (inputs : List Input) → HoldInputs reads inputs → ExtrasMeet inputs
meet_all reads inputs hold k i at n e there =
    let (r, here, holds) = zip_back HoldsInput reads inputs k i hold at in
    extra_meets r.tops n (extra_top e) holds.good (subst (λ (l : List Top). At l n (extra_top e)) holds.extras_are (at_mapped extra_top i.extras.items n e there))

-- they are as many as the stores
pub held_length : (stores : List StoreState) (inputs : List Input) → AllReadWhole stores inputs → length inputs ≡ length stores
held_length stores inputs (reads, hold, are) = sym (zip_length HoldsInput reads inputs hold) ∙ sym (zip_length IsReadOf stores reads are)
