-- What repairing makes of records, and of the first ones of them.
use Rattle.std.proofs.Common.{◌≡◌, ◌⊎◌, ℕ, ◌≤◌, Bool, true, false, List, [], ◌∷◌, ◌++◌, length, refl, sym, ap, subst, inl, inr, ◌∙◌, append_assoc, append-nil, length-append, arith}
use Rattle.std.specs.Prelude.{filter, fold, if◌then◌else◌}
use Rattle.std.specs.List.{AllZip, list_any}
use Rattle.std.proofs.lemmas.List.Elements.{filter-append}
use Rattle.std.proofs.lemmas.Grind.{flat_map-append}
use Rattle.mcap_wire.proofs.Contents.{shows_decided}
use Rattle.rec_data.specs.declared.owned.Rec.{Rec}
use Rattle.rec_data.specs.Records.{header_kinds}
use Rattle.rec_data.proofs.OwnedReading.{shown_once}
use Rattle.mcap_model.specs.Tops.{Top, Tops, flat, flattened}
use Rattle.mcap_model.specs.History.{declare_same, kept_with, without_repeats}
use Rattle.mcap_model.specs.Written.{IsRec}
use Rattle.mcap_model.specs.Repaired.{is_extra, ProfileIs, Repairs}
use Rattle.mcap_model.specs.Recovery.{IsFirstOf, RepairsGoOn, GoodRecordsAreKept}
use Rattle.mcap_model.proofs.Readings.{readings_follow}

-- ---- repeats

pub kept_new : (history : List Rec) (r : Rec) → list_any (declare_same r) history ≡ false → kept_with history r ≡ history ++ r ∷ []
kept_new history r is = ap (λ (b : Bool). if b then history else history ++ r ∷ []) is

pub kept_old : (history : List Rec) (r : Rec) → list_any (declare_same r) history ≡ true → kept_with history r ≡ history
kept_old history r is = ap (λ (b : Bool). if b then history else history ++ r ∷ []) is

pub fold_more : (history rs ss : List Rec) → fold kept_with history (rs ++ ss) ≡ fold kept_with (fold kept_with history rs) ss
fold_more history [] ss = refl
fold_more history (r ∷ rs) ss = fold_more (kept_with history r) rs ss

-- a history goes on
pub fold_grows : (history ss : List Rec) → IsFirstOf history (fold kept_with history ss)
fold_grows history [] = ([], append-nil history)
fold_grows history (s ∷ ss) = by (list_any (declare_same s) history) refl (fold_grows (kept_with history s) ss)
  where
    by : (b : Bool) → list_any (declare_same s) history ≡ b → IsFirstOf (kept_with history s) (fold kept_with (kept_with history s) ss) → IsFirstOf history (fold kept_with (kept_with history s) ss)
    by true is rest = (rest.0, ap (λ (l : List Rec). l ++ rest.0) (sym (kept_old history s is)) ∙ rest.1)
    by false is rest = (s ∷ rest.0, sym (append_assoc history (s ∷ []) rest.0) ∙ ap (λ (l : List Rec). l ++ rest.0) (sym (kept_new history s is)) ∙ rest.1)

-- ---- lists side by side

-- what stands beside the first part and beside the second
pub zip_parts : {X Y : Type 0} (R : X → Y → Type 0) (xs us : List X) (zs : List Y) → AllZip R (xs ++ us) zs → (ys : List Y) × (vs : List Y) × (zs ≡ ys ++ vs) × AllZip R xs ys × AllZip R us vs
zip_parts R [] us zs zip = ([], zs, refl, tt, zip)
zip_parts R (x ∷ xs) us [] zip = absurd zip
zip_parts {X} {Y} R (x ∷ xs) us (z ∷ zs) zip =
    let rest = zip_parts R xs us zs zip.1 in
    (z ∷ rest.0, rest.1, ap (λ (l : List Y). z ∷ l) rest.2, (zip.0, rest.3), rest.4)

pub zip_join : {X Y : Type 0} (R : X → Y → Type 0) (xs us : List X) (ys vs : List Y) → AllZip R xs ys → AllZip R us vs → AllZip R (xs ++ us) (ys ++ vs)
zip_join R [] us [] vs one two = two
zip_join R [] us (y ∷ ys) vs one two = absurd one
zip_join R (x ∷ xs) us [] vs one two = absurd one
zip_join R (x ∷ xs) us (y ∷ ys) vs one two = (one.0, zip_join R xs us ys vs one.1 two)

-- ---- what records show is one

pub flat_once : (tops : List Top) (one two : List Rec) → AllZip IsRec tops one → AllZip IsRec tops two → one ≡ two
flat_once [] [] [] a b = refl
flat_once [] [] (s ∷ ss) a b = absurd b
flat_once [] (r ∷ rs) two a b = absurd a
flat_once (t ∷ ts) [] two a b = absurd a
flat_once (t ∷ ts) (r ∷ rs) [] a b = absurd b
flat_once (t ∷ ts) (r ∷ rs) (s ∷ ss) a b =
    ap (λ (x : Rec). x ∷ rs) (shown_once t.op t.content r s a.0 b.0) ∙ ap (λ (l : List Rec). s ∷ l) (flat_once ts rs ss a.1 b.1)

pub profile_once : (tops : List Top) (p q : List ℕ) → ProfileIs tops p → ProfileIs tops q → p ≡ q
profile_once [] p q one two = one ∙ sym two
profile_once (t ∷ ts) p q (a, a_is) (b, b_is) =
    let same = shows_decided header_kinds t.content (a.profile, (a.library, tt)) (b.profile, (b.library, tt)) a.layout b.layout in
    sym a_is ∙ ap (λ v. v.0) same ∙ b_is

-- what repairing makes of records is one
pub repairs_once : (tops extras others : List Top) (profile other : List ℕ) (history later : List Rec) → Repairs tops profile extras history → Repairs tops other others later → (profile ≡ other) × (extras ≡ others) × (history ≡ later)
repairs_once tops extras others profile other history later one two = (
  profile_once tops profile other one.profile_is two.profile_is,
  one.extras_are ∙ sym two.extras_are,
  one.history_is ∙ ap without_repeats (flat_once (flat tops) one.flattened two.flattened one.are_flattened two.are_flattened) ∙ sym two.history_is,
)

-- ---- first ones

profile_on : (tops more : List Top) (p q : List ℕ) → ProfileIs tops p → ProfileIs (tops ++ more) q → (tops ≡ [] → ⊥) → p ≡ q
profile_on [] more p q one two some = absurd (some refl)
profile_on (t ∷ ts) more p q one two some = profile_once (t ∷ ts) p q one two

pub repairs_go_on : RepairsGoOn
repairs_go_on tops more extras others profile other history later one two =
    let split : flat (tops ++ more) ≡ flat tops ++ flat more = flat_map-append flattened tops more in
    let (ys, vs, is, first, second) = zip_parts IsRec (flat tops) (flat more) two.flattened (subst (λ (l : List Top). AllZip IsRec l two.flattened) split two.are_flattened) in
    let front : ys ≡ one.flattened = flat_once (flat tops) ys one.flattened first one.are_flattened in
    let grown = fold_grows history vs in
    let whole : later ≡ fold kept_with history vs = two.history_is ∙ ap without_repeats is ∙ fold_more [] ys vs ∙ ap (λ (l : List Rec). fold kept_with (without_repeats l) vs) front ∙ ap (λ (l : List Rec). fold kept_with l vs) (sym one.history_is) in (
      (filter is_extra more, ap (λ (l : List Top). l ++ filter is_extra more) one.extras_are ∙ sym (filter-append is_extra tops more) ∙ sym two.extras_are),
      (grown.0, grown.1 ∙ sym whole),
      λ some. profile_on tops more profile other one.profile_is two.profile_is some,
    )

empty_by : (xs : List Top) → length xs ≤ 0 → xs ≡ []
empty_by [] less = refl
empty_by (x ∷ xs) less = absurd (omega (arith, less))

pub good_records_are_kept : GoodRecordsAreKept
good_records_are_kept bytes tops kept rest there good it = by it.stands
  where
    most : length tops ≤ length kept
    most = it.longest tops (inr (rest, there)) good

    by : (kept ≡ []) ⊎ ((behind : List ℕ) × Tops bytes kept behind) → IsFirstOf tops kept
    by (inl none) = let size = ap (λ (l : List Top). length l) none in let empty = empty_by tops (omega (arith, most, size)) in ([], append-nil tops ∙ empty ∙ sym none)
    by (inr (behind, stands)) = elim (readings_follow bytes tops kept rest behind there good stands it.good) [
      | inl follows ↦ (follows.more, sym follows.longer)
      | inr follows ↦
          let size = ap (λ (l : List Top). length l) follows.longer in
          let none = empty_by follows.more (omega (arith, most, size, length-append kept follows.more)) in
          ([], append-nil tops ∙ follows.longer ∙ ap (λ (l : List Top). kept ++ l) none ∙ append-nil kept)
    ]
