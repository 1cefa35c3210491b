-- The parts of a file are told of in one way.
use Rattle.std.proofs.Common.{◌≡◌, ℕ, zero, suc, ◌<◌, List, [], ◌∷◌, refl, sym, ap, subst, inl, inr, ◌∙◌, arith}
use Rattle.std.specs.Prelude.{AllPairs}
use Rattle.std.specs.Cmp.Lexicographic.{slice_cmp}
use Rattle.std.specs.Ordering.{nat_cmp, ordering_reverse}
use Rattle.std.specs.declared.cmp.Ordering.TheVariants.{Less}
use Rattle.std.proofs.lemmas.Bool.{cases_order}
use Rattle.std.proofs.lemmas.Cmp.{nat_list_cmp_total}
use Rattle.std.proofs.lemmas.Option.{same_Some}
use Rattle.mcap_wire.specs.Contents.{Values}
use Rattle.mcap_wire.proofs.Contents.{shows_decided}
use Rattle.rec_data.specs.Fields.{HeaderFields}
use Rattle.rec_data.specs.Records.{header_kinds, header_values, ShowsHeader}
use Rattle.mcap_model.specs.Places.{At, Has}
use Rattle.mcap_model.specs.Tops.{Top}
use Rattle.mcap_model.specs.Fields.{IsSchema, IsChannel, IsStatistics}
use Rattle.mcap_model.proofs.Places.{at_none, at_one}
use Rattle.mcap_model.proofs.Lists.{pairs_at, pairs_from}
use Rattle.mcap_model.proofs.Maps.{schema_once, shows_once}
use Rattle.mcap_model.proofs.NamedTopics.{unmapped}
use Rattle.mcap_model.proofs.Once.{statistics_once}
use Rattle.summary_read.specs.Parts.{Parts}
use Rattle.command_read.specs.Firsts.{IsFirstOfId, AreFirsts}
use Rattle.command_read.specs.Json.{Info}
use Rattle.command_read.specs.Told.{AreNames, IsTold, info_line}
use Rattle.command_read.specs.Laws.{OneText}

-- ---- lists in one order that have the same elements

module _ {X : Type 0} (R : X → X → Type 0) (apart : (x y : X) → R x y → R y x → ⊥) where
  tail_rises : (x : X) (xs : List X) → AllPairs R (x ∷ xs) → AllPairs R xs
  tail_rises x xs rises = pairs_from R xs (λ j k y z less at_y at_z. pairs_at R (x ∷ xs) rises (suc j) (suc k) y z (omega (arith, less)) at_y at_z)

  head_below : (x : X) (xs : List X) (n : ℕ) (y : X) → AllPairs R (x ∷ xs) → At xs n y → R x y
  head_below x xs n y rises at = pairs_at R (x ∷ xs) rises 0 (suc n) x y (omega arith) refl at

  heads_one : (x y : X) (xs ys : List X) → AllPairs R (x ∷ xs) → AllPairs R (y ∷ ys) → Has (y ∷ ys) x → Has (x ∷ xs) y → x ≡ y
  heads_one x y xs ys rises others (zero, at) back = sym (same_Some y x at)
  heads_one x y xs ys rises others (suc n, at) (zero, there) = same_Some x y there
  heads_one x y xs ys rises others (suc n, at) (suc m, there) = absurd (apart x y (head_below x xs m y rises there) (head_below y ys n x others at))

  tail_has : (x y : X) (xs ys : List X) → AllPairs R (x ∷ xs) → x ≡ y → ((z : X) → Has (x ∷ xs) z → Has (y ∷ ys) z) → (z : X) → Has xs z → Has ys z
  tail_has x y xs ys rises same to z (n, at) = by (to z (suc n, at))
    where
      by : Has (y ∷ ys) z → Has ys z
      by (zero, there) =
          let itself : z ≡ x = sym (same_Some y z there) ∙ sym same in
          let below : R x z = head_below x xs n z rises at in
          absurd (apart x x (subst (R x) itself below) (subst (R x) itself below))
      by (suc m, there) = (m, there)

  pub same_sorted : (xs ys : List X) → AllPairs R xs → AllPairs R ys → ((z : X) → Has xs z → Has ys z) → ((z : X) → Has ys z → Has xs z) → xs ≡ ys
  same_sorted [] [] rises others to back = refl
  same_sorted [] (y ∷ ys) rises others to back = let some = back y (0, refl) in absurd (at_none some.0 y some.1)
  same_sorted (x ∷ xs) [] rises others to back = let some = to x (0, refl) in absurd (at_none some.0 x some.1)
  same_sorted (x ∷ xs) (y ∷ ys) rises others to back =
      let first : x ≡ y = heads_one x y xs ys rises others (to x (0, refl)) (back y (0, refl)) in
      let rest : xs ≡ ys = same_sorted xs ys (tail_rises x xs rises) (tail_rises y ys others) (tail_has x y xs ys rises first to) (tail_has y x ys xs others (sym first) back) in
      ap (λ (z : X). z ∷ xs) first ∙ ap (λ (l : List X). y ∷ l) rest

-- ---- the first records

module _ {F : Type 0} (Is : Top → ℕ → F → Type 0) (once : (t : Top) (id other : ℕ) (f g : F) → Is t id f → Is t other g → (id ≡ other) × (f ≡ g)) (tops : List Top) where
  first_once : (id : ℕ) (f g : F) → IsFirstOfId Is tops id f → IsFirstOfId Is tops id g → f ≡ g
  first_once id f g one other = elim (cases_order one.place other.place) [
    | inl same ↦
        let top : one.top ≡ other.top = at_one tops other.place one.top other.top (subst (λ (n : ℕ). At tops n one.top) same one.at) other.at in
        (once other.top id id f g (subst (λ (t : Top). Is t id f) top one.is) other.is).1
    | inr (inl less) ↦ absurd (other.first one.place one.top f less one.at one.is)
    | inr (inr less) ↦ absurd (one.first other.place other.top g less other.at other.is)
  ]

  shown_in : (xs ys : List (ℕ × F)) → AreFirsts Is tops xs → AreFirsts Is tops ys → (c : ℕ × F) → Has xs c → Has ys c
  shown_in xs ys one other c (n, at) =
      let first = one.are n c at in
      let (m, there) = other.all first.place c.0 first.top c.1 first.at first.is in
      let (d, in_ys, same) = unmapped (λ e. e.0) ys m c.0 there in
      let shown : d.1 ≡ c.1 = first_once c.0 d.1 c.1 (subst (λ (id : ℕ). IsFirstOfId Is tops id d.1) same (other.are m d in_ys)) first in
      let pair : d ≡ c = λ i. (same i, shown i) in
      (m, subst (At ys m) pair in_ys)

  pub firsts_once : (xs ys : List (ℕ × F)) → AreFirsts Is tops xs → AreFirsts Is tops ys → xs ≡ ys
  firsts_once xs ys one other =
      same_sorted (λ c d. c.0 < d.0) (λ c d less more. omega (arith, less, more)) xs ys one.rises other.rises (shown_in xs ys one other) (shown_in ys xs other one)

-- ---- the names

below_apart : (a b : List ℕ) → slice_cmp nat_cmp a b ≡ Less → slice_cmp nat_cmp b a ≡ Less → ⊥
below_apart a b one other =
    let turned : Less ≡ ordering_reverse Less = sym one ∙ nat_list_cmp_total.antisymm a b ∙ ap ordering_reverse other in
    cc turned

names_in : (indexes : List Top) (xs ys : List (List ℕ)) → AreNames indexes xs → AreNames indexes ys → (name : List ℕ) → Has xs name → Has ys name
names_in indexes xs ys one other name (n, at) = other.all name (one.are n name at)

pub names_once : (indexes : List Top) (xs ys : List (List ℕ)) → AreNames indexes xs → AreNames indexes ys → xs ≡ ys
names_once indexes xs ys one other =
    same_sorted (λ a b. slice_cmp nat_cmp a b ≡ Less) below_apart xs ys one.rises other.rises (names_in indexes xs ys one other) (names_in indexes ys xs other one)

-- ---- the whole

abbrev header_of : List ℕ → List ℕ → HeaderFields
header_of profile library = record { profile = profile; library = library }

header_once : (content : List ℕ) (f g : HeaderFields) → ShowsHeader content f → ShowsHeader content g → f ≡ g
header_once content f g one other =
    let same = shows_decided header_kinds content (header_values f) (header_values g) one other in
    ap (λ (v : Values header_kinds). header_of v.0 v.1.0) same

told_once : (p : Parts) (i j : Info) → IsTold p i → IsTold p j → i ≡ j
told_once p i j one other =
    let header : i.header ≡ j.header = header_once p.header.content i.header j.header one.header other.header in
    let top : one.statistics ≡ other.statistics = same_Some one.statistics other.statistics (sym one.found ∙ other.found) in
    let statistics : i.statistics ≡ j.statistics = statistics_once other.statistics i.statistics j.statistics (subst (λ (t : Top). IsStatistics t i.statistics) top one.statistics_is) other.statistics_is in
    let channels : i.channels ≡ j.channels = firsts_once IsChannel shows_once p.channels i.channels j.channels one.channels other.channels in
    let schemas : i.schemas ≡ j.schemas = firsts_once IsSchema schema_once p.schemas i.schemas j.schemas one.schemas other.schemas in
    let names : i.compressions ≡ j.compressions = names_once p.chunk_indexes i.compressions j.compressions one.compressions other.compressions in
    λ k. record { header = header k; statistics = statistics k; channels = channels k; schemas = schemas k; compressions = names k }

pub one_text : OneText
one_text p text other (i, one, is) (j, two, same) = is ∙ ap info_line (told_once p i j one two) ∙ sym same
