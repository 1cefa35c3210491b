-- When two pairs of texts are equal, and what is hashed of one.
use Rattle.std.specs.Prelude.{◌≡◌, ℕ, Bool, true, ◌&&◌, List, ◌++◌, nat_eq}
use Rattle.std.proofs.Common.{ap, ◌∙◌}
use Rattle.std.specs.Cmp.{first_so, second_so}
use Rattle.std.specs.Cmp.Derive.{both_true}
use Rattle.std.specs.Cmp.Lexicographic.{pointwise, pointwise_decides, bytes_decides}
use Rattle.std.specs.Hash as fed

abbrev pub pair_eq : List ℕ × List ℕ → List ℕ × List ℕ → Bool
pair_eq p q = pointwise nat_eq p.0 q.0 && pointwise nat_eq p.1 q.1

abbrev pub pair_fed : List ℕ × List ℕ → List (List ℕ)
pair_fed p = fed.str p.0 ++ fed.str p.1

pub pair_decides : (p q : List ℕ × List ℕ) → (pair_eq p q ≡ true → p ≡ q) × (p ≡ q → pair_eq p q ≡ true)
pair_decides p q = (
  λ same.
      let one = (bytes_decides p.0 q.0).0 (first_so (pointwise nat_eq p.0 q.0) (pointwise nat_eq p.1 q.1) same) in
      let other = (bytes_decides p.1 q.1).0 (second_so (pointwise nat_eq p.0 q.0) (pointwise nat_eq p.1 q.1) same) in
      ap (λ (l : List ℕ). pair l p.1) one ∙ ap (λ (l : List ℕ). pair q.0 l) other,
  λ same. both_true ((bytes_decides p.0 q.0).1 (ap (λ (r : List ℕ × List ℕ). r.0) same))
      ((bytes_decides p.1 q.1).1 (ap (λ (r : List ℕ × List ℕ). r.1) same)),
)
  where
    pair : List ℕ → List ℕ → List ℕ × List ℕ
    pair l m = (l, m)

pub pairs_decide : (xs ys : List (List ℕ × List ℕ))
    → (pointwise pair_eq xs ys ≡ true → xs ≡ ys) × (xs ≡ ys → pointwise pair_eq xs ys ≡ true)
pairs_decide = pointwise_decides pair_decides

pub pairs_fed_alike : (xs ys : List (List ℕ × List ℕ)) → pointwise pair_eq xs ys ≡ true
    → fed.slice pair_fed xs ≡ fed.slice pair_fed ys
pairs_fed_alike xs ys same = ap (fed.slice pair_fed) ((pairs_decide xs ys).0 same)
