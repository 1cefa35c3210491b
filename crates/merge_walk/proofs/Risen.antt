-- Messages that were sorted rise, since no two stand at one place.
use Rattle.std.proofs.Common.{◌≡◌, ℕ, ◌+◌, ◌<◌, Bool, true, false, eqb, List, length, get_or, refl, sym, inl, inr, cond, arith}
use Rattle.std.specs.Prelude.{◌==◌, nat_lt, IsPermutation}
use Rattle.std.specs.List.{IsDistinct}
use Rattle.std.specs.declared.cmp.Ordering.TheVariants.{Less, Equal, Greater}
use Rattle.std.specs.Ordering.{nat_cmp, is_lt, ordering_then}
use Rattle.std.proofs.lemmas.Bool.{ltb-false, eqb-true, eqb-false, ne_eqb}
use Rattle.std.proofs.lemmas.Map.Keys.{IsDistinct-IsPermutation, IsDistinct-from_apart, apart_from_distinct}
use Rattle.mcap_scan.specs.declared.message_heads.MessageHead.{MessageHead}
use Rattle.merge_walk.specs.Heads.{OffsetsRise, HeadBefore, HeadsRise}

abbrev same_place : MessageHead → MessageHead → Bool
same_place a b = eqb a.offset b.offset

flips : (a b : MessageHead) → same_place a b ≡ same_place b a
flips a b = by (eqb a.offset b.offset) (eqb b.offset a.offset) refl refl
  where
    by : (x y : Bool) → eqb a.offset b.offset ≡ x → eqb b.offset a.offset ≡ y → x ≡ y
    by true true one other = refl
    by false false one other = refl
    by true false one other = let same = eqb-true a.offset b.offset one in absurd (eqb-false b.offset a.offset other (sym same))
    by false true one other = let same = eqb-true b.offset a.offset other in absurd (eqb-false a.offset b.offset one (sym same))

distinct : (heads : List MessageHead) → OffsetsRise heads → IsDistinct same_place heads
distinct heads apart = IsDistinct-from_apart same_place heads (λ i j d less within.
    let below = apart i j d less within in
    ne_eqb (get_or heads i d).offset (get_or heads j d).offset (λ e. omega (arith, e, below)))

not_false : true ≡ false → ⊥
not_false e = cc

before : (s r : MessageHead) → is_lt (ordering_then (nat_cmp s.time r.time) (nat_cmp s.offset r.offset)) ≡ false → same_place r s ≡ false → HeadBefore r s
before s r less other = by (nat_lt s.time r.time) (s.time == r.time) (nat_lt s.offset r.offset) (s.offset == r.offset) refl refl refl less
  where
    by : (l e m f : Bool) → nat_lt s.time r.time ≡ l → (s.time == r.time) ≡ e → nat_lt s.offset r.offset ≡ m
        → is_lt (ordering_then (cond l Less (cond e Equal Greater)) (cond m Less (cond f Equal Greater))) ≡ false → HeadBefore r s
    by true e m f l_is e_is m_is is = absurd (not_false is)
    by false false m f l_is e_is m_is is = inl (omega (arith, ltb-false s.time r.time l_is, eqb-false s.time r.time e_is))
    by false true true f l_is e_is m_is is = absurd (not_false is)
    by false true false f l_is e_is m_is is = inr (sym (eqb-true s.time r.time e_is), omega (arith, ltb-false s.offset r.offset m_is, eqb-false r.offset s.offset other))

pub risen : (olds news : List MessageHead) → OffsetsRise olds → IsPermutation olds news
    → ((k : ℕ) (d : MessageHead) → k + 1 < length news → is_lt (ordering_then (nat_cmp (get_or news (k + 1) d).time (get_or news k d).time) (nat_cmp (get_or news (k + 1) d).offset (get_or news k d).offset)) ≡ false) → HeadsRise news
risen olds news apart moved sorted k d within =
    before (get_or news (k + 1) d) (get_or news k d) (sorted k d within)
    (apart_from_distinct same_place news k (k + 1) d (IsDistinct-IsPermutation same_place flips olds news moved (distinct olds apart)) (omega arith) within)
