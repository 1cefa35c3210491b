-- Records of a summary in place.
use Rattle.std.proofs.Common.{◌≡◌, ◌⊎◌, ℕ, List, [], ◌∷◌, ◌++◌, refl, sym, ap, subst, inl, inr, ◌∙◌}
use Rattle.std.specs.Prelude.{◌≢◌}
use Rattle.mcap_model.specs.Places.{At, Has}
use Rattle.mcap_model.specs.Tops.{Top}
use Rattle.mcap_model.specs.Whole.{EndsWith, IsInPlace}
use Rattle.mcap_model.proofs.Places.{at_none, at_more, has_kept, has_last, last_apart}
use Rattle.mcap_model.proofs.Cutting.{last_of}
use Rattle.index_check.specs.declared.order.Order.{Order}
use Rattle.index_check.specs.Ids.{AddsOnce}
use Rattle.index_check.specs.Order.{OrderOf, OffsetsLast}

none_there : (before : List Top) (kept : Order) (op : ℕ) → OrderOf before kept → (Has kept.ops op → ⊥) → (n : ℕ) (u : Top) → At before n u → u.op ≢ op
none_there before kept op are none n u at same = none (subst (Has kept.ops) same (are.there n u at))

offsets_last : (before : List Top) (t : Top) (kept : Order) (op : ℕ) → OrderOf before kept → t.op ≡ op → OffsetsLast kept.ops op → t.op ≢ 14 → (n : ℕ) (u : Top) → At before n u → u.op ≢ 14
offsets_last before t kept op are is last other n u at same = last (λ e. other (is ∙ e)) (subst (Has kept.ops) same (are.there n u at))

-- the first record of its opcode
pub first_in_place : (before : List Top) (t : Top) (kept : Order) (op : ℕ) → OrderOf before kept → t.op ≡ op → OffsetsLast kept.ops op → (Has kept.ops op → ⊥) → IsInPlace before t
first_in_place before t kept op are is last none = record {
  together = inr (λ n u at same. none_there before kept op are none n u at (same ∙ is));
  one_statistics = λ eleven n u at same. none_there before kept op are none n u at (same ∙ sym eleven ∙ is);
  offsets_last = offsets_last before t kept op are is last;
}

-- one of the opcode of the last
pub again_in_place : (before : List Top) (t : Top) (kept : Order) (op : ℕ) → OrderOf before kept → t.op ≡ op → OffsetsLast kept.ops op → Has kept.ops op → op ≢ 11 → op ≡ kept.last → IsInPlace before t
again_in_place before t kept op are is last has other same = record {
  together = inl (ends before refl (are.are op has));
  one_statistics = λ eleven. absurd (other (sym is ∙ eleven));
  offsets_last = offsets_last before t kept op are is last;
}
  where
    ends : (list : List Top) → before ≡ list → (u : Top) × Has before u × (u.op ≡ op) → EndsWith t.op before
    ends [] e (u, there, _) = absurd (at_none there.0 u (subst (λ (l : List Top). At l there.0 u) e there.1))
    ends (x ∷ xs) e some =
        let (front, l, split) = last_of x xs in
        (front, l, e ∙ split, are.last front l (e ∙ split) ∙ sym same ∙ sym is)

pub in_place_offsets : (before : List Top) (t : Top) (kept : Order) (op : ℕ) → OrderOf before kept → t.op ≡ op → IsInPlace before t → OffsetsLast kept.ops op
in_place_offsets before t kept op are is place other has =
    let (u, there, kind) = are.are 14 has in
    place.offsets_last (λ e. other (sym is ∙ e)) there.0 u there.1 kind

pub in_place_statistics : (before : List Top) (t : Top) (kept : Order) (op : ℕ) → OrderOf before kept → t.op ≡ op → IsInPlace before t → Has kept.ops op → op ≢ 11
in_place_statistics before t kept op are is place has eleven =
    let (u, there, kind) = are.are op has in
    place.one_statistics (is ∙ eleven) there.0 u there.1 (kind ∙ eleven)

pub in_place_last : (before : List Top) (t : Top) (kept : Order) (op : ℕ) → OrderOf before kept → t.op ≡ op → IsInPlace before t → Has kept.ops op → op ≡ kept.last
in_place_last before t kept op are is place has = elim place.together [
  | inl (front, u, joined, kind) ↦ sym is ∙ sym kind ∙ are.last front u joined
  | inr none ↦ let (u, there, kind) = are.are op has in absurd (none there.0 u there.1 (kind ∙ sym is))
]

-- ---- one more

once_kept : (old new : List ℕ) (id x : ℕ) → AddsOnce old id new → Has old x → Has new x
once_kept old new id x adds has = elim adds [
  | inl (there, same) ↦ subst (λ (l : List ℕ). Has l x) (sym same) has
  | inr (fresh, more) ↦ subst (λ (l : List ℕ). Has l x) (sym more) (has_kept old (id ∷ []) x has)
]

once_new : (old new : List ℕ) (id : ℕ) → AddsOnce old id new → Has new id
once_new old new id adds = elim adds [
  | inl (there, same) ↦ subst (λ (l : List ℕ). Has l id) (sym same) there
  | inr (fresh, more) ↦ subst (λ (l : List ℕ). Has l id) (sym more) (has_last old id [])
]

once_is : (old new : List ℕ) (id x : ℕ) → AddsOnce old id new → Has new x → Has old x ⊎ (x ≡ id)
once_is old new id x adds has = elim adds [
  | inl (there, same) ↦ inl (subst (λ (l : List ℕ). Has l x) same has)
  | inr (fresh, more) ↦
      let there = subst (λ (l : List ℕ). Has l x) more has in
      elim (at_more old id there.0 x there.1) [
        | inl before ↦ inl (there.0, before)
        | inr last ↦ inr last.1
      ]
]

pub order_more : (before : List Top) (t : Top) (kept : Order) (op : ℕ) (new : List ℕ) → OrderOf before kept → t.op ≡ op → AddsOnce kept.ops op new → OrderOf (before ++ t ∷ []) (record { ops = new; last = op })
order_more before t kept op new are is adds = record {
  there = λ n u at. elim (at_more before t n u at) [
    | inl old ↦ once_kept kept.ops new op u.op adds (are.there n u old)
    | inr (_, same) ↦ subst (Has new) (sym (ap (λ (x : Top). x.op) same ∙ is)) (once_new kept.ops new op adds)
  ];
  are = λ x has. elim (once_is kept.ops new op x adds has) [
    | inl old ↦ let (u, there, kind) = are.are x old in (u, has_kept before (t ∷ []) u there, kind)
    | inr same ↦ (t, has_last before t [], is ∙ sym same)
  ];
  last = λ front u joined.
      let one = last_apart (λ (x : Top). ⊥) before front t u [] [] joined (λ e. e) (λ e. e) (λ n x at. absurd (at_none n x at)) (λ n x at. absurd (at_none n x at)) in
      sym (ap (λ (x : Top). x.op) one.0) ∙ is;
}
