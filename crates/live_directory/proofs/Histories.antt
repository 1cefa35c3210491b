-- Histories of batches.
use Rattle.std.proofs.Common.{◌≡◌, ℕ, ◌+◌, ◌≤◌, ◌⊎◌, inl, inr, List, [], ◌∷◌, ◌++◌, length, fold, Option, Some, None, refl, sym, ◌∙◌, ap, subst, append_assoc, append-nil, length-append, arith, ⊎_elim, ◌<◌, le_refl}
use Rattle.std.specs.Prelude.{MatchBool, true, false, Bool, Result, Ok, Err, MatchResult}
use Rattle.std.proofs.lemmas.Option.{none-some}
use Rattle.std.proofs.lemmas.List.{take-append-le, take_all}
use Rattle.std.proofs.lemmas.Bool.{cases_lt}
use mathlib.Core.List.{IsPrefix}
use Rattle.live_entry.specs.declared.entry.Entry.{Entry}
use Rattle.live_entry.specs.Entries.{EntriesFollow}
use Rattle.mcap_model.specs.declared.ends.End.{End}
use Rattle.live_directory.specs.declared.front.Added.{Added}
use Rattle.live_directory.specs.Published.{entries_of, end_or, end_of}
use Rattle.live_directory.specs.Histories.{EndsLast, AlwaysFollow, IsHistory, published_front, AtLeast}

pub when_true : (P Q : Type 0) (b : Bool) → b ≡ true → MatchBool b P Q → P
when_true P Q true e p = p
when_true P Q false e p = absurd (cc (e))

end_or_none : (o p : Option End) → end_or o p ≡ None → (o ≡ None) × (p ≡ None)
end_or_none None p e = (refl, e)
end_or_none (Some x) p e = absurd (none-some x (sym e))

end_or_nothing : (o : Option End) → end_or o None ≡ o
end_or_nothing None = refl
end_or_nothing (Some x) = refl

module _ {X : Type 0} where
  pub entries_of-append : (xs ys : List (Added X)) → entries_of (xs ++ ys) ≡ entries_of xs ++ entries_of ys
  entries_of-append [] ys = refl
  entries_of-append (x ∷ xs) ys = ap (λ (es : List (Entry X)). x.entries ++ es) (entries_of-append xs ys) ∙ sym (append_assoc x.entries (entries_of xs) (entries_of ys))

  pub entries_of_snoc : (xs : List (Added X)) (t : Added X) → entries_of (xs ++ t ∷ []) ≡ entries_of xs ++ t.entries
  entries_of_snoc xs t = entries_of-append xs (t ∷ []) ∙ ap (λ (es : List (Entry X)). entries_of xs ++ es) (append-nil t.entries)

  pub end_of_snoc : (xs : List (Added X)) (t : Added X) → end_of xs ≡ None → end_of (xs ++ t ∷ []) ≡ t.end
  end_of_snoc [] t e = end_or_nothing t.end
  end_of_snoc (x ∷ xs) t e = let both = end_or_none x.end (end_of xs) e in ap (λ (o : Option End). end_or o (end_of (xs ++ t ∷ []))) both.0 ∙ end_of_snoc xs t both.1

  -- what has no end has none at its front
  pub end_of_front : (xs ys : List (Added X)) → end_of (xs ++ ys) ≡ None → end_of xs ≡ None
  end_of_front [] ys e = refl
  end_of_front (x ∷ xs) ys e = let both = end_or_none x.end (end_of (xs ++ ys)) e in
      ap (λ (o : Option End). end_or o (end_of xs)) both.0 ∙ end_of_front xs ys both.1

  pub fold_snoc : (xs ys : List (Added X)) → fold (λ (history : List (Added X)) (batch : Added X). history ++ batch ∷ []) xs ys ≡ xs ++ ys
  fold_snoc xs [] = sym (append-nil xs)
  fold_snoc xs (y ∷ ys) = fold_snoc (xs ++ y ∷ []) ys ∙ append_assoc xs (y ∷ []) ys

  -- a front of a list and one more is a front of the list, or it is all
  snoc_split : (v : List (Added X)) (t : Added X) (before behind : List (Added X)) → v ++ t ∷ [] ≡ before ++ behind
      → (behind ≡ []) ⊎ ((rest : List (Added X)) × (v ≡ before ++ rest))
  snoc_split v t [] behind e = inr (v, refl)
  snoc_split [] t (b ∷ []) behind e = inl (sym (cc (e)))
  snoc_split [] t (b ∷ c ∷ before) behind e = absurd (cc (e))
  snoc_split (x ∷ v) t (b ∷ before) behind e =
      ⊎_elim (λ (p : behind ≡ []). inl p)
      (λ (p : (rest : List (Added X)) × (v ≡ before ++ rest)). inr (p.0, cc (e, p.1)))
      (snoc_split v t before behind (cc (e)))

  ends_after : (v : List (Added X)) (t : Added X) → end_of v ≡ None → EndsLast (v ++ t ∷ [])
  ends_after v t unsealed before behind end split is =
      ⊎_elim (λ (p : behind ≡ []). p)
      (λ (p : (rest : List (Added X)) × (v ≡ before ++ rest)). absurd (none-some end (sym (end_of_front before p.0 (ap end_of (sym p.1) ∙ unsealed)) ∙ is)))
      (snoc_split v t before behind split)

  module _ (tells : X → Option (List ℕ)) where
    pub follow_whole : (v : List (Added X)) → IsHistory tells v → EntriesFollow tells (entries_of v)
    follow_whole v h = subst (λ (w : List (Added X)). EntriesFollow tells (entries_of w)) (take_all (length v) v (le_refl (length v))) (h.follow (length v))

    follow_after : (v : List (Added X)) (t : Added X) → AlwaysFollow tells v → EntriesFollow tells (entries_of v ++ t.entries) → AlwaysFollow tells (v ++ t ∷ [])
    follow_after v t always next n =
        ⊎_elim (λ (p : length v < n). subst (EntriesFollow tells) (sym (ap entries_of (take_all n (v ++ t ∷ []) (omega (arith, length-append v (t ∷ []), p))) ∙ entries_of_snoc v t)) next)
        (λ (p : n ≤ length v). subst (λ (w : List (Added X)). EntriesFollow tells (entries_of w)) (sym (take-append-le n v (t ∷ []) p)) (always n))
        (cases_lt (length v) n)

    pub history_after : (v : List (Added X)) (t : Added X) → end_of v ≡ None → EntriesFollow tells (entries_of v ++ t.entries) → IsHistory tells v → IsHistory tells (v ++ t ∷ [])
    history_after v t unsealed next h = record { ends = ends_after v t unsealed; follow = follow_after v t h.follow next }

  pub front_after : (v : List (Added X)) (t : Added X) → end_of v ≡ None → published_front (v ++ t ∷ []) ≡ record { blocks = length (entries_of v) + length t.entries; end = t.end }
  front_after v t unsealed =
      let blocks : length (entries_of (v ++ t ∷ [])) ≡ length (entries_of v) + length t.entries = ap length (entries_of_snoc v t) ∙ length-append (entries_of v) t.entries in
      λ i. record { blocks = blocks i; end = end_of_snoc v t unsealed i }

  pub front_grows : (tells : X → Option (List ℕ)) (a b : List (Added X)) → IsPrefix a b → IsHistory tells b → AtLeast (published_front a) (published_front b)
  front_grows tells a b p h =
      let whole : b ≡ a ++ p.0 = sym p.1 in
      let count : length (entries_of b) ≡ length (entries_of a) + length (entries_of p.0) = ap (λ (w : List (Added X)). length (entries_of w)) whole ∙ (ap length (entries_of-append a p.0) ∙ length-append (entries_of a) (entries_of p.0)) in record {
        blocks = omega (arith, count);
        stays = λ end is. ap published_front (whole ∙ (ap (λ (r : List (Added X)). a ++ r) (h.ends a p.0 end whole is) ∙ append-nil a));
      }

-- both ways out of a call
pub both_ways : {T E A B P Q : Type 0} (r : Result T E) → MatchResult r (λ _. A) (λ _. B) → (A → P) → (B → Q) → MatchResult r (λ _. P) (λ _. Q)
both_ways (Ok x) a f g = f a
both_ways (Err e) b f g = g b
