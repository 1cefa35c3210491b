-- A file whose records keep all rules is valid.
use Rattle.std.proofs.Common.{◌≡◌, ℕ, zero, suc, ◌+◌, false, List, [], ◌∷◌, ◌++◌, length, take, None, refl, sym, ap, subst, inl, inr, ◌∙◌, append_assoc, arith}
use Rattle.std.specs.Prelude.{◌≢◌}
use Rattle.std.proofs.lemmas.List.{length-append, take-append-le}
use Rattle.std.proofs.Math.Seq.{take-append_seam}
use Rattle.mcap_wire.specs.Layout.{magic}
use Rattle.mcap_model.specs.Places.{At, Each, EachBehind}
use Rattle.mcap_model.specs.Tops.{Top, spelled, flattened}
use Rattle.mcap_model.specs.Fields.{IsFooter}
use Rattle.mcap_model.specs.Kept.{reading_limits, Good}
use Rattle.mcap_model.specs.Rules.{HasDataEnd, stands_in_section, V3, V5, V6, V7, V8, V10}
use Rattle.mcap_model.specs.Whole.{is_last, InSummary, IsWhole, IsInPlace, V5Behind, V9, V11, V12, V13, V14, V15, V16, V17}
use Rattle.mcap_model.specs.Valid.{Keeps, Valid, IsPlain}
use Rattle.mcap_model.proofs.Flat.{each_join}
use Rattle.mcap_model.proofs.Front.{IsTail, tail_not}
use Rattle.mcap_model.proofs.Histories.{flat_none}
use Rattle.mcap_model.proofs.Lists.{at_either, each_cons, each_joined}
use Rattle.mcap_model.proofs.Meets.{footer_meets}
use Rattle.mcap_model.proofs.Places.{at_none, at_within}
use Rattle.std.proofs.lemmas.Option.{same_Some}
use Rattle.summary_read.specs.Steps.{Judged}
use Rattle.summary_check.specs.Body.{known, OrderJudged}
use Rattle.summary_check.specs.Laid.{all_of, EndsWithDataEnd, IsFrontRecord}
use Rattle.summary_check.proofs.Failing.{judged_plain}
use Rattle.mcap_model.proofs.TakenRecords.{ended_front}
use Rattle.summary_check.proofs.Laying.{has_end, unended_front, front_not, length-all, behind_body}
use Rattle.summary_check.proofs.Staying.{keeps_9}

one_at : (foot : Top) (n : ℕ) (t : Top) → At (foot ∷ []) n t → (n ≡ 0) × (foot ≡ t)
one_at foot zero t at = (refl, same_Some foot t at)
one_at foot (suc n) t at = absurd (at_none n t at)

-- all that was judged of the records
pub record AllJudged (file : List ℕ) (tops body : List Top) (foot : Top) : Type 0 where
  pub whole : IsWhole file (all_of tops body foot)
  pub ended : EndsWithDataEnd tops
  pub kinds : Each IsFrontRecord tops
  pub good : Good reading_limits tops
  pub v9 : Keeps V9 tops
  pub judged : Each (λ t. Judged t None) body
  pub summary : ℕ
  pub offsets : ℕ
  pub crc : ℕ
  pub footer : IsFooter foot summary offsets crc
  pub v7 : (k : ℕ) (t : Top) → At body k t → V7 (tops ++ take k body) t
  pub order : OrderJudged body None
  pub indexes : (k : ℕ) (t : Top) → At body k t → V12 (all_of tops body foot) (length tops + k) t × V13 (all_of tops body foot) (length tops + k) t
  pub statistics : (k : ℕ) (t : Top) → At body k t → V14 (all_of tops body foot) (length tops + k) t
  pub named : (k : ℕ) (t : Top) → At body k t → V15 (all_of tops body foot) (length tops + k) t
  pub places : V11 (all_of tops body foot) (length tops + length body) foot
  pub v16 : V16 file (all_of tops body foot) (length tops + length body) foot

module _ (file : List ℕ) (tops body : List Top) (foot : Top) (j : AllJudged file tops body foot) where
  abbrev all : List Top
  all = all_of tops body foot

  tail : (k : ℕ) (t : Top) → At body k t → IsTail t
  tail k t at = let judged = j.judged k t at in record { kind = judged.0; v6 = judged.1 }

  ended_behind : (l : List Top) → HasDataEnd (tops ++ l)
  ended_behind l = ended_front tops l (has_end tops j.ended)

  by_places : (P : ℕ → Top → Type 0) → ((n : ℕ) (t : Top) → At tops n t → P n t) → ((k : ℕ) (t : Top) → At body k t → P (length tops + k) t) → P (length tops + length body) foot → (n : ℕ) (t : Top) → At all n t → P n t
  by_places P front middle last n t at = elim (at_either tops (body ++ foot ∷ []) n t at) [
    | inl first ↦ front n t first
    | inr (k, there, second) ↦ subst (λ (m : ℕ). P m t) (sym there) (elim (at_either body (foot ∷ []) k t second) [
      | inl here ↦ middle k t here
      | inr (m, past, end) ↦
          let (none, same) = one_at foot m t end in
          let place : k ≡ length body = omega (arith, past, none) in
          subst (λ (i : ℕ). P (length tops + i) t) (sym place) (subst (P (length tops + length body)) same last)
    ])
  ]

  each_part : (P : Top → Type 0) → Each P tops → Each P body → P foot → Each P all
  each_part P front middle last = each_joined P tops (body ++ foot ∷ []) front (each_joined P body (foot ∷ []) middle (each_cons P foot [] last (λ n t at. absurd (at_none n t at))))

  -- what holds of each record behind those before it
  behind_parts : (P : List Top → Top → Type 0) → EachBehind P tops → ((k : ℕ) (t : Top) → At body k t → P (tops ++ take k body) t) → P (tops ++ body) foot → EachBehind P all
  behind_parts P front middle last = each_join P tops (body ++ foot ∷ []) front (λ k t at. elim (at_either body (foot ∷ []) k t at) [
    | inl here ↦
        let within = at_within body k t here in
        subst (λ (l : List Top). P (tops ++ l) t) (sym (take-append-le k body (foot ∷ []) (omega (arith, within)))) (middle k t here)
    | inr (m, past, end) ↦
        let (none, same) = one_at foot m t end in
        let place : k ≡ length body = omega (arith, past, none) in
        let seam : take k (body ++ foot ∷ []) ≡ body = ap (λ (i : ℕ). take i (body ++ foot ∷ [])) place ∙ take-append_seam body (foot ∷ []) in
        subst (λ (l : List Top). P (tops ++ l) t) (sym seam) (subst (P (tops ++ body)) same last)
  ])

  foot_not : (k : ℕ) → (k ≡ 2 → ⊥) → foot.op ≡ k → ⊥
  foot_not k other e = let footer = j.footer in other (sym e ∙ footer.kind)

  not_last_front : (n : ℕ) (t : Top) → At tops n t → is_last all n → ⊥
  not_last_front n t at last = let within = at_within tops n t at in omega (arith, last, within, length-all tops body foot)

  not_last_body : (k : ℕ) (t : Top) → At body k t → is_last all (length tops + k) → ⊥
  not_last_body k t at last = let within = at_within body k t at in omega (arith, last, within, length-all tops body foot)

  not_within_front : (n : ℕ) (t : Top) → At tops n t → InSummary all n → ⊥
  not_within_front n t at within = unended_front tops (body ++ foot ∷ []) n j.ended (at_within tops n t at) within.0

  not_within_foot : InSummary all (length tops + length body) → ⊥
  not_within_foot within = let room = within.1 in omega (arith, room, length-all tops body foot)

  -- ---- the rules of a record by itself, and behind those before it

  some_front : (l : List Top) (t : Top) → V3 (tops ++ l) t
  some_front l t = by (tops ++ l) (ended_behind l)
    where
      by : (xs : List Top) → HasDataEnd xs → V3 xs t
      by [] none = absurd none
      by (x ∷ xs) has = tt

  valid_behind : (l : List Top) (t : Top) → (t.op ≡ 0 → ⊥) → V5 (tops ++ l) t
  valid_behind l t some = by (tops ++ l) (ended_behind l)
    where
      by : (xs : List Top) → HasDataEnd xs → V5 xs t
      by [] none = absurd none
      by (x ∷ xs) has = (some, inl has)

  keeps_3 : EachBehind V3 all
  keeps_3 = behind_parts V3 (λ n t at. let fits = j.good n t at in fits.v3) (λ k t at. some_front (take k body) t) (some_front body foot)

  keeps_5 : EachBehind V5 all
  keeps_5 = behind_parts V5 (λ n t at. let fits = j.good n t at in fits.v5) (λ k t at. valid_behind (take k body) t (tail_not t 0 (tail k t at) refl)) (valid_behind body foot (foot_not 0 (λ e. omega (arith, e))))

  keeps_6 : Each V6 all
  keeps_6 = each_part V6 (λ n t at. let fits = j.good n t at in fits.v6) (λ k t at. let judged = j.judged k t at in judged.1) (footer_meets foot j.summary j.offsets j.crc j.footer)

  keeps_7 : (flattened foot ≡ []) → EachBehind V7 all
  keeps_7 silent = behind_parts V7 (λ n t at. let fits = j.good n t at in fits.v7) j.v7 (flat_none (tops ++ body) foot silent)

  keeps_8 : Each V8 all
  keeps_8 = each_part V8 (λ n t at. let fits = j.good n t at in fits.v8) (λ k t at f is plain. absurd (tail_not t 6 (tail k t at) refl is.kind)) (λ f is plain. absurd (foot_not 6 (λ e. omega (arith, e)) is.kind))

  keeps_10 : Each V10 all
  keeps_10 = each_part V10 (λ n t at. let fits = j.good n t at in fits.v10) (λ k t at f place kind. absurd (tail_not t 9 (tail k t at) refl kind)) (λ f place kind. absurd (foot_not 9 (λ e. omega (arith, e)) kind))

  plain : Each IsPlain all
  plain = each_part IsPlain (λ n t at. let fits = j.good n t at in fits.plain) (λ k t at. judged_plain t (j.judged k t at)) (λ name names. let is = names.is in foot_not 6 (λ e. omega (arith, e)) is.kind)

  -- ---- the rules of a record at its place

  keeps_behind : Keeps V5Behind all
  keeps_behind = by_places (λ n t. V5Behind all n t)
      (λ n t at. (λ within. absurd (not_within_front n t at within), λ last. absurd (not_last_front n t at last)))
      (λ k t at. (λ within. let judged = j.judged k t at in judged.0, λ last. absurd (not_last_body k t at last)))
      (λ within. absurd (not_within_foot within), λ last. ended_behind (body ++ foot ∷ []))

  keeps_nine : Keeps V9 all
  keeps_nine = by_places (λ n t. V9 all n t)
      (λ n t at. keeps_9 tops (body ++ foot ∷ []) j.ended j.v9 n t at)
      (λ k t at. (λ seven. absurd (tail_not t 7 (tail k t at) refl seven), λ six. absurd (tail_not t 6 (tail k t at) refl six)))
      (λ seven. absurd (foot_not 7 (λ e. omega (arith, e)) seven), λ six. absurd (foot_not 6 (λ e. omega (arith, e)) six))

  keeps_11 : Keeps V11 all
  keeps_11 = by_places (λ n t. V11 all n t)
      (λ n t at. (λ summary offsets crc last. absurd (not_last_front n t at last), λ within. absurd (not_within_front n t at within)))
      (λ k t at. (
        λ summary offsets crc last. absurd (not_last_body k t at last),
        λ within known_is.
            let near = at_within body k t at in
            subst (λ (l : List Top). IsInPlace l t) (sym (ap known (behind_body tops body foot j.ended k (omega (arith, near))))) (j.order k t at known_is),
      ))
      j.places

  front_other : (m n : ℕ) (t : Top) → At tops n t → (m ≡ 1 → ⊥) → stands_in_section m ≡ false → t.op ≡ m → ⊥
  front_other m n t at other stands = front_not t m (j.kinds n t at) other stands

  keeps_12 : Keeps V12 all
  keeps_12 = by_places (λ n t. V12 all n t)
      (λ n t at f is. absurd (front_other 8 n t at (λ e. omega (arith, e)) refl is.kind))
      (λ k t at. let both = j.indexes k t at in both.0)
      (λ f is. absurd (foot_not 8 (λ e. omega (arith, e)) is.kind))

  keeps_13 : Keeps V13 all
  keeps_13 = by_places (λ n t. V13 all n t)
      (λ n t at. (λ f is. absurd (front_other 10 n t at (λ e. omega (arith, e)) refl is.kind), λ offset size name is. absurd (front_other 13 n t at (λ e. omega (arith, e)) refl is.kind)))
      (λ k t at. let both = j.indexes k t at in both.1)
      (λ f is. absurd (foot_not 10 (λ e. omega (arith, e)) is.kind), λ offset size name is. absurd (foot_not 13 (λ e. omega (arith, e)) is.kind))

  keeps_14 : Keeps V14 all
  keeps_14 = by_places (λ n t. V14 all n t)
      (λ n t at f is. absurd (front_other 11 n t at (λ e. omega (arith, e)) refl is.kind))
      j.statistics
      (λ f is. absurd (foot_not 11 (λ e. omega (arith, e)) is.kind))

  keeps_15 : Keeps V15 all
  keeps_15 = by_places (λ n t. V15 all n t)
      (λ n t at op offset size is. absurd (front_other 14 n t at (λ e. omega (arith, e)) refl is.kind))
      j.named
      (λ op offset size is. absurd (foot_not 14 (λ e. omega (arith, e)) is.kind))

  keeps_16 : Keeps (V16 file) all
  keeps_16 = by_places (λ n t. V16 file all n t)
      (λ n t at summary offsets crc last. absurd (not_last_front n t at last))
      (λ k t at summary offsets crc last. absurd (not_last_body k t at last))
      j.v16

  keeps_17 : V17 all
  keeps_17 = (
    tops ++ body,
    foot,
    sym (append_assoc tops body (foot ∷ [])),
    (j.summary, j.offsets, j.crc, j.footer),
    each_joined (λ u. u.op ≢ 2) tops body (λ n t at. front_other 2 n t at (λ e. omega (arith, e)) refl) (λ k t at. tail_not t 2 (tail k t at) refl),
  )

  pub all_valid : flattened foot ≡ [] → Valid file all
  all_valid silent =
      let whole = j.whole in
      let size = ap length whole.split in
      record {
        v1 = (spelled all ++ magic, whole.split);
        v2 = (omega (arith, size, length-append magic (spelled all ++ magic), length-append (spelled all) magic), (magic ++ spelled all, whole.split ∙ sym (append_assoc magic (spelled all) magic)));
        some = λ none. let few = ap length none in omega (arith, few, length-all tops body foot);
        v3 = keeps_3;
        v4 = whole;
        v5 = keeps_5;
        v5_behind = keeps_behind;
        v6 = keeps_6;
        v7 = keeps_7 silent;
        v8 = keeps_8;
        v9 = keeps_nine;
        v10 = keeps_10;
        v11 = keeps_11;
        v12 = keeps_12;
        v13 = keeps_13;
        v14 = keeps_14;
        v15 = keeps_15;
        v16 = keeps_16;
        v17 = keeps_17;
        plain = plain;
      }
