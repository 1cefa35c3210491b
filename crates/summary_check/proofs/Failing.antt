-- A record behind a Data End that breaks a rule is a flaw of the file.
use Rattle.std.proofs.Common.{ℕ, suc, ◌+◌, List, [], ◌∷◌, ◌++◌, length, take, None, Some, refl, sym, ap, subst, inl, inr, arith}
use Rattle.std.proofs.lemmas.Bool.{both_ways}
use Rattle.mcap_wire.specs.declared.faults.Cut.{Cut}
use Rattle.mcap_wire.specs.Layout.{magic}
use Rattle.mcap_model.specs.Places.{At, Each}
use Rattle.mcap_model.specs.Tops.{Top}
use Rattle.mcap_model.specs.Rules.{V6, V7}
use Rattle.mcap_model.specs.Whole.{offset_of, stands_in_summary, V5Behind, V11, V12, V13, V14, V15, IsInPlace}
use Rattle.mcap_model.specs.Valid.{Behind, WherePlain, FailsAmong, FailsIn, IsPlain, Flaw, flaw_5, flaw_6, flaw_7, flaw_11, flaw_12, flaw_13, flaw_14, flaw_15}
use Rattle.mcap_model.specs.Plain.{cut_top}
use Rattle.mcap_model.proofs.Front.{IsTail, tail_not}
use Rattle.mcap_model.proofs.Lists.{each_cons, each_joined, each_taken}
use Rattle.mcap_model.proofs.Places.{at_none, at_within}
use Rattle.mcap_model.specs.declared.rules.Rule.TheVariants as rules
use Rattle.mcap_model.specs.declared.rules.Rule.{Rule}
use Rattle.summary_read.specs.PartSteps.{cut_tops}
use Rattle.summary_read.specs.Steps.{Judged}
use Rattle.summary_check.specs.Body.{known, KnownInPlace}
use Rattle.summary_check.specs.Files.{spelled_file}
use Rattle.summary_check.specs.Filed.{records_of, Filed}
use Rattle.summary_check.specs.Told.{BreaksIndexing}
use Rattle.summary_check.proofs.Laying.{body_there, before_body, body_within, behind_body}

pub judged_plain : (t : Top) → Judged t None → IsPlain t
judged_plain t judged name names =
    let is = names.is in
    let tail : IsTail t = record { kind = judged.0; v6 = judged.1 } in
    tail_not t 6 tail refl is.kind

module _ (tops : List Top) (bytes : List ℕ) (cuts : List Cut) (foot : Cut) (start : ℕ) (filed : Filed tops bytes cuts foot start) where
  abbrev body : List Top
  body = cut_tops bytes cuts

  abbrev all : List Top
  all = records_of tops bytes cuts foot

  abbrev file : List ℕ
  file = spelled_file tops bytes

  fails_in : (R : List Top → ℕ → Top → Type 0) (k : ℕ) (t : Top) → At body k t → (R all (length tops + k) t → ⊥) → FailsIn R file (offset_of all (length tops + k))
  fails_in R k t at breaks = record {
    tops = all;
    whole = filed.whole;
    place = length tops + k;
    top = t;
    at = body_there tops body (cut_top bytes foot) k t at;
    there = refl;
    breaks = breaks;
  }

  fails_among : (R : List Top → ℕ → Top → Type 0) (k : ℕ) (t : Top) → At body k t → (R all (length tops + k) t → ⊥) → FailsAmong R file (offset_of all (length tops + k))
  fails_among R k t at breaks =
      let whole = filed.whole in
      record {
        tops = all;
        rest = magic;
        stand = record { split = whole.split };
        short = whole.short;
        inside = λ v2. omega arith;
        place = length tops + k;
        top = t;
        at = body_there tops body (cut_top bytes foot) k t at;
        there = refl;
        breaks = breaks;
      }

  foot_plain : IsPlain (cut_top bytes foot)
  foot_plain name names =
      let is = names.is in
      let (summary, offsets, crc, footer) = filed.footer in
      omega (arith, is.kind, footer.kind)

  pub all_plain : Each (λ t. Judged t None) body → Each IsPlain all
  all_plain judged =
      each_joined IsPlain tops (body ++ cut_top bytes foot ∷ []) filed.plain
      (each_joined IsPlain body (cut_top bytes foot ∷ []) (λ n t at. judged_plain t (judged n t at)) (each_cons IsPlain (cut_top bytes foot) [] foot_plain (λ n t at. absurd (at_none n t at))))

  pub kind_flaw : (k : ℕ) (rule : Rule) (t : Top) → At body k t → Judged t (Some rule) → Flaw file rule (offset_of all (length tops + k))
  kind_flaw k rule t at (inl (same, none)) =
      let laid = filed.laid in
      subst (λ (r : Rule). Flaw file r (offset_of all (length tops + k))) (sym same) (flaw_5 (offset_of all (length tops + k)) (inr (inr (
      fails_in V5Behind k t at (λ v. both_ways (stands_in_summary t.op) none (v.0 (body_within tops body (cut_top bytes foot) laid.ended k (at_within body k t at)))))
      )))
  kind_flaw k rule t at (inr (same, bad)) =
      subst (λ (r : Rule). Flaw file r (offset_of all (length tops + k))) (sym same) (flaw_6 (offset_of all (length tops + k)) (fails_among (λ l n. V6) k t at bad))

  pub declaration_flaw : (k : ℕ) (t : Top) → Each (λ u. Judged u None) body → At body k t → (V7 (tops ++ take k body) t → ⊥) → Flaw file rules.V7 (offset_of all (length tops + k))
  declaration_flaw k t judged at bad =
      let within = at_within body k t at in
      flaw_7 (offset_of all (length tops + k)) (fails_among (WherePlain (Behind V7)) k t at (λ keeps.
      bad (subst (λ (l : List Top). V7 l t) (before_body tops body (cut_top bytes foot) k (omega (arith, within))) (keeps (each_taken IsPlain all (suc (length tops + k)) (all_plain judged))))
      ))

  pub order_flaw : (k : ℕ) (t : Top) → At body k t → (KnownInPlace body k t → ⊥) → Flaw file rules.V11 (offset_of all (length tops + k))
  order_flaw k t at bad =
      let laid = filed.laid in
      let within = at_within body k t at in
      let front = ap known (behind_body tops body (cut_top bytes foot) laid.ended k (omega (arith, within))) in
      flaw_11 (offset_of all (length tops + k)) (fails_in V11 k t at (λ v.
      bad (λ known_is. subst (λ (l : List Top). IsInPlace l t) front (v.1 (body_within tops body (cut_top bytes foot) laid.ended k within) known_is))
      ))

  pub index_flaw : (k : ℕ) (rule : Rule) (t : Top) → Each (λ u. Judged u None) body → At body k t → BreaksIndexing all (length tops + k) t rule → Flaw file rule (offset_of all (length tops + k))
  index_flaw k rule t judged at (inl (same, bad)) =
      subst (λ (r : Rule). Flaw file r (offset_of all (length tops + k))) (sym same) (flaw_12 (offset_of all (length tops + k)) (
      fails_in (WherePlain V12) k t at (λ keeps. bad (keeps (each_taken IsPlain all (suc (length tops + k)) (all_plain judged))))
      ))
  index_flaw k rule t judged at (inr (same, bad)) =
      subst (λ (r : Rule). Flaw file r (offset_of all (length tops + k))) (sym same) (flaw_13 (offset_of all (length tops + k)) (fails_in V13 k t at bad))

  pub statistics_flaw : (k : ℕ) (t : Top) → Each (λ u. Judged u None) body → At body k t → (V14 all (length tops + k) t → ⊥) → Flaw file rules.V14 (offset_of all (length tops + k))
  statistics_flaw k t judged at bad =
      flaw_14 (offset_of all (length tops + k)) (fails_in (WherePlain V14) k t at (λ keeps. bad (keeps (each_taken IsPlain all (suc (length tops + k)) (all_plain judged)))))

  pub offset_flaw : (k : ℕ) (t : Top) → At body k t → (V15 all (length tops + k) t → ⊥) → Flaw file rules.V15 (offset_of all (length tops + k))
  offset_flaw k t at bad = flaw_15 (offset_of all (length tops + k)) (fails_in V15 k t at bad)
