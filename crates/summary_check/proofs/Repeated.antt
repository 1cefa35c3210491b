-- The Channels of a file's messages that its summary repeats.
use Rattle.std.proofs.Common.{◌≡◌, ℕ, zero, suc, ◌+◌, Bool, false, List, [], ◌∷◌, ◌++◌, length, None, refl, sym, ap, subst, inl, inr, ◌∙◌, append_assoc, arith}
use Rattle.std.specs.Prelude.{filter, if◌then◌else◌}
use Rattle.std.proofs.lemmas.Bool.{eq-eqb, ne_eqb}
use Rattle.std.proofs.lemmas.Grind.{flat_map-append}
use Rattle.std.proofs.lemmas.Option.{same_Some}
use Rattle.mcap_model.specs.Places.{At, Has, Each}
use Rattle.mcap_model.specs.Tops.{Top, is_chunk, inner_tops, is_flat_kind, flattened, flat}
use Rattle.mcap_model.specs.Fields.{MessageFields, IsMessage}
use Rattle.mcap_model.specs.Rules.{HasChannel}
use Rattle.mcap_model.specs.Scan.{is_message_top}
use Rattle.mcap_model.specs.Valid.{SummaryHasChannel}
use Rattle.mcap_model.proofs.Front.{IsTail, tail_not}
use Rattle.mcap_model.proofs.Lists.{at_either, at_flat, filter_has, filter_passed, each_cons, each_joined}
use Rattle.mcap_model.proofs.Maps.{message_once}
use Rattle.mcap_model.proofs.Places.{at_none, at_within, at_kept}
use Rattle.mcap_model.proofs.NamedTopics.{zip_front, zip_back}
use Rattle.index_check.specs.declared.tally.Tally.{Tally}
use Rattle.index_check.specs.Tally.{TallyOf}
use Rattle.summary_read.specs.Steps.{Judged}
use Rattle.summary_check.specs.Declaring.{AreChannelIds}
use Rattle.summary_check.specs.Laid.{all_of, EndsWithDataEnd}
use Rattle.summary_check.specs.Repeating.{AreRepeated}
use Rattle.summary_check.proofs.Laying.{body_there, body_back, body_within, within_body}

-- ---- lists of pairs

-- ---- where a file's messages stand

-- no message stands among records of other kinds
no_message : (records : List Top) → Each (λ t. (t.op ≡ 5 → ⊥) × (t.op ≡ 6 → ⊥)) records → (n : ℕ) (t : Top) → At (flat records) n t → t.op ≡ 5 → ⊥
no_message records none n t at five =
    let (k, u, j, at_u, at_t, _) = at_flat flattened records n t at in
    let others = none k u at_u in
    others.0 (ap (λ (x : Top). x.op) (same_record u j at_t others.1) ∙ five)
  where
    alone : (u : Top) (m : ℕ) → At (u ∷ []) m t → u ≡ t
    alone u zero here = same_Some u t here
    alone u (suc m) here = absurd (at_none m t here)

    same_record : (u : Top) (j : ℕ) → At (flattened u) j t → (u.op ≡ 6 → ⊥) → u ≡ t
    same_record u j there closed =
        let is : is_chunk u ≡ false = ne_eqb u.op 6 closed in
        let here : At (filter is_flat_kind (u ∷ [])) j t = subst (λ (b : Bool). At (filter is_flat_kind (if b then inner_tops u else u ∷ [])) j t) is there in
        let has = (filter_passed is_flat_kind (u ∷ []) j t here).0 in
        alone u has.0 has.1

module _ (tops body : List Top) (foot : Top) (ended : EndsWithDataEnd tops) (judged : Each (λ t. Judged t None) body) (foot_is : foot.op ≡ 2) where
  abbrev all : List Top
  all = all_of tops body foot

  none_behind : Each (λ t. (t.op ≡ 5 → ⊥) × (t.op ≡ 6 → ⊥)) (ended.end ∷ (body ++ foot ∷ []))
  none_behind =
      each_cons (λ t. (t.op ≡ 5 → ⊥) × (t.op ≡ 6 → ⊥)) ended.end (body ++ foot ∷ []) ((λ e. omega (arith, e, ended.kind)), (λ e. omega (arith, e, ended.kind)))
      (each_joined (λ t. (t.op ≡ 5 → ⊥) × (t.op ≡ 6 → ⊥)) body (foot ∷ [])
      (λ n t at. let one = judged n t at in let tail : IsTail t = record { kind = one.0; v6 = one.1 } in (tail_not t 5 tail refl, tail_not t 6 tail refl))
      (each_cons (λ t. (t.op ≡ 5 → ⊥) × (t.op ≡ 6 → ⊥)) foot [] ((λ e. omega (arith, e, foot_is)), (λ e. omega (arith, e, foot_is))) (λ n t at. absurd (at_none n t at))))

  abbrev rest : List Top
  rest = ended.end ∷ (body ++ foot ∷ [])

  flat_split : flat all ≡ flat ended.section ++ flat rest
  flat_split =
      ap flat (ap (λ (l : List Top). l ++ (body ++ foot ∷ [])) ended.joined ∙ append_assoc ended.section (ended.end ∷ []) (body ++ foot ∷ []))
      ∙ flat_map-append flattened ended.section rest

  summary_channel : (id : ℕ) → HasChannel body id → SummaryHasChannel all id
  summary_channel id has = record {
    place = length tops + has.place;
    top = has.top;
    shown = has.shown;
    at = body_there tops body foot has.place has.top has.at;
    within = body_within tops body foot ended has.place (at_within body has.place has.top has.at);
    is = has.is;
  }

  channel_back : (id : ℕ) → SummaryHasChannel all id → HasChannel body id
  channel_back id has =
      let (k, place, less) = within_body tops body foot ended has.place has.within in
      record { place = k; top = has.top; shown = has.shown; at = body_back tops body foot k has.top less (subst (λ (n : ℕ). At all n has.top) place has.at); is = has.is }

  abbrev OnChannel : Top → ℕ → Type 0
  OnChannel t channel = (m : MessageFields) × IsMessage t channel m

  module _ (tally : Tally) (ids : List ℕ) (are : TallyOf all ended.section tally) (declared : AreChannelIds body ids) where
    pub repeated : Each (λ entry. Has ids entry.0) tally.counts.items → AreRepeated all
    repeated each n channel t m at is = elim (at_either (flat ended.section) (flat rest) n t (subst (λ (l : List Top). At l n t) flat_split at)) [
      | inl first ↦
          let heard = filter_has is_message_top (flat ended.section) n t first (eq-eqb t.op 5 is.kind) in
          let (own, at_own, on) = zip_front OnChannel (filter is_message_top (flat ended.section)) are.channels_of heard.0 t are.are_channels heard.1 in
          let same = (message_once t channel own m on.0 is on.1).0 in
          let counts = are.counts in
          let (k, entry, at_entry, key) = counts.all own (heard.0, at_own) in
          summary_channel channel ((declared channel).0 (subst (Has ids) (key ∙ sym same) (each k entry at_entry)))
      | inr second ↦ absurd (no_message rest none_behind _ t second.2 is.kind)
    ]

    pub each_repeated : AreRepeated all → Each (λ entry. Has ids entry.0) tally.counts.items
    each_repeated all_repeated k entry at =
        let counts = are.counts in
        let has = (counts.right entry.0 entry.1 (k, at)).0 in
        let (t, at_t, on) = zip_back OnChannel (filter is_message_top (flat ended.section)) are.channels_of has.0 entry.0 are.are_channels has.1 in
        let heard = (filter_passed is_message_top (flat ended.section) has.0 t at_t).0 in
        let there = subst (λ (l : List Top). At l heard.0 t) (sym flat_split) (at_kept (flat ended.section) (flat rest) heard.0 t heard.1) in
        (declared entry.0).1 (channel_back entry.0 (all_repeated heard.0 entry.0 t on.0 there on.1))
