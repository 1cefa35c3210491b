-- The message at hand is refused.
use Rattle.std.proofs.Common.{◌≡◌, ◌⊎◌, ℕ, ◌+◌, ◌<◌, List, [], ◌∷◌, ◌++◌, length, true, false, refl, sym, ap, subst, inl, inr, ◌∙◌, arith}
use Rattle.std.specs.Prelude.{AllPairs}
use Rattle.std.proofs.lemmas.Bool.{cases_lt}
use Rattle.std.proofs.lemmas.List.{append-nil, length-append}
use Rattle.std.proofs.lemmas.Grind.{flat_map-append}
use Rattle.rec_data.specs.declared.owned.Rec.{Rec}
use Rattle.mcap_model.specs.Places.{At, Has, Each}
use Rattle.mcap_model.specs.Tops.{Top}
use Rattle.mcap_model.proofs.Places.{at_kept, at_last, at_more, pairs_more}
use Rattle.mcap_model.proofs.Lists.{at_either}
use Rattle.record_core.specs.declared.answers.CallRefused.{CallRefused}
use Rattle.feed_lane.specs.declared.report.Refused.{Refused}
use Rattle.feed_lane.specs.Pass.{FullAt, LackAt, PassState}
use Rattle.feed_lane.specs.Lanes.{ReportLists, messages, CauseFits, IsTried, full_in, fulls_of, lack_in, lacks_of, reason_in, reasons_of, ShowsDeclaration, IsLacking, InStep, InTurnWith, IsLackBetween, ListsFit}
use Rattle.feed_lane.specs.Kept.{LaneIds}
use Rattle.feed_lane.specs.Steps.{RefusalLeaves, ListsStand, LastEnds, ListsTell}
use Rattle.feed_lane.specs.Causes.{goes_on}
use Rattle.feed_lane.proofs.Members.{in_step_joined, declares_on, accepts_on, cause_on, lack_index, declared_above, accepted_above}

abbrev pub refused_at : ℕ → CallRefused → Refused
refused_at index cause = record { index = index; cause = cause }

-- the lists with one more refusal
abbrev pub with_refused : ReportLists → Refused → ReportLists
with_refused lists r = record { accepted = lists.accepted; declared = lists.declared; refused = lists.refused ++ r ∷ [] }

at_in : {X : Type 0} (xs ys : List X) (n : ℕ) (x : X) → At (xs ++ ys) n x → At xs n x ⊎ Has ys x
at_in xs ys n x at = elim (at_either xs ys n x at) [
  | inl old ↦ inl old
  | inr later ↦ inr (later.0, later.2)
]

-- the places at which no id was left, with that of the message at hand
lacks_refused : (records : List Top) (handled : ℕ) (ids : LaneIds) (lists : ReportLists) (before after : PassState) (cause : CallRefused) → ListsStand records handled (handled + 1) ids lists before → RefusalLeaves records handled before after cause
    → InStep (IsLackBetween (with_refused lists (refused_at handled cause))) (lacks_of (lists.refused ++ refused_at handled cause ∷ [])) after.lacks
lacks_refused records handled ids lists before after cause stands is =
    let was = stands.fits in
    let new = refused_at handled cause in
    subst (λ (l : List (ℕ × CallRefused)). InStep (IsLackBetween (with_refused lists new)) l after.lacks)
    (sym (flat_map-append (λ (r : Refused). lack_in r.index r.cause) lists.refused (new ∷ []) ∙ ap (λ (l : List (ℕ × CallRefused)). lacks_of lists.refused ++ l) (append-nil (lack_in handled cause))))
    (subst (InStep (IsLackBetween (with_refused lists new)) (lacks_of lists.refused ++ lack_in handled cause)) (sym is.lacks)
    (in_step_joined (IsLackBetween (with_refused lists new)) (lacks_of lists.refused) (lack_in handled cause) before.lacks is.lacking
    (was.lacks_between.0, λ n refusal lack at_r at_l. let it = was.lacks_between.1 n refusal lack at_r at_l in record { accepted = it.accepted; declared = it.declared }) (
      is.are.0,
      λ n refusal lack at_r at_l. let here = lack_index handled cause n refusal at_r in let above = is.lacking_above n lack at_l in record {
        accepted = λ k a at. (λ lt. let below = accepted_above records lists.declared before a lack.at (was.accepts k a at) above in omega (arith, below), λ lt. absurd (let below = was.accepted_below k a at in omega (arith, lt, below, here)));
        declared = λ k d at. (λ lt. declared_above records before d lack.at (was.declares k d at) (stands.firsts k d at) above, λ lt. absurd (let below = was.declared_below k d at in omega (arith, lt, below, here)));
      },
    )))

pub refused_fits : (records : List Top) (handled : ℕ) (ids : LaneIds) (lists : ReportLists) (before after : PassState) (cause : CallRefused) → ListsStand records handled (handled + 1) ids lists before → RefusalLeaves records handled before after cause → handled < length (messages records) → ListsFit records (handled + 1) (handled + 1) (with_refused lists (refused_at handled cause)) after
refused_fits records handled ids lists before after cause stands is some =
    let was = stands.fits in
    let new = refused_at handled cause in
    record {
      accepts = λ k a at. accepts_on records lists.declared before after a is.extends (was.accepts k a at);
      declares = λ k d at. declares_on records before after d is.extends (was.declares k d at);
      refuses = λ k r at. elim (at_more lists.refused new k r at) [
        | inl old ↦ cause_on records handled (handled + 1) before after r.index r.cause (stands.going k r old) is.extends (was.refuses k r old)
        | inr last ↦ subst (λ (x : Refused). CauseFits records (handled + 1) after x.index x.cause) (sym last.1) is.fits
      ];
      once = was.once;
      given = λ k pair at. was.given k pair (subst (λ (l : List (ℕ × Rec)). At l k pair) is.own at);
      own_rise = subst (AllPairs (λ (p q : ℕ × Rec). p.0 < q.0)) (sym is.own) was.own_rise;
      accepted_rise = was.accepted_rise;
      declared_rise = was.declared_rise;
      refused_rise = pairs_more (λ (r s : Refused). r.index < s.index) lists.refused new was.refused_rise (λ k s at. was.refused_below k s at);
      in_turn = was.in_turn;
      named = subst (InStep (ShowsDeclaration records) lists.declared) (sym is.named) was.named;
      lacks = subst (λ (l : List (ℕ × CallRefused)). InStep (IsLacking records) l after.lacks)
          (sym (flat_map-append (λ (r : Refused). lack_in r.index r.cause) lists.refused (new ∷ []) ∙ ap (λ (l : List (ℕ × CallRefused)). lacks_of lists.refused ++ l) (append-nil (lack_in handled cause))))
          (subst (InStep (IsLacking records) (lacks_of lists.refused ++ lack_in handled cause)) (sym is.lacks)
          (in_step_joined (IsLacking records) (lacks_of lists.refused) (lack_in handled cause) before.lacks is.lacking was.lacks is.are));
      lacks_between = lacks_refused records handled ids lists before after cause stands is;
      reasons =
          flat_map-append (λ (r : Refused). reason_in r.cause) lists.refused (new ∷ [])
          ∙ ap (λ (l : List CallRefused). reasons_of lists.refused ++ l) (append-nil (reason_in cause))
          ∙ ap (λ (l : List CallRefused). l ++ reason_in cause) was.reasons
          ∙ sym is.reasons;
      fulls =
          flat_map-append (λ (r : Refused). full_in r.cause) lists.refused (new ∷ [])
          ∙ ap (λ (l : List FullAt). fulls_of lists.refused ++ l) (append-nil (full_in cause))
          ∙ ap (λ (l : List FullAt). l ++ full_in cause) was.fulls
          ∙ sym is.fulls;
      accepted_between = λ j k r a at_j at_k. elim (at_more lists.refused new j r at_j) [
        | inl old ↦ was.accepted_between j k r a old at_k
        | inr last ↦ subst (λ (x : Refused). Each (λ full. InTurnWith full.to x.index a.index a.place (a.place + 1)) (full_in x.cause)) (sym last.1)
            (λ n full at. (λ lt. let below = accepted_above records lists.declared before a full.to (was.accepts k a at_k) (is.above n full at) in omega (arith, below), λ lt. absurd (let below = was.accepted_below k a at_k in omega (arith, lt, below))))
      ];
      declared_between = λ j k r d at_j at_k. elim (at_more lists.refused new j r at_j) [
        | inl old ↦ was.declared_between j k r d old at_k
        | inr last ↦ subst (λ (x : Refused). Each (λ full. InTurnWith full.to x.index d.index d.first (d.first + d.count)) (full_in x.cause)) (sym last.1)
            (λ n full at. (λ lt. declared_above records before d full.to (was.declares k d at_k) (stands.firsts k d at_k) (is.above n full at), λ lt. absurd (let below = was.declared_below k d at_k in omega (arith, lt, below))))
      ];
      handled_some = omega (arith, some);
      count = omega (arith, was.count, length-append lists.refused (new ∷ []));
      listed = λ index lt. elim (cases_lt index handled) [
        | inl old ↦ elim (was.listed index old) [
          | inl one ↦ inl one
          | inr (r, has, same) ↦ inr (r, (has.0, at_kept lists.refused (new ∷ []) has.0 r has.1), same)
        ]
        | inr last ↦ inr (new, (length lists.refused, at_last lists.refused new []), omega (arith, lt, last))
      ];
      accepted_below = λ k a at. let below = was.accepted_below k a at in omega (arith, below);
      refused_below = λ k r at. elim (at_more lists.refused new k r at) [
        | inl old ↦ let below = was.refused_below k r old in omega (arith, below)
        | inr last ↦ let same = ap (λ (x : Refused). x.index) last.1 in omega (arith, same)
      ];
      declared_below = was.declared_below;
      apart = λ j k a r at_j at_k same. elim (at_more lists.refused new k r at_k) [
        | inl old ↦ was.apart j k a r at_j old same
        | inr last ↦ let below = was.accepted_below j a at_j in let here = ap (λ (x : Refused). x.index) last.1 in absurd (omega (arith, below, here, same))
      ];
    }

tried_more : (records : List Top) (lists : ReportLists) (new : Refused) → Each (IsTried records lists.declared) lists.refused → IsTried records lists.declared new → Each (IsTried records lists.declared) (lists.refused ++ new ∷ [])
tried_more records lists new was now = λ k r at. elim (at_more lists.refused new k r at) [
  | inl old ↦ was k r old
  | inr last ↦ subst (IsTried records lists.declared) (sym last.1) now
]

-- what the lists tell with one more refusal
pub refused_tells : (records : List Top) (handled : ℕ) (ids : LaneIds) (lists : ReportLists) (before after : PassState) (cause : CallRefused) → ListsStand records handled (handled + 1) ids lists before → RefusalLeaves records handled before after cause → IsTried records lists.declared (refused_at handled cause) → ListsTell records (with_refused lists (refused_at handled cause)) after
refused_tells records handled ids lists before after cause stands is tried = record {
  firsts = λ k d at. is.extends.seen d.first (stands.firsts k d at);
  tried = tried_more records lists (refused_at handled cause) stands.tried tried;
}

-- the lane goes on
pub refused_stands : (records : List Top) (handled : ℕ) (ids : LaneIds) (lists : ReportLists) (before after : PassState) (cause : CallRefused) → ListsStand records handled (handled + 1) ids lists before → RefusalLeaves records handled before after cause → handled < length (messages records) → IsTried records lists.declared (refused_at handled cause) → goes_on cause ≡ true → ListsStand records (handled + 1) (handled + 1) ids (with_refused lists (refused_at handled cause)) after
refused_stands records handled ids lists before after cause stands is some tried on =
    let new = refused_at handled cause in
    record {
      fits = refused_fits records handled ids lists before after cause stands is some;
      ids_stand = stands.ids_stand;
      going = λ k r at. elim (at_more lists.refused new k r at) [
        | inl old ↦ stands.going k r old
        | inr last ↦ subst (λ (x : Refused). goes_on x.cause ≡ true) (sym last.1) on
      ];
      firsts = λ k d at. is.extends.seen d.first (stands.firsts k d at);
      tos = λ k full at. elim (at_in before.fulls (full_in cause) k full (subst (λ (l : List FullAt). At l k full) is.fulls at)) [
        | inl old ↦ is.extends.seen full.to (stands.tos k full old)
        | inr (n, last) ↦ is.tos n full last
      ];
      ats = λ k lack at. elim (at_in before.lacks is.lacking k lack (subst (λ (l : List LackAt). At l k lack) is.lacks at)) [
        | inl old ↦ is.extends.seen lack.at (stands.ats k lack old)
        | inr (n, last) ↦ is.ats n lack last
      ];
      is_open = is.is_open on stands.is_open;
      tried = tried_more records lists new stands.tried tried;
    }

-- the lane is over
pub refused_last : (handled : ℕ) (lists : ReportLists) (cause : CallRefused) → goes_on cause ≡ false → LastEnds (handled + 1) (lists.refused ++ refused_at handled cause ∷ [])
refused_last handled lists cause off = (refused_at handled cause, (length lists.refused, at_last lists.refused (refused_at handled cause) []), refl, off)
