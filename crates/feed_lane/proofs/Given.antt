-- The places that the lists of a lane give.
use Rattle.std.proofs.Common.{◌≡◌, ℕ, zero, suc, ◌+◌, ◌<◌, ◌≤◌, List, [], ◌∷◌, length, refl, sym, subst, inl, inr, arith}
use Rattle.std.proofs.lemmas.Bool.{cases_lt}
use Rattle.rec_data.specs.declared.owned.Rec.{Rec}
use Rattle.mcap_model.specs.Places.{At, Each}
use Rattle.mcap_model.specs.Tops.{Top}
use Rattle.mcap_model.proofs.Places.{at_none}
use Rattle.mcap_model.proofs.Lists.{at_either, pairs_at}
use Rattle.feed_lane.specs.declared.report.Accepted.{Accepted}
use Rattle.feed_lane.specs.declared.report.DeclaredAt.{DeclaredAt}
use Rattle.feed_lane.specs.declared.report.Refused.{Refused}
use Rattle.record_core.specs.declared.answers.CallRefused.{CallRefused}
use Rattle.record_core.specs.declared.answers.CallRefused.TheVariants as refusing
use Rattle.feed_lane.specs.Pass.{PassState, with_places}
use Rattle.feed_lane.specs.Lanes.{ReportLists, CauseFits, IsGiven, reason_in, reasons_of, LaneFits}
use Rattle.feed_lane.specs.Laws.{GivenOnce, GotPlace, PlacesAreGiven, ChannelsAreKnown}

-- each place of some records is there
placed_there : (first : ℕ) (rs : List Rec) (place : ℕ) → first ≤ place → place < first + length rs → (k : ℕ) × (pair : ℕ × Rec) × At (with_places first rs) k pair × (pair.0 ≡ place)
placed_there first [] place from to = absurd (omega (arith, from, to))
placed_there first (r ∷ rs) place from to = elim (cases_lt first place) [
  | inl later ↦ let more = placed_there (first + 1) rs place (omega (arith, later)) (omega (arith, to)) in (suc more.0, more.1, more.2, more.3)
  | inr here ↦ (0, (first, r), refl, omega (arith, from, here))
]

given_own : (records : List Top) (handled : ℕ) (lists : ReportLists) (pass : PassState) → LaneFits records handled lists pass → (place : ℕ) → IsGiven lists place → GotPlace pass place
given_own records handled lists pass fits place (inl (a, has, same)) = let own = (fits.accepts has.0 a has.1).own in (_, own, same)
given_own records handled lists pass fits place (inr (d, has, from, to)) =
    let declares = fits.declares has.0 d has.1 in
    let there = placed_there d.first declares.added place from (omega (arith, to, declares.many)) in
    (there.1, declares.own there.0 there.1 there.2, there.3)

once : (records : List Top) (handled : ℕ) (lists : ReportLists) (pass : PassState) → LaneFits records handled lists pass → GivenOnce lists
once records handled lists pass fits = record {
  accepted = λ j k a b at_j at_k same. elim (cases_lt j k) [
    | inl lt ↦ absurd (let rise = (pairs_at (λ (a b : Accepted). (a.index < b.index) × (a.place < b.place)) lists.accepted fits.accepted_rise j k a b lt at_j at_k).1 in omega (arith, rise, same))
    | inr le ↦ elim (cases_lt k j) [
      | inl lt ↦ absurd (let rise = (pairs_at (λ (a b : Accepted). (a.index < b.index) × (a.place < b.place)) lists.accepted fits.accepted_rise k j b a lt at_k at_j).1 in omega (arith, rise, same))
      | inr other ↦ omega (arith, le, other)
    ]
  ];
  declared = λ j k place d e at_j at_k in_d in_e. elim (cases_lt j k) [
    | inl lt ↦ absurd (let rise = (pairs_at (λ (d e : DeclaredAt). (d.index < e.index) × (d.first + d.count ≤ e.first)) lists.declared fits.declared_rise j k d e lt at_j at_k).1 in omega (arith, rise, in_d.1, in_e.0))
    | inr le ↦ elim (cases_lt k j) [
      | inl lt ↦ absurd (let rise = (pairs_at (λ (d e : DeclaredAt). (d.index < e.index) × (d.first + d.count ≤ e.first)) lists.declared fits.declared_rise k j e d lt at_k at_j).1 in omega (arith, rise, in_e.1, in_d.0))
      | inr other ↦ omega (arith, le, other)
    ]
  ];
  apart = λ j k d a at_j at_k within. elim (cases_lt a.index d.index) [
    | inl lt ↦ let before = (fits.in_turn j k d a at_j at_k).1 lt in omega (arith, before, within.0)
    | inr le ↦ let behind = (fits.in_turn j k d a at_j at_k).0 le in omega (arith, behind, within.1)
  ];
}

pub places_are_given : PlacesAreGiven
places_are_given records handled lists pass fits =
    ((λ place. (given_own records handled lists pass fits place, λ own. subst (IsGiven lists) own.2 (fits.given own.1.0 own.0 own.1.1))), once records handled lists pass fits)

-- ---- channels are known

unlike : (records : List Top) (handled : ℕ) (pass : PassState) (index : ℕ) (cause : CallRefused) (n : ℕ) → CauseFits records handled pass index cause → At (reason_in cause) n refusing.UnknownChannel → ⊥
unlike records handled pass index (refusing.Full held from to) zero fits at = cc
unlike records handled pass index (refusing.TooLarge len) zero fits at = cc
unlike records handled pass index (refusing.Closed place) zero fits at = cc
unlike records handled pass index (refusing.Stopped place stop) zero fits at = cc
unlike records handled pass index refusing.TooManySchemas zero fits at = cc
unlike records handled pass index refusing.TooManyChannels zero fits at = cc
unlike records handled pass index (refusing.TooManyRecords count) zero fits at = cc
unlike records handled pass index refusing.UnknownChannel n fits at = fits
unlike records handled pass index refusing.Memory n fits at = at_none n refusing.UnknownChannel at
unlike records handled pass index cause (suc n) fits at = at_none n refusing.UnknownChannel at

none_among : (records : List Top) (handled : ℕ) (pass : PassState) (refused : List Refused) → Each (λ r. CauseFits records handled pass r.index r.cause) refused → (n : ℕ) → At (reasons_of refused) n refusing.UnknownChannel → ⊥
none_among records handled pass [] fits n at = at_none n refusing.UnknownChannel at
none_among records handled pass (r ∷ rs) fits n at = elim (at_either (reason_in r.cause) (reasons_of rs) n refusing.UnknownChannel at) [
  | inl one ↦ unlike records handled pass r.index r.cause n (fits 0 r refl) one
  | inr more ↦ none_among records handled pass rs (λ k x at_k. fits (suc k) x at_k) more.0 more.2
]

pub channels_are_known : ChannelsAreKnown
channels_are_known records handled lists pass fits has =
    none_among records handled pass lists.refused fits.refuses has.0 (subst (λ (l : List CallRefused). At l has.0 refusing.UnknownChannel) (sym fits.reasons) has.1)
