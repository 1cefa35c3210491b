-- The message at hand is recorded.
use Rattle.std.proofs.Common.{◌≡◌, ℕ, ◌+◌, ◌<◌, ◌≤◌, List, [], ◌∷◌, ◌++◌, length, None, refl, sym, ap, subst, inl, inr, arith}
use Rattle.std.proofs.lemmas.Bool.{cases_lt}
use Rattle.std.proofs.lemmas.List.{length-append}
use Rattle.rec_data.specs.declared.owned.Rec.{Rec}
use Rattle.mcap_model.specs.Places.{At, Has, Each}
use Rattle.mcap_model.specs.Tops.{Top}
use Rattle.mcap_model.specs.Fields.{IsMessage}
use Rattle.mcap_model.specs.History.{message_of}
use Rattle.mcap_model.proofs.Places.{at_within, at_more, has_kept, has_last, pairs_more}
use Rattle.record_core.specs.Desk.{fields_of_message}
use Rattle.record_core.specs.declared.answers.Found.{Found}
use Rattle.record_core.specs.declared.answers.NewMessage.{NewMessage}
use Rattle.feed_lane.specs.declared.report.Accepted.{Accepted}
use Rattle.feed_lane.specs.Pass.{PassState}
use Rattle.feed_lane.specs.PassCalls.{Finds, message_record, with_published}
use Rattle.feed_lane.specs.Lanes.{ReportLists, messages, Accepts, full_in, InTurnWith, IsGiven, IsAccountedFor, ListsFit}
use Rattle.feed_lane.specs.Kept.{LaneIds}
use Rattle.feed_lane.specs.Steps.{Extends, DeclaredWithId, ListsStand}
use Rattle.feed_lane.proofs.Members.{open_by, finds_above, seen_later, declares_on, accepts_on, cause_on, full_shown, lacks_below, declared_above, accepted_above}

abbrev pub accepted_at : ℕ → ℕ → Accepted
accepted_at index place = record { index = index; place = place }

-- the lists with one more recorded message
abbrev pub with_accepted : ReportLists → Accepted → ReportLists
with_accepted lists a = record { accepted = lists.accepted ++ a ∷ []; declared = lists.declared; refused = lists.refused }

pub message_extends : (before : PassState) (found : Found) (m : NewMessage) → Finds before found → Extends before (with_published before found m)
message_extends before found m finds = record {
  own = λ pair has. has_kept before.own ((found.count, message_record m) ∷ []) pair has;
  named = λ pair has. has;
  fulls = λ full has. has;
  lacks = λ pair has. has;
  limit = refl;
  seen = seen_later before (with_published before found m) found finds refl;
}

given_kept : (lists : ReportLists) (a : Accepted) (place : ℕ) → IsGiven lists place → IsGiven (with_accepted lists a) place
given_kept lists a place (inl (x, has, same)) = inl (x, has_kept lists.accepted (a ∷ []) x has, same)
given_kept lists a place (inr declared) = inr declared

listed_kept : (lists : ReportLists) (a : Accepted) (index : ℕ) → IsAccountedFor lists index → IsAccountedFor (with_accepted lists a) index
listed_kept lists a index (inl (x, has, same)) = inl (x, has_kept lists.accepted (a ∷ []) x has, same)
listed_kept lists a index (inr refused) = inr refused

-- the message at hand, which is on that channel and was published as this
pub record IsTaken (records : List Top) (handled : ℕ) (lists : ReportLists) (source : ℕ) (t : Top) (m : NewMessage) : Type 0 where
  pub id : DeclaredWithId records lists.declared source m.channel
  pub at : At (messages records) handled t
  pub is : IsMessage t source (fields_of_message m)
  pub small : length m.payload.now ≤ 33554432

new_accepts : (records : List Top) (handled : ℕ) (ids : LaneIds) (lists : ReportLists) (before : PassState) (found : Found) (m : NewMessage) (source : ℕ) (t : Top) → ListsStand records handled (handled + 1) ids lists before → IsTaken records handled lists source t m → Accepts records lists.declared (with_published before found m) (accepted_at handled found.count)
new_accepts records handled ids lists before found m source t stands taken = record {
  source = source;
  message = fields_of_message m;
  top = t;
  at = taken.at;
  is = taken.is;
  small = taken.small;
  by = taken.id.by;
  listed = taken.id.listed;
  before = let below = stands.fits.declared_below taken.id.listed.0 taken.id.by taken.id.listed.1 in omega (arith, below);
  on = taken.id.on;
  own = subst (λ (id : ℕ). Has (before.own ++ (found.count, message_record m) ∷ []) (found.count, message_of id (fields_of_message m))) (sym taken.id.is) (has_last before.own (found.count, message_record m) []);
}

pub accepted_fits : (records : List Top) (handled : ℕ) (ids : LaneIds) (lists : ReportLists) (before : PassState) (found : Found) (m : NewMessage) (source : ℕ) (t : Top) → ListsStand records handled (handled + 1) ids lists before → Finds before found → IsTaken records handled lists source t m → ListsFit records (handled + 1) (handled + 1) (with_accepted lists (accepted_at handled found.count)) (with_published before found m)
accepted_fits records handled ids lists before found m source t stands finds taken =
    let was = stands.fits in
    let after = with_published before found m in
    let extends = message_extends before found m finds in
    let above = finds_above before found finds in
    let new = accepted_at handled found.count in
    let some = at_within (messages records) handled t taken.at in
    record {
      accepts = λ k a at. elim (at_more lists.accepted new k a at) [
        | inl old ↦ accepts_on records lists.declared before after a extends (was.accepts k a old)
        | inr last ↦ subst (Accepts records lists.declared after) (sym last.1) (new_accepts records handled ids lists before found m source t stands taken)
      ];
      declares = λ k d at. declares_on records before after d extends (was.declares k d at);
      refuses = λ k r at. cause_on records handled (handled + 1) before after r.index r.cause (stands.going k r at) extends (was.refuses k r at);
      once = was.once;
      given = λ k pair at. elim (at_more before.own (found.count, message_record m) k pair at) [
        | inl old ↦ given_kept lists new pair.0 (was.given k pair old)
        | inr last ↦ inl (new, has_last lists.accepted new [], sym (ap (λ (p : ℕ × Rec). p.0) last.1))
      ];
      own_rise = pairs_more (λ (p q : ℕ × Rec). p.0 < q.0) before.own (found.count, message_record m) was.own_rise (λ k pair at. finds.places k pair at);
      accepted_rise = pairs_more (λ (a b : Accepted). (a.index < b.index) × (a.place < b.place)) lists.accepted new was.accepted_rise
          (λ k a at. (was.accepted_below k a at, accepted_above records lists.declared before a found.count (was.accepts k a at) above));
      declared_rise = was.declared_rise;
      refused_rise = was.refused_rise;
      in_turn = λ j k d a at_j at_k. elim (at_more lists.accepted new k a at_k) [
        | inl old ↦ was.in_turn j k d a at_j old
        | inr last ↦ subst (λ (x : Accepted). (d.index ≤ x.index → d.first + d.count ≤ x.place) × (x.index < d.index → x.place < d.first)) (sym last.1)
            (λ le. declared_above records before d found.count (was.declares j d at_j) (stands.firsts j d at_j) above, λ lt. absurd (let below = was.declared_below j d at_j in omega (arith, lt, below)))
      ];
      named = was.named;
      lacks = was.lacks;
      lacks_between = (
        was.lacks_between.0,
        λ n refusal lack at_r at_l. let it = was.lacks_between.1 n refusal lack at_r at_l in record {
          accepted = λ k a at. elim (at_more lists.accepted new k a at) [
            | inl old ↦ it.accepted k a old
            | inr last ↦ subst (λ (x : Accepted). InTurnWith lack.at refusal.0 x.index x.place (x.place + 1)) (sym last.1)
                (λ lt. absurd (let below = lacks_below lists.refused handled was.refused_below n refusal at_r in omega (arith, lt, below)), λ lt. above.seen lack.at (stands.ats n lack at_l))
          ];
          declared = it.declared;
        },
      );
      reasons = was.reasons;
      fulls = was.fulls;
      accepted_between = λ j k r a at_j at_k. elim (at_more lists.accepted new k a at_k) [
        | inl old ↦ was.accepted_between j k r a at_j old
        | inr last ↦ subst (λ (x : Accepted). Each (λ full. InTurnWith full.to r.index x.index x.place (x.place + 1)) (full_in r.cause)) (sym last.1)
            (λ n full at. (
              λ lt. absurd (let below = was.refused_below j r at_j in omega (arith, lt, below)),
              λ lt. let shown = full_shown records handled before r.index r.cause n full (was.refuses j r at_j) at in above.seen full.to (stands.tos shown.0 full shown.1),
            ))
      ];
      declared_between = was.declared_between;
      handled_some = omega (arith, some);
      count = omega (arith, was.count, length-append lists.accepted (new ∷ []));
      listed = λ index lt. elim (cases_lt index handled) [
        | inl old ↦ listed_kept lists new index (was.listed index old)
        | inr last ↦ inl (new, has_last lists.accepted new [], omega (arith, lt, last))
      ];
      accepted_below = λ k a at. elim (at_more lists.accepted new k a at) [
        | inl old ↦ let below = was.accepted_below k a old in omega (arith, below)
        | inr last ↦ let same = ap (λ (x : Accepted). x.index) last.1 in omega (arith, same)
      ];
      refused_below = λ k r at. let below = was.refused_below k r at in omega (arith, below);
      declared_below = was.declared_below;
      apart = λ j k a r at_j at_k same. elim (at_more lists.accepted new j a at_j) [
        | inl old ↦ was.apart j k a r old at_k same
        | inr last ↦ let below = was.refused_below k r at_k in let here = ap (λ (x : Accepted). x.index) last.1 in absurd (omega (arith, below, here, same))
      ];
    }

pub accepted_stands : (records : List Top) (handled : ℕ) (ids : LaneIds) (lists : ReportLists) (before : PassState) (found : Found) (m : NewMessage) (source : ℕ) (t : Top) → ListsStand records handled (handled + 1) ids lists before → Finds before found → found.end ≡ None → IsTaken records handled lists source t m → ListsStand records (handled + 1) (handled + 1) ids (with_accepted lists (accepted_at handled found.count)) (with_published before found m)
accepted_stands records handled ids lists before found m source t stands finds end taken =
    let extends = message_extends before found m finds in
    record {
      fits = accepted_fits records handled ids lists before found m source t stands finds taken;
      ids_stand = stands.ids_stand;
      going = stands.going;
      firsts = λ k d at. extends.seen d.first (stands.firsts k d at);
      tos = λ k full at. extends.seen full.to (stands.tos k full at);
      ats = λ k lack at. extends.seen lack.at (stands.ats k lack at);
      is_open = open_by (with_published before found m) found refl end;
      tried = stands.tried;
    }
