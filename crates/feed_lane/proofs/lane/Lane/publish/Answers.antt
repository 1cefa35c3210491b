use Rattle.std.proofs.Common.{◌≡◌, ◌≤◌, ◌+◌, ◌∷◌, ◌++◌, [], ℕ, List, sym, ap, subst, ◌∙◌, inr, arith, Ok, Err}
use Rattle.mcap_model.proofs.Places.{at_within}
use Rattle.record_core.specs.declared.answers.Found.{Found}
use Rattle.record_core.specs.declared.answers.NewMessage.{NewMessage}
use Rattle.feed_lane.specs.declared.report.Accepted.{Accepted}
use Rattle.feed_lane.specs.PassCalls.{Finds}
use Rattle.feed_lane.specs.Lanes.{messages}
use Rattle.feed_lane.specs.Steps.{lists_of, ListsStand, fields_of}
use Rattle.feed_lane.proofs.Accepting.{accepted_at, accepted_stands}
use Rattle.feed_lane.proofs.Calls.{named_there, publish_refused, publish_lacks, published_limit}
use Rattle.feed_lane.proofs.lane.Lane.publish.Goals as goal

pub returns-in-Ok-clause-taken : goal.returns-in-Ok-clause-taken
returns-in-Ok-clause-taken g c = λ begun before since.
    let l = c.args.self.now in
    let shown = c.in-Ok.ensures.shows begun before since in
    let after = shown.0 in
    let call = shown.2 in
    let found = call.0 in
    let m : NewMessage = record { channel = c.args.id; sequence = c.args.m.now.sequence; log_time = c.args.m.now.log_time; publish_time = c.args.m.now.publish_time; payload = c.args.m.now.payload } in (
      after,
      shown.1,
      published_limit before after m (Ok c.in-Ok.place) call,
      λ records handled source t stands has at is.
          let index : c.handled-index.result ≡ handled = c.handled-index.ensures ∙ sym stands.fits.count in
          let listed : c.push.new.self.items ≡ l.accepted.items ++ accepted_at handled found.count ∷ [] =
          c.push.ensures.items ∙ ap (λ (n : ℕ). l.accepted.items ++ accepted_at n c.in-Ok.place ∷ []) index ∙ ap (λ (n : ℕ). l.accepted.items ++ accepted_at handled n ∷ []) call.3 in
          subst (λ (accepted : List Accepted). ListsStand records (handled + 1) (handled + 1) l.ids (record { accepted = accepted; declared = l.declared.items; refused = l.refused.items }) after) (sym listed)
          (subst (ListsStand records (handled + 1) (handled + 1) l.ids (record { accepted = l.accepted.items ++ accepted_at handled found.count ∷ []; declared = l.declared.items; refused = l.refused.items })) (sym call.4)
          (accepted_stands records handled l.ids (lists_of l) before found m source t stands call.2.finds call.2.unended (record { id = has; at = at; is = is; small = call.1 }))),
    )

pub returns-in-Err-clause-taken : goal.returns-in-Err-clause-taken
returns-in-Err-clause-taken g c = λ begun before since.
    let shown = c.in-Err.ensures.shows begun before since in
    let after = shown.0 in
    let m : NewMessage = record { channel = c.args.id; sequence = c.args.m.now.sequence; log_time = c.args.m.now.log_time; publish_time = c.args.m.now.publish_time; payload = c.args.m.now.payload } in (
      after,
      shown.1,
      published_limit before after m (Err c.in-Err.refusal) shown.2,
      λ records handled source t stands has at is.
          let known : (found : Found) → Finds before found → (1 ≤ m.channel) × (m.channel ≤ found.channels) =
          λ found finds. named_there records handled (handled + 1) (lists_of c.args.self.now) before source c.args.id found stands.fits has finds in
          c.refuse.ensures.taken records handled after (record {
            before = before;
            stands = stands;
            refusal = publish_refused records handled source t before after m c.in-Err.refusal at is known shown.2;
            some = at_within (messages records) handled t at;
            tried = record {
              large = λ len e. inr (record {
                source = source;
                on = record { top = t; message = fields_of c.args.m.now; at = at; is = is };
                by = has.by;
                listed = has.listed;
                before = let below = stands.fits.declared_below has.listed.0 has.by has.listed.1 in omega (arith, below);
                is_on = has.on;
              });
              lacking = λ e. absurd (publish_lacks before after m c.in-Err.refusal shown.2 e);
            };
          }),
    )
