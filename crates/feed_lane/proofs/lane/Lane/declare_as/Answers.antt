use Rattle.std.proofs.Common.{◌+◌, ◌∷◌, ◌++◌, [], List, sym, subst, ◌∙◌, Ok, Err}
use Rattle.mcap_model.proofs.Places.{at_within}
use Rattle.feed_lane.specs.declared.report.DeclaredAt.{DeclaredAt}
use Rattle.feed_lane.specs.Lanes.{messages, IsChannelOf}
use Rattle.feed_lane.specs.Kept.{LaneIds}
use Rattle.feed_lane.specs.Steps.{lists_of, DeclaredWithId, ListsStand}
use Rattle.feed_lane.proofs.Growing.{may_declare, undeclared_yet}
use Rattle.feed_lane.proofs.Declaring.{IsNew, declared_stands, new_has_id}
use Rattle.feed_lane.proofs.Calls.{some_id, declare_refused, declare_tried, declared_limit}
use Rattle.feed_lane.proofs.lane.Lane.declare_as.Goals as goal

pub returns-in-Ok-clause-found : goal.returns-in-Ok-clause-found
returns-in-Ok-clause-found g c = λ begun before since.
    let l = c.args.self.now in
    let shown = c.in-Ok.ensures.shows begun before since in
    let after = shown.0 in
    let call = shown.2 in
    let given = c.in-Ok.given in
    let content = c.args.channel.now in (
      after,
      shown.1,
      declared_limit before after content (Ok given) call,
      λ records handled stands describes on none.
          let d : DeclaredAt = record { index = c.handled.result; channel = given.channel; first = given.first; count = given.count } in
          let is : IsNew records handled l.ids c.args.source call.0 content d = record {
            none = none;
            on = on;
            describes = describes;
            index = c.handled.ensures ∙ sym stands.fits.count;
            first = call.5;
            some = some_id before call.0 given.channel call.1 call.8;
            added = call.1;
            are = call.7;
            many = call.6;
          } in
          let now = declared_stands records handled l.ids (lists_of l) c.args.source before call.0 content d stands call.3 call.4 is in (
            subst (λ (declared : List DeclaredAt). DeclaredWithId records declared c.args.source given.channel) (sym c.add.ensures) (new_has_id records handled l.ids (lists_of l) c.args.source call.0 content d is),
            subst (λ (declared : List DeclaredAt). ListsStand records handled (handled + 1) c.set.new.self (record { accepted = l.accepted.items; declared = declared; refused = l.refused.items }) after) (sym c.add.ensures)
                (subst (λ (ids : LaneIds). ListsStand records handled (handled + 1) ids (record { accepted = l.accepted.items; declared = l.declared.items ++ d ∷ []; refused = l.refused.items }) after) (sym c.set.ensures)
                (subst (ListsStand records handled (handled + 1) _ (record { accepted = l.accepted.items; declared = l.declared.items ++ d ∷ []; refused = l.refused.items })) (sym call.9) now)),
          ),
    )

pub returns-in-Err-clause-found : goal.returns-in-Err-clause-found
returns-in-Err-clause-found g c = λ begun before since.
    let shown = c.in-Err.ensures.shows begun before since in
    let after = shown.0 in
    let content = c.args.channel.now in (
      after,
      shown.1,
      declared_limit before after content (Err c.in-Err.refusal) shown.2,
      λ records handled stands describes on none.
          let is : IsChannelOf records handled content = record { source = c.args.source; on = on; describes = describes } in
          let undeclared = undeclared_yet records handled c.args.source c.args.self.now.declared.items c.args.self.now.ids stands.ids_stand none on in
          record {
            before = before;
            stands = may_declare records handled c.args.self.now.ids (lists_of c.args.self.now) before stands;
            refusal = declare_refused records handled before after content c.in-Err.refusal is shown.2;
            some = at_within (messages records) handled on.top on.at;
            tried = declare_tried records handled c.args.self.now.declared.items before after content c.in-Err.refusal undeclared is shown.2;
          },
    )
