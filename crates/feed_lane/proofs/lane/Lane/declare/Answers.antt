use Rattle.std.proofs.Common.{◌+◌, ℕ, List, refl, sym, subst, Err}
use Rattle.mcap_model.proofs.Places.{at_within}
use Rattle.mcap_model.specs.Places.{At}
use Rattle.record_core.specs.declared.answers.CallRefused.TheVariants as refusing
use Rattle.feed_lane.specs.PassCalls.{with_reason}
use Rattle.feed_lane.specs.Lanes.{messages, IsChannelOf}
use Rattle.feed_lane.specs.Kept.{LaneIds}
use Rattle.history_ids.specs.FeedContents.{KeptStands, no_schema}
use Rattle.feed_lane.specs.Steps.{lists_of, LaneStands, ListsStand, ChannelFound}
use Rattle.feed_lane.proofs.Growing.{may_declare, undeclared_yet, standing, keeping, found_keeping}
use Rattle.feed_lane.proofs.Calls.{unchanged, memory_tried, declare_refused, declare_tried}
use Rattle.feed_lane.proofs.lane.Lane.declare.Goals as goal

-- no definition was made, for want of memory
pub returns-in-Err-clause-found : goal.returns-in-Err-clause-found
returns-in-Err-clause-found g c = λ begun before since. (
  before,
  since,
  refl,
  λ records handled was known on unnamed.
      let l = c.excess_of.new.self in
      let stands : LaneStands l records handled before = standing c.args.self.now l records handled before c.excess_of.ensures.rest (λ declared ids. c.excess_of.ensures.stands records declared ids known.tables_are) was in
      let none = subst (λ (given : List ℕ). At given c.args.source 0) (sym c.excess_of.ensures.given) unnamed in
      subst (λ (ids : LaneIds). ChannelFound (record l { ids = ids }) records handled c.args.source before (Err refusing.Memory)) (sym c.take_schema-kept.ensures.rest) (record {
        before = before;
        stands = keeping records handled (handled + 1) l.ids (lists_of l) before no_schema refl (may_declare records handled l.ids (lists_of l) before stands);
        refusal = unchanged records handled before;
        some = at_within (messages records) handled on.top on.at;
        tried = memory_tried records l.declared.items handled (undeclared_yet records handled c.args.source l.declared.items l.ids stands.ids_stand none on);
      }),
)

pub returns-in-Ok-clause-found : goal.returns-in-Ok-clause-found
returns-in-Ok-clause-found g c = λ begun before since.
    let l = c.excess_of.new.self in
    let call = c.declare_as-found in
    let same = sym c.take_schema-kept.ensures.rest in
    let shown = call.ensures.found begun before since in (
      shown.0,
      shown.1,
      shown.2,
      λ records handled was known on unnamed.
          let stands : LaneStands l records handled before = standing c.args.self.now l records handled before c.excess_of.ensures.rest (λ declared ids. c.excess_of.ensures.stands records declared ids known.tables_are) was in
          let none = subst (λ (given : List ℕ). At given c.args.source 0) (sym c.excess_of.ensures.given) unnamed in
          let kept : KeptStands records c.take_schema-kept.result = subst (KeptStands records) (sym c.take_schema-kept.ensures.kept) stands.ids_stand.kept in
          let next : KeptStands records c.into_schema.result = subst (KeptStands records) (sym c.into_schema.ensures) (c.in-Ok.ensures.shows records known.tables_are kept) in
          let now = shown.3 records handled
          (subst (λ (ids : LaneIds). ListsStand records handled handled ids (lists_of l) before) same (keeping records handled handled l.ids (lists_of l) before no_schema refl stands))
          (c.in-Ok.ensures.describes records known.tables_are kept) on
          (subst (λ (ids : LaneIds). At ids.given c.args.source 0) same none) in
          subst (λ (ids : LaneIds). ChannelFound (record call.new.self { ids = ids }) records handled c.args.source shown.0 call.result) (sym c.keep_schema.ensures)
          (found_keeping call.new.self records handled c.args.source shown.0 c.into_schema.result call.result next now),
    )

-- the records of the channel are too long, and no call was made
pub returns-in-Some-clause-found : goal.returns-in-Some-clause-found
returns-in-Some-clause-found g c = λ begun before since.
    let l = c.excess_of.new.self in
    let after = with_reason before (refusing.TooLarge c.in-Some.len) in (
      after,
      g.met.P.Pass.refuses_size begun c.args.pass.now before c.in-Some.len c.in-Some.ensures.over since,
      refl,
      λ records handled was known on unnamed.
          let stands : LaneStands l records handled before = standing c.args.self.now l records handled before c.excess_of.ensures.rest (λ declared ids. c.excess_of.ensures.stands records declared ids known.tables_are) was in
          let none = subst (λ (given : List ℕ). At given c.args.source 0) (sym c.excess_of.ensures.given) unnamed in
          let long = c.in-Some.ensures.size records c.args.self.now.declared.items was.ids_stand known.tables_are in
          let is : IsChannelOf records handled long.content = record { source = c.args.source; on = on; describes = long.describes } in
          record {
            before = before;
            stands = may_declare records handled l.ids (lists_of l) before stands;
            refusal = declare_refused records handled before after long.content (refusing.TooLarge c.in-Some.len) is (long.size, c.in-Some.ensures.over, refl);
            some = at_within (messages records) handled on.top on.at;
            tried = declare_tried records handled l.declared.items before after long.content (refusing.TooLarge c.in-Some.len) (undeclared_yet records handled c.args.source l.declared.items l.ids stands.ids_stand none on) is (long.size, c.in-Some.ensures.over, refl);
          },
    )
