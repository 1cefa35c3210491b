use Rattle.mcap_model.specs.Walk.{walk_at, walk_rest}
use Rattle.mcap_model.proofs.ShownMessages.{inside_none, met_message, inside_message, inside_other, inside_all}
use Rattle.mcap_model.proofs.showing.add_inside.Goals as goal

pub add_message-requires : goal.add_message-requires
add_message-requires c =
    let was = c.records.invariant in
    let steps = c.in-Some.ensures in
    met_message c.args.records.now (walk_rest c.records.walk) (walk_rest c.next.new.self) was.done c.in-Some.inner c.requires was.split steps.first c.if-inner-eq-MESSAGE.true

pub records-preserved-in-Continue-1 : goal.records-preserved-in-Continue-1
records-preserved-in-Continue-1 c =
    inside_message c.args.records.now c.args.offset (walk_at c.records.walk) (walk_at c.next.new.self) (walk_rest c.records.walk) (walk_rest c.next.new.self) c.args.shown.now.items c.records.shown.items c.add_message.new.shown.items c.in-Some.inner
    c.records.invariant c.in-Some.ensures c.if-inner-eq-MESSAGE.true c.in_ok-add_message.ensures

pub records-preserved : goal.records-preserved
records-preserved c =
    inside_other c.args.records.now c.args.offset (walk_at c.records.walk) (walk_at c.next.new.self) (walk_rest c.records.walk) (walk_rest c.next.new.self) c.args.shown.now.items c.records.shown.items c.in-Some.inner
    c.records.invariant c.in-Some.ensures c.if-inner-eq-MESSAGE.false

pub records-init : goal.records-init
records-init c = inside_none c.args.records.now c.args.offset (walk_at c.new-walk.result) (walk_rest c.new-walk.result) c.args.shown.now.items c.new-walk.ensures.at c.new-walk.ensures.rest

pub returns : goal.returns
returns c = inside_all c.args.records.now c.args.offset (walk_at c.records.walk) (walk_rest c.records.walk) c.args.shown.now.items c.records.shown.items c.records.invariant c.in_default.ensures.0
