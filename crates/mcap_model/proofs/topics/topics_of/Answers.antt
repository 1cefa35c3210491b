use Rattle.std.proofs.Common.{ℕ, ◌+◌, ◌<◌, List, length, take, refl, sym, subst, arith}
use Rattle.std.specs.List.{AllZip}
use Rattle.mcap_model.specs.declared.replay.Topic.{Topic}
use Rattle.mcap_model.specs.Places.{At}
use Rattle.mcap_model.proofs.Places.{at_read}
use Rattle.mcap_model.proofs.NamedTopics.{IsEntry, take_past, id_declared, topics_named, zip_more}
use Rattle.mcap_model.proofs.topics.topics_of.Goals as goal

pub ids-preserved : goal.ids-preserved
ids-preserved c = λ are there.
    let within : c.ids.i < length c.in_ok-ids.ids.items = omega arith in
    let at : At c.in_ok-ids.ids.items c.ids.i c.index.result.now = subst (At c.in_ok-ids.ids.items c.ids.i) (sym c.index.ensures) (at_read c.in_ok-ids.ids.items c.ids.i c.index.result.now within) in
    let added = c.in_ok-add_topic.ensures are (id_declared c.args.tables.now.channels c.args.shown.now c.in_ok-ids.ids.items c.ids.i c.index.result.now there c.in_ok-ids.ensures.are at) in
    subst (λ (l : List Topic). AllZip (IsEntry c.args.tables.now.channels) (take (c.ids.i + 1) c.in_ok-ids.ids.items) l) (sym added.2)
    (zip_more (IsEntry c.args.tables.now.channels) c.in_ok-ids.ids.items c.ids.topics.items c.ids.i c.index.result.now (record { channel = c.index.result.now; topic = added.0 }) within c.index.ensures (c.ids.invariant are there) (refl, added.1))

pub returns : goal.returns
returns c = λ are there.
    topics_named c.args.tables.now.channels c.args.shown.now c.in_ok-ids.ids.items c.ids.topics.items c.in_ok-ids.ensures.rises c.in_ok-ids.ensures.are
    (subst (λ (l : List ℕ). AllZip (IsEntry c.args.tables.now.channels) l c.ids.topics.items) (take_past c.ids.i c.in_ok-ids.ids.items (omega arith)) (c.ids.invariant are there))
