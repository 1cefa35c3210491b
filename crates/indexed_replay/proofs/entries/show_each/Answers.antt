use Rattle.std.proofs.Common.{rules, ◌+◌, ◌≤◌, inl, inr, sym, ◌∙◌, arith}
use Rattle.indexed_replay.specs.Costs.{entries_cost}
use Rattle.mcap_model.proofs.Replays.{range_decided}
use Rattle.indexed_replay.proofs.Adding.{listed_more, listed_over, listed_skip, listed_again, cost_next, cost_skip, cost_all}
use Rattle.time_player.specs.Keeping.{kept_in}
use Rattle.indexed_replay.proofs.entries.show_each.Goals as goal

pub entries-preserved-then-not-is_within : goal.entries-preserved-then-not-is_within
entries-preserved-then-not-is_within g c =
    let i = c.entries.invariant in
    record {
      stays = i.stays;
      still = i.still;
      holds = i.holds;
      shows = λ file told size. listed_skip file c.args.range c.args.spot c.args.entries.now c.entries.i (c.entries.i + 1) c.entry_in-entry.result (kept_in c.args.shown.now) (kept_in c.entries.shown) c.entry_in-entry.ensures (omega arith) (sym c.if-not-is_within.ensures) (i.shows file told size);
      asks = λ file told size. cost_skip file c.args.range c.args.spot.chunk c.args.entries.now c.entries.i (c.entries.i + 1) c.entry_in-entry.result (g.T.Store.state c.args.store.now).asked (g.T.Store.state c.entries.store).asked c.entry_in-entry.ensures (omega arith) (i.asks file told size);
    }

pub entries-preserved-then-stands_before : goal.entries-preserved-then-stands_before
entries-preserved-then-stands_before g c =
    let i = c.entries.invariant in
    let before = c.stands_before.ensures.before c.if-stands_before.true in
    record {
      stays = i.stays;
      still = i.still;
      holds = i.holds;
      shows = λ file told size. listed_again file c.args.range c.args.spot c.args.entries.now c.entries.i before.0 (c.entries.i + 1) c.entry_in-entry.result (kept_in c.args.shown.now) (kept_in c.entries.shown) c.entry_in-entry.ensures before.2 before.1 (omega arith) (i.shows file told size);
      asks = λ file told size. cost_skip file c.args.range c.args.spot.chunk c.args.entries.now c.entries.i (c.entries.i + 1) c.entry_in-entry.result (g.T.Store.state c.args.store.now).asked (g.T.Store.state c.entries.store).asked c.entry_in-entry.ensures (omega arith) (i.asks file told size);
    }

pub returns-in-Err-clause-told : goal.returns-in-Err-clause-told
returns-in-Err-clause-told g c = λ file told size.
    let i = c.entries.invariant in
    let within = sym c.if-not-is_within.ensures in
    elim (c.in-Err.ensures.told file (i.stays.bytes ∙ told) size) [
      | inl refused ↦ inl (c.entry_in-entry.result, (c.entries.i, c.entry_in-entry.ensures), (range_decided c.args.range c.entry_in-entry.result.0).0 within, refused)
      | inr (is, over) ↦ inr (is, listed_over file c.args.range c.args.spot c.args.entries.now c.entries.i c.entry_in-entry.result (kept_in c.args.shown.now) (kept_in c.entries.shown) c.entry_in-entry.ensures within (c.stands_before.ensures.none c.if-stands_before.false) (i.shows file told size) over)
    ]

pub returns-in-Err-clause-asks : goal.returns-in-Err-clause-asks
returns-in-Err-clause-asks g c = λ file told size.
    let i = c.entries.invariant in
    let next : (g.T.Store.state c.add_message.new.store).asked ≤ (g.T.Store.state c.args.store.now).asked + entries_cost file c.args.range c.args.spot.chunk (Rattle.std.proofs.Common.take (c.entries.i + 1) c.args.entries.now) = cost_next file c.args.range c.args.spot.chunk c.args.entries.now c.entries.i (c.entries.i + 1) c.entry_in-entry.result (g.T.Store.state c.args.store.now).asked (g.T.Store.state c.entries.store).asked (g.T.Store.state c.add_message.new.store).asked c.entry_in-entry.ensures (omega arith) (sym c.if-not-is_within.ensures) (i.asks file told size) (c.in-Err.ensures.asks file (i.stays.bytes ∙ told) size) in
    cost_all file c.args.range c.args.spot.chunk c.args.entries.now (c.entries.i + 1) (g.T.Store.state c.args.store.now).asked (g.T.Store.state c.add_message.new.store).asked next

pub returns-in-Ok-false-clause-asks : goal.returns-in-Ok-false-clause-asks
returns-in-Ok-false-clause-asks g c = λ file told size.
    let i = c.entries.invariant in
    let next : (g.T.Store.state c.add_message.new.store).asked ≤ (g.T.Store.state c.args.store.now).asked + entries_cost file c.args.range c.args.spot.chunk (Rattle.std.proofs.Common.take (c.entries.i + 1) c.args.entries.now) = cost_next file c.args.range c.args.spot.chunk c.args.entries.now c.entries.i (c.entries.i + 1) c.entry_in-entry.result (g.T.Store.state c.args.store.now).asked (g.T.Store.state c.entries.store).asked (g.T.Store.state c.add_message.new.store).asked c.entry_in-entry.ensures (omega arith) (sym c.if-not-is_within.ensures) (i.asks file told size) (c.in-Ok-false.ensures.asks file (i.stays.bytes ∙ told) size) in
    cost_all file c.args.range c.args.spot.chunk c.args.entries.now (c.entries.i + 1) (g.T.Store.state c.args.store.now).asked (g.T.Store.state c.add_message.new.store).asked next

pub entries-preserved : goal.entries-preserved
entries-preserved g c =
    let i = c.entries.invariant in
    let e = c.in-Ok-true.ensures in
    record {
      stays = record { bytes = e.stays.bytes ∙ i.stays.bytes; known = e.stays.known ∙ i.stays.known };
      still = e.cause ∙ i.still;
      holds = e.holds;
      shows = λ file told size. listed_more file c.args.range c.args.spot c.args.entries.now c.entries.i (c.entries.i + 1) c.entry_in-entry.result (kept_in c.args.shown.now) (kept_in c.entries.shown) (kept_in c.add_message.new.shown) c.entry_in-entry.ensures (omega arith) (sym c.if-not-is_within.ensures) (c.stands_before.ensures.none c.if-stands_before.false) (i.shows file told size) (rw c.in-Ok-true.field-0-test at c.in-Ok-true.ensures.told file (i.stays.bytes ∙ told) size);
      asks = λ file told size. cost_next file c.args.range c.args.spot.chunk c.args.entries.now c.entries.i (c.entries.i + 1) c.entry_in-entry.result (g.T.Store.state c.args.store.now).asked (g.T.Store.state c.entries.store).asked (g.T.Store.state c.add_message.new.store).asked c.entry_in-entry.ensures (omega arith) (sym c.if-not-is_within.ensures) (i.asks file told size) (e.asks file (i.stays.bytes ∙ told) size);
    }

pub entries-init : goal.entries-init
entries-init g c = search rules
