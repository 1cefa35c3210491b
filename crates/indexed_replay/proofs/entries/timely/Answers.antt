use Rattle.std.proofs.Common.{◌+◌, sym, arith}
use Rattle.mcap_model.proofs.Replays.{range_decided}
use Rattle.indexed_replay.proofs.Timely.{timely_none, timely_more, timely_skip, timely_all}
use Rattle.indexed_replay.proofs.entries.timely.Goals as goal

pub entries-init : goal.entries-init
entries-init c = timely_none c.args.range c.args.entries.now c.new-timely.result.items c.new-timely.ensures.items

pub entries-preserved-then-not-is_within : goal.entries-preserved-then-not-is_within
entries-preserved-then-not-is_within c =
    timely_skip c.args.range c.args.entries.now c.entries.timely.items c.entries.i (c.entries.i + 1) c.item-entry.result c.item-entry.ensures (omega arith) (sym c.if-not-is_within.ensures) c.entries.invariant

pub entries-preserved : goal.entries-preserved
entries-preserved c =
    timely_more c.args.range c.args.entries.now c.entries.timely.items c.push.new.self.items c.entries.i (c.entries.i + 1) c.item-entry.result c.item-entry.ensures (omega arith) c.entries.invariant c.in-Ok.ensures.items

pub returns-clause-are : goal.returns-clause-are
returns-clause-are c =
    timely_all c.args.range c.args.entries.now c.entries.timely.items c.entries.i (omega (arith, c.entries-test.false, c.count-i-end.ensures)) c.entries.invariant

pub returns-in-Err-clause-some : goal.returns-in-Err-clause-some
returns-in-Err-clause-some c = (c.item-entry.result, (c.entries.i, c.item-entry.ensures), (range_decided c.args.range c.item-entry.result.0).0 (sym c.if-not-is_within.ensures))
