use Rattle.std.proofs.Common.{◌-◌, ◌<◌, length, arith}
use Rattle.mcap_model.proofs.Places.{at_read}
use Rattle.indexed_replay.proofs.Apart.{found_two, all_agree}
use Rattle.indexed_replay.proofs.repeats.find_two.Goals as goal

pub returns-then-are_two : goal.returns-then-are_two
returns-then-are_two c =
    let xs = c.args.leads.now in
    let within : c.leads.i < length xs = omega (arith, c.leads-test.true) in
    let before : c.leads.i - 1 < length xs = omega (arith, within) in
    let two = c.are_two.ensures.0 c.if-are_two.true in
    found_two xs c.leads.i _ _ c.max.result (at_read xs (c.leads.i - 1) _ before) (at_read xs c.leads.i _ within) two.0 two.1 c.max.ensures

pub returns : goal.returns
returns c = all_agree c.args.leads.now c.leads.i c.requires c.leads.invariant (omega (arith, c.leads-test.false))
