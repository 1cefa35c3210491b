use Rattle.std.proofs.Common.{◌<◌, ◌+◌, ◌-◌, ◌/◌, length, arith}
use Rattle.mcap_model.proofs.Places.{at_read}
use Rattle.index_check.proofs.Spotted.{narrows_low, narrows_high, is_only}
use Rattle.index_check.proofs.spots.find.Goals as goal

pub returns-then-there-offset : goal.returns-then-there-offset
returns-then-there-offset c =
    let middle = c.halves.low + (c.halves.high - c.halves.low) / 2 in
    let within : middle < length c.args.spots.now = omega (arith, c.halves.invariant.within, c.halves.invariant.end, c.halves-test.true) in
    let at = at_read c.args.spots.now middle _ within in
    (_, at, c.if-there-offset.true, is_only c.args.spots.now c.args.offset middle _ c.requires at c.if-there-offset.true)

pub halves-preserved-then-there-offset-2 : goal.halves-preserved-then-there-offset-2
halves-preserved-then-there-offset-2 c =
    let middle = c.halves.low + (c.halves.high - c.halves.low) / 2 in
    let within : middle < length c.args.spots.now = omega (arith, c.halves.invariant.within, c.halves.invariant.end, c.halves-test.true) in
    narrows_low c.args.spots.now c.args.offset c.halves.low c.halves.high middle _ c.requires c.halves.invariant (at_read c.args.spots.now middle _ within) (omega (arith, c.halves-test.true)) c.if-there-offset-2.true

pub halves-preserved : goal.halves-preserved
halves-preserved c =
    let middle = c.halves.low + (c.halves.high - c.halves.low) / 2 in
    let within : middle < length c.args.spots.now = omega (arith, c.halves.invariant.within, c.halves.invariant.end, c.halves-test.true) in
    narrows_high c.args.spots.now c.args.offset c.halves.low c.halves.high middle _ c.requires c.halves.invariant (at_read c.args.spots.now middle _ within) (omega arith) (omega (arith, c.halves-test.true)) c.if-there-offset-2.false c.if-there-offset.false
