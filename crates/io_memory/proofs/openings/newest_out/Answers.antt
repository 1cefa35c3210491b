-- The walk has come to the newest opening whose object is out.
use Rattle.std.proofs.Common.{◌≡◌, suc, ◌-◌, ◌<◌, length, get_or, take, drop, map, subst, arith}
use Rattle.std.proofs.lemmas.List.{length-take-le}
use Rattle.mcap_io.specs.OutsideCalls.{IsOut, NoneIsOut}
use Rattle.io_memory.specs.Standing.{shown}
use Rattle.mcap_io.proofs.Walking.{split_there}
use Rattle.io_memory.proofs.openings.newest_out.Goals as goal

pub returns-then-is_out : goal.returns-then-is_out
returns-then-is_out c =
    let log = c.args.log.now in
    let at = c.walk.at - 1 in
    let d = c.index-log-at.result in
    let within : at < length log = omega (arith, c.walk-test.true, c.walk.invariant.bound) in
    let next : c.walk.at ≡ suc at = omega (arith, c.walk-test.true) in (
      take at log,
      drop (suc at) log,
      get_or log at d,
      split_there log at d within,
      length-take-le at log (omega (arith, within)),
      subst (λ o. IsOut c.args.kind c.args.name.now (shown o)) c.index-log-at.is (c.is_out.ensures.0 c.if-is_out.true),
      subst (λ n. NoneIsOut c.args.kind c.args.name.now (map shown (drop n log))) next c.walk.invariant.none_behind,
    )
