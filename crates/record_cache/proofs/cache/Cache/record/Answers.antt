use Rattle.std.proofs.Common.{◌-◌, List, ℕ, length, take, drop, ap, sym, subst, arith}
use Rattle.record_cache.specs.Buffers.{Buffer}
use Rattle.record_cache.specs.Offers.{StartsAt, RecordAt}
use Rattle.record_cache.specs.Reading.{records_shown}
use Rattle.mcap_wire.specs.Reading.{CutFails, IsCut}
use Rattle.record_cache.proofs.Kept.{starts_within, starts_cut, stands_there}
use Rattle.record_cache.proofs.cache.Cache.record.Goals as goal

pub cut-requires : goal.cut-requires
cut-requires c =
    let starts = subst (λ (b : Buffer). StartsAt b.records c.args.at) (sym c.self.view_is) c.requires in
    let within = starts_within c.self.inside.limit c.self.inside.count c.self.inside.framed.bytes c.args.at c.self.invariant.buffer starts in
    omega (arith, within, ap length c.bytes-bytes.ensures.bytes)

pub unreachable-requires : goal.unreachable-requires
unreachable-requires c =
    let starts = subst (λ (b : Buffer). StartsAt b.records c.args.at) (sym c.self.view_is) c.requires in
    let fails = subst (λ (l : List ℕ). CutFails l c.args.at c.in-Err.field-0) c.bytes-bytes.ensures.bytes c.in-Err.ensures in
    starts_cut c.self.inside.limit c.self.inside.count c.self.inside.framed.bytes c.args.at c.in-Err.field-0 c.self.invariant.buffer starts fails

pub returns-in-Ok : goal.returns-in-Ok
returns-in-Ok c =
    let is_cut = subst (λ (l : List ℕ). IsCut l c.args.at c.in-Ok.found) c.bytes-bytes.ensures.bytes c.in-Ok.ensures in
    let stands = λ (n : ℕ). stands_there c.self.inside.limit c.self.inside.count c.self.inside.framed.bytes c.args.at n c.in-Ok.found c.self.invariant.buffer is_cut in
    subst (λ (b : Buffer). RecordAt b.records c.args.at (take (c.in-Ok.found.to - c.args.at) (drop c.args.at c.bytes-bytes.result.now)) c.in-Ok.found.to) c.self.view_is
    (subst (λ (l : List ℕ). RecordAt (records_shown c.self.inside.framed.bytes) c.args.at (take (c.in-Ok.found.to - c.args.at) (drop c.args.at l)) c.in-Ok.found.to) (sym c.bytes-bytes.ensures.bytes) stands)
