use Rattle.std.proofs.Common.{false, refl}
use Rattle.std.proofs.lemmas.Bool.{both_ways}
use Rattle.index_check.proofs.InPlace.{first_in_place, again_in_place, in_place_offsets, in_place_statistics, in_place_last}
use Rattle.index_check.proofs.order.Order.is_in_place.Goals as goal

pub returns-then-not-keeps_offsets_last : goal.returns-then-not-keeps_offsets_last
returns-then-not-keeps_offsets_last c = λ before t are is. (
  λ e. absurd (both_ways false refl e),
  λ place. absurd (both_ways c.keeps_offsets_last.result c.if-not-keeps_offsets_last.true (c.keeps_offsets_last.ensures.1 (in_place_offsets before t c.args.self.now c.args.op are is place))),
)

pub returns-then-not-has : goal.returns-then-not-has
returns-then-not-has c = λ before t are is. (
  λ e. first_in_place before t c.args.self.now c.args.op are is (c.keeps_offsets_last.ensures.0 c.if-not-keeps_offsets_last.false) (λ has. both_ways c.has.result c.if-not-has.true (c.has.ensures.1 has)),
  λ place. refl,
)

pub returns-then-op-eq-STATISTICS : goal.returns-then-op-eq-STATISTICS
returns-then-op-eq-STATISTICS c = λ before t are is. (
  λ e. absurd (both_ways false refl e),
  λ place. absurd (in_place_statistics before t c.args.self.now c.args.op are is place (c.has.ensures.0 c.if-not-has.false) c.if-op-eq-STATISTICS.true),
)

pub returns-then-op-self : goal.returns-then-op-self
returns-then-op-self c = λ before t are is. (
  λ e. again_in_place before t c.args.self.now c.args.op are is (c.keeps_offsets_last.ensures.0 c.if-not-keeps_offsets_last.false) (c.has.ensures.0 c.if-not-has.false) c.if-op-eq-STATISTICS.false c.if-op-self.true,
  λ place. refl,
)

pub returns : goal.returns
returns c = λ before t are is. (
  λ e. absurd (both_ways false refl e),
  λ place. absurd (c.if-op-self.false (in_place_last before t c.args.self.now c.args.op are is place (c.has.ensures.0 c.if-not-has.false))),
)
