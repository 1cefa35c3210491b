use Rattle.std.proofs.Common.{◌∷◌, ◌++◌, [], false, refl, arith}
use Rattle.mcap_model.proofs.Places.{at_none}
use Rattle.record_core.specs.declared.answers.CallRefused.TheVariants.{TooLarge}
use Rattle.feed_lane.specs.Tapes.{found_now}
use Rattle.feed_lane.proofs.Tapes.{finds}
use Rattle.recording_tests.proofs.lanes.LackingPass.declare.Goals as goal

pub returns-then-len-gt1048576-clause-shows : goal.returns-then-len-gt1048576-clause-shows
returns-then-len-gt1048576-clause-shows c = λ begun before (reasons, is). rw is (_, (reasons ++ TooLarge c.declared_size-len.result ∷ [], refl), (c.declared_size-len.ensures, omega (arith, c.if-len-gt1048576.true), refl))

pub returns-clause-shows : goal.returns-clause-shows
returns-clause-shows c = λ begun before (reasons, is). rw is (
  _,
  (reasons, refl),
  (
    found_now 0 0 false,
    omega (arith, c.if-len-gt1048576.false, c.declared_size-len.ensures),
    finds [] [] reasons c.args.self.now.asked false false 0 0 (λ ended. ended),
    refl,
    λ k pair at same. at_none k pair at,
    record { few = omega arith; room = omega arith },
    omega arith,
    refl,
  ),
)
