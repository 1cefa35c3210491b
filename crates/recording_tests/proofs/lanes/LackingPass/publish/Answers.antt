use Rattle.std.proofs.Common.{◌≡◌, ◌∷◌, ◌++◌, [], ℕ, zero, suc, ◌<◌, ◌⊎◌, false, length, refl, inl, inr, arith}
use Rattle.record_core.specs.declared.answers.CallRefused.TheVariants.{TooLarge, UnknownChannel}
use Rattle.feed_lane.specs.Tapes.{found_now}
use Rattle.feed_lane.proofs.Tapes.{finds}
use Rattle.recording_tests.proofs.lanes.LackingPass.publish.Goals as goal

-- no channel is known
unknown : (channel : ℕ) → (channel ≡ 0) ⊎ (0 < channel)
unknown zero = inl refl
unknown (suc n) = inr (omega arith)

pub returns-then-len-gt33554432-clause-shows : goal.returns-then-len-gt33554432-clause-shows
returns-then-len-gt33554432-clause-shows c = λ begun before (reasons, is). rw is (_, (reasons ++ TooLarge (length c.args.m.now.payload.now) ∷ [], refl), (refl, omega (arith, c.if-len-gt33554432.true), refl))

pub returns-clause-shows : goal.returns-clause-shows
returns-clause-shows c = λ begun before (reasons, is). rw is (
  _,
  (reasons ++ UnknownChannel ∷ [], refl),
  (
    found_now 0 0 false,
    omega (arith, c.if-len-gt33554432.false),
    finds [] [] reasons c.args.self.now.asked false false 0 0 (λ ended. ended),
    refl,
    unknown c.args.m.now.channel,
    refl,
  ),
)
