use Rattle.std.proofs.Common.{◌≡◌}
use Rattle.recording_tests.proofs.desks.steps_answered.Given as goal

abbrev pub invariant-steps : goal.invariant-steps
invariant-steps l = l.desk.limit ≡ l.limit
