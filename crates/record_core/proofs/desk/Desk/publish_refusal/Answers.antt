use Rattle.std.proofs.Common.{arith, rules}
use Rattle.std.proofs.lemmas.Grind.{common_steps}
use Rattle.record_core.proofs.desk.Desk.publish_refusal.Goals as goal

pub returns-in-Some-Closed-default : goal.returns-in-Some-Closed-default
returns-in-Some-Closed-default c = search rules

pub returns-then-channel-eq0 : goal.returns-then-channel-eq0
returns-then-channel-eq0 c = grind (arith, common_steps)

pub returns-then-held-limit : goal.returns-then-held-limit
returns-then-held-limit c = grind (arith, common_steps)

pub returns-then-count-ge-RECORD_COUNT_LIMIT : goal.returns-then-count-ge-RECORD_COUNT_LIMIT
returns-then-count-ge-RECORD_COUNT_LIMIT c = grind (arith, common_steps)
