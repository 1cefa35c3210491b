use Rattle.std.proofs.Common.{false, refl}
use Rattle.std.proofs.lemmas.Bool.{both_ways}
use Rattle.mcap_io.proofs.Calls.{some_there, never_fails}
use Rattle.io_memory.proofs.memory.MemorySourceSource.read.Goals as goal

pub returns-then-is_empty-clause-no_room : goal.returns-then-is_empty-clause-no_room
returns-then-is_empty-clause-no_room c = λ none. (refl, refl)

pub returns-then-is_empty-clause-stays : goal.returns-then-is_empty-clause-stays
returns-then-is_empty-clause-stays c = (refl, refl)

pub returns-then-next_fails-clause-stays : goal.returns-then-next_fails-clause-stays
returns-then-next_fails-clause-stays c = (refl, c.next_fails.ensures.plan)

pub returns-then-next_fails-clause-counted : goal.returns-then-next_fails-clause-counted
returns-then-next_fails-clause-counted c = λ room. c.next_fails.ensures.counted

pub returns-then-next_fails-clause-planned : goal.returns-then-next_fails-clause-planned
returns-then-next_fails-clause-planned c =
    (λ e. (some_there _ c.is_empty.result c.is_empty.ensures c.if-is_empty.false, c.next_fails.ensures.planned.0 c.if-next_fails.true), λ h. refl)

pub returns-clause-bound : goal.returns-clause-bound
returns-clause-bound c = c.read.ensures.bound

pub returns-clause-gives : goal.returns-clause-gives
returns-clause-gives c = c.read.ensures.gives

pub returns-clause-stays : goal.returns-clause-stays
returns-clause-stays c = (c.read.ensures.stays, c.next_fails.ensures.plan)

pub returns-clause-planned : goal.returns-clause-planned
returns-clause-planned c =
    (λ e. absurd (never_fails c.read.result c.read.ensures.cause e), λ h. absurd (both_ways false refl (c.if-next_fails.ensures.planned.1 h.1)))

pub returns-clause-counted : goal.returns-clause-counted
returns-clause-counted c = λ room. c.next_fails.ensures.counted
