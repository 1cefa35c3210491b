-- It owns nothing, so it may go to another thread.
use denote.RattleType.{RattleType}
use denote.Param.Send.{IsSend, owning_send, sendable}
use Rattle.feed_lane.specs.contracts.trace.Trace.{the_row, the_type}

pub send : (X : RattleType) → IsSend X → IsSend (the_row X)
send X x = owning_send (the_type X) (search sendable, tt) (λ d. tt) (λ k v w. tt)
