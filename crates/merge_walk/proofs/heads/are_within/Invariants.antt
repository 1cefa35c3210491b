use Rattle.std.proofs.Common.{◌<◌, ◌≤◌, ℕ}
use Rattle.mcap_model.specs.Places.{At}
use Rattle.mcap_scan.specs.declared.message_heads.MessageHead.{MessageHead}
use Rattle.merge_walk.proofs.heads.are_within.Given as goal

abbrev pub invariant-messages : goal.invariant-messages
invariant-messages l = (k : ℕ) (e : MessageHead) → k < l.i → At l.heads k e → (l.span.least ≤ e.time) × (e.time ≤ l.span.greatest)
