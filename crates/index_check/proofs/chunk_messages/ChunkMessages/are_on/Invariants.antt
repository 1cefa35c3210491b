use Rattle.std.proofs.Common.{ℕ, ◌<◌}
use Rattle.mcap_model.specs.Places.{At, Has}
use Rattle.mcap_scan.specs.declared.message_heads.MessageHead.{MessageHead}
use Rattle.index_check.proofs.chunk_messages.ChunkMessages.are_on.Given as goal

abbrev pub invariant-messages : goal.invariant-messages
invariant-messages l = (k : ℕ) (heard : MessageHead) → At l.self k heard → k < l.i → Has l.channels heard.channel
