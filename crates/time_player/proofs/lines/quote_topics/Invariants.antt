use Rattle.std.proofs.Common.{take}
use Rattle.time_player.specs.Lines.{Quotes}
use Rattle.time_player.proofs.lines.quote_topics.Given as goal

abbrev pub invariant-topics : goal.invariant-topics
invariant-topics l = Quotes (take l.i l.topics) l.quoted
