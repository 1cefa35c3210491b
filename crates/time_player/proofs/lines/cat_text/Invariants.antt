use Rattle.std.proofs.Common.{◌≡◌, List, take}
use Rattle.mcap_model.specs.Scan.{Seen}
use Rattle.mcap_model.specs.Showing.{Shows}
use Rattle.time_player.specs.Text.{cat_text}
use Rattle.time_player.proofs.lines.cat_text.Given as goal

abbrev pub invariant-messages : goal.invariant-messages
invariant-messages l = (messages : List Seen) → Shows l.replayed messages → l.out.items ≡ cat_text (take l.i messages)
