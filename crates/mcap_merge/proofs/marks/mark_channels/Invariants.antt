use Rattle.std.proofs.Common.{◌≡◌, length, take}
use Rattle.mcap_merge.specs.Marks.{listed_channels, with_marks}
use Rattle.mcap_merge.proofs.marks.mark_channels.Given as goal

abbrev pub invariant-messages : goal.invariant-messages
invariant-messages l = (l.marks.items ≡ with_marks l.fn.marks.items (listed_channels (take l.i l.heads))) × (length l.marks.items ≡ 65536)
