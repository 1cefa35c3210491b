use Rattle.file_check.proofs.Listing.{ListsSoFar}
use Rattle.file_check.proofs.message_counts.MessageCounts.list.Given as goal

abbrev pub invariant-counts : goal.invariant-counts
invariant-counts l = ListsSoFar l.self-inside.counts.items l.i l.list.items
