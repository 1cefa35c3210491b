-- So far the answers of the reports below the index were added.
use Rattle.std.proofs.Common.{◌≡◌, take}
use Rattle.command_record.specs.Watched.{with_ends}
use Rattle.command_record.proofs.watched_names.add_ends.Given as goal

abbrev pub invariant-reports : goal.invariant-reports
invariant-reports l = record { added : l.failed.items ≡ with_ends l.fn.failed.items (take l.i l.reports) }
