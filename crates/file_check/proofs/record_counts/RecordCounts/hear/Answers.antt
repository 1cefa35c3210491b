use Rattle.std.proofs.Common.{rules}
use Rattle.file_check.proofs.record_counts.RecordCounts.hear.Goals as goal

pub returns-then-self : goal.returns-then-self
returns-then-self c = search rules
