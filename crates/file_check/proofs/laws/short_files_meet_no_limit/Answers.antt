use Rattle.file_check.proofs.NoLimits.{short_files_meet_no_limit}
use Rattle.file_check.proofs.laws.short_files_meet_no_limit.Goals as goal

pub returns : goal.returns
returns c = short_files_meet_no_limit
