use Rattle.file_check.proofs.NoLimits.{written_files_meet_no_limit}
use Rattle.file_check.proofs.laws.written_files_meet_no_limit.Goals as goal

pub returns : goal.returns
returns c = written_files_meet_no_limit
