use Rattle.command_record.proofs.Unwatched.{unwatched_recordings}
use Rattle.command_record.proofs.laws.unwatched_recordings_write_one_file.Goals as goal

pub returns : goal.returns
returns c = unwatched_recordings
