use Rattle.live_recording.proofs.FilesTold.{watch_files_are_told}
use Rattle.live_recording.proofs.laws.watch_files_are_told.Goals as goal

pub returns : goal.returns
returns g c = watch_files_are_told g.X.Extent.tells
