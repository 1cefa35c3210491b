use Rattle.mcap_app.proofs.WatchFiles.{watch_files_hold_messages}
use Rattle.mcap_app.proofs.laws.watch_files_hold_messages.Goals as goal

pub returns : goal.returns
returns c = watch_files_hold_messages
