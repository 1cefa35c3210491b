use Rattle.std.proofs.Common.{rules}
use Rattle.io_files.proofs.files.FileLiveLiveStore.append_through.Goals as goal

pub returns-clause-none_waits : goal.returns-clause-none_waits
returns-clause-none_waits g c = search rules
