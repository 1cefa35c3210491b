use Rattle.std.proofs.Common.{refl}
use Rattle.mcap_app.proofs.program.unreported.Goals as goal

pub returns : goal.returns
returns c = refl
