use Rattle.mcap_model.proofs.Prefixes.{prefixes_are_kept}
use Rattle.mcap_laws.proofs.prefixes_are_kept.Goals as goal

pub returns : goal.returns
returns c = prefixes_are_kept
