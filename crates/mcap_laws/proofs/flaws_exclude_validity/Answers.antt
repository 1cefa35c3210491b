use Rattle.mcap_model.proofs.Flaws.{flaws_exclude_validity}
use Rattle.mcap_laws.proofs.flaws_exclude_validity.Goals as goal

pub returns : goal.returns
returns c = flaws_exclude_validity
