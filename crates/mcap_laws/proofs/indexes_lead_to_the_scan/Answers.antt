use Rattle.mcap_laws.proofs.Leading.{indexes_lead_to_the_scan}
use Rattle.mcap_laws.proofs.indexes_lead_to_the_scan.Goals as goal

pub returns : goal.returns
returns c = indexes_lead_to_the_scan
