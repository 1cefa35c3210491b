use Rattle.mcap_crc.proofs.Folding.{remainder-xored}
use Rattle.mcap_crc.proofs.laws.of_three_messages.Goals as goal

pub returns : goal.returns
returns c = remainder-xored
