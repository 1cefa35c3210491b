use Rattle.mcap_crc.proofs.RemainderLemmas.{remainder-lt}
use Rattle.mcap_crc.proofs.laws.of_any_message.Goals as goal

pub returns : goal.returns
returns c = remainder-lt
