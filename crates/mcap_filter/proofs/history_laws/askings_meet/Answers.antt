use Rattle.mcap_filter.proofs.Meeting.{askings_meet}
use Rattle.mcap_filter.proofs.history_laws.askings_meet.Goals as goal

pub returns : goal.returns
returns c = askings_meet
