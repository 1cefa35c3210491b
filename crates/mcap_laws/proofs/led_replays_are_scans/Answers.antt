use Rattle.mcap_laws.proofs.Leading.{led_replays_are_scans}
use Rattle.mcap_laws.proofs.led_replays_are_scans.Goals as goal

pub returns : goal.returns
returns c = led_replays_are_scans
