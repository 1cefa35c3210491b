use Rattle.mcap_model.specs.Plain.{asked_topic}
use Rattle.mcap_scan.specs.Walking.{flat_left}
use Rattle.time_player.specs.Keeping.{kept_in}
use Rattle.time_player.proofs.Played.{PlaysSoFar}
use Rattle.time_player.proofs.replaying.read_kept.Given as goal

abbrev pub decreases-records : goal.decreases-records
decreases-records g l = flat_left l.flat

abbrev pub invariant-records : goal.invariant-records
invariant-records g l = PlaysSoFar l.range (asked_topic l.topic) l.flat (g.S.Source.state l.fn.source) (g.S.Source.state l.source) (kept_in l.kept) × g.S.Source.stays l.fn.source l.source
