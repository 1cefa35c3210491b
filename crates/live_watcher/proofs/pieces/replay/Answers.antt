use Rattle.live_watcher.proofs.Replays.{replay_text}
use Rattle.live_watcher.proofs.pieces.replay.Goals as goal

pub returns-in-Ok-of_kept-clause-replays : goal.returns-in-Ok-of_kept-clause-replays
returns-in-Ok-of_kept-clause-replays g c = λ stored told.
    replay_text c.args.range stored c.in-Ok.kept c.len-count.result c.in-Ok-of_kept.text (c.in-Ok.ensures.plays stored told) c.len-count.ensures c.in-Ok-of_kept.ensures
