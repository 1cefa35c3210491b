use Rattle.mcap_model.specs.Plain.{asked_topic}
use Rattle.time_player.proofs.replaying.replay_timed.Goals as goal

pub returns-in-Ok-finish_timed-clause-plays : goal.returns-in-Ok-finish_timed-clause-plays
returns-in-Ok-finish_timed-clause-plays g c =
    let r = c.in-Ok.ensures.reads in
    record {
      tops = r.tops;
      end = r.end;
      messages = r.messages;
      halts = r.halts;
      scan = r.told.scan;
      lines_are = c.in-Ok-finish_timed.ensures c.args.range (asked_topic c.args.topic) r.tops r.messages r.told r.kept_are;
    }

pub returns-in-Err-finish_timed-clause-plays : goal.returns-in-Err-finish_timed-clause-plays
returns-in-Err-finish_timed-clause-plays g c = let r = c.in-Ok.ensures.reads in (r.tops, r.lacks)
