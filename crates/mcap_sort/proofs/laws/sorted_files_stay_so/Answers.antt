use Rattle.std.proofs.Common.{None, ap, ◌∙◌, map}
use Rattle.std.specs.Prelude.{filter}
use Rattle.mcap_model.specs.History.{is_message}
use Rattle.mcap_model.proofs.Rising.{replays_are_one}
use Rattle.mcap_sort.specs.Sorted.{all_times, message_seen}
use Rattle.mcap_sort.proofs.Kept.{messages_seen, replay_same}
use Rattle.mcap_sort.proofs.laws.sorted_files_stay_so.Goals as goal

pub returns : goal.returns
returns c = λ tops extras profile written s rise.
    ap (filter is_message) s.written_is ∙ messages_seen s.history s.shown
    ∙ ap (map message_seen) (replays_are_one all_times None s.messages s.shown s.messages s.replay (replay_same s.messages rise))
