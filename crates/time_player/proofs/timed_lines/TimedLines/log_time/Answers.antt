use Rattle.std.proofs.Common.{ℕ, List, map, get_or, ap, ◌∙◌}
use Rattle.time_player.specs.Lent.{shown_of}
use Rattle.time_player.specs.Stretches.{TimedLine}
use Rattle.time_player.proofs.Stretched.{time_at}
use Rattle.time_player.proofs.timed_lines.TimedLines.log_time.Goals as goal

pub returns : goal.returns
returns c = time_at _ _ c.args.i (shown_of c.get.result) c.get.ensures ∙ ap (λ (lines : List TimedLine). get_or (map (λ (l : TimedLine). l.time) lines) c.args.i 0) c.self.view_is
