use Rattle.std.proofs.Common.{length, take}
use Rattle.mcap_model.specs.Places.{Each}
use Rattle.time_player.specs.Stretches.{LiesWithin}
use Rattle.play_clock.specs.Played.{PlaysScript}
use Rattle.play_clock.specs.Playing.{Stands, last_moment}
use Rattle.play_clock.proofs.Scripts.{ComesFrom}
use Rattle.play_clock.proofs.playing.play.Given as goal

abbrev pub invariant-lines : goal.invariant-lines
invariant-lines g l = record {
  stands : Stands (g.M.Timeline.times l.list) (take l.line-index l.lines) l.player;
  comes : ComesFrom l.lines l.line-index (last_moment l.player);
  plays : PlaysScript (g.M.Timeline.times l.list) (take l.line-index l.lines) l.stretches.items;
  within : Each (LiesWithin (length (g.M.Timeline.times l.list))) l.stretches.items;
}
