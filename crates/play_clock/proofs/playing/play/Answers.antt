-- One line more shows just its messages.
use Rattle.std.proofs.Common.{◌≡◌, List, ◌∷◌, ◌++◌, [], take, rules}
use Rattle.play_clock.proofs.Scripts.{script_step, stands_step, comes_step, within_step}
use Rattle.play_clock.proofs.playing.play.Goals as goal

pub lines-preserved : goal.lines-preserved
lines-preserved g c =
    let times = g.M.Timeline.times c.args.list.now in
    let lines = c.args.lines.now in
    let i = c.lines.invariant in
    let at = c.lines.line-index in
    let s = c.show-stretch.result in
    let plays = c.show-stretch.ensures.shows (take at lines) i.stands in
    let items : c.push.new.self.items ≡ c.lines.stretches.items ++ s ∷ [] = search rules in
    record {
      stands = stands_step times lines at _ c.show-stretch.new.player c.lines-test.true (c.show-stretch.ensures.stands (take at lines) i.stands);
      comes = comes_step lines at _ _ c.requires.moments c.lines-test.true c.show-stretch.ensures.last;
      plays = script_step times lines at _ c.lines.stretches.items c.push.new.self.items s c.lines-test.true i.plays plays c.show-stretch.ensures.moment items;
      within = within_step times _ _ c.lines.stretches.items c.push.new.self.items s i.within plays items;
    }
