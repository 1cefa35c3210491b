use Rattle.std.proofs.Common.{◌<◌, ◌≤◌, ℕ, get_or}
use Rattle.play_clock.proofs.searching.first_after.Given as goal

abbrev pub invariant-later : goal.invariant-later
invariant-later g l = (k : ℕ) → l.from ≤ k → k < l.place → get_or (g.M.Timeline.times l.list) k 0 ≤ l.time
