use Rattle.std.proofs.Common.{◌<◌, ◌≤◌, ◌-◌, ℕ, length, get_or}
use Rattle.play_clock.proofs.searching.first_from.Given as goal

abbrev pub decreases-search : goal.decreases-search
decreases-search g l = l.high - l.low

abbrev pub invariant-search : goal.invariant-search
invariant-search g l = record {
  low_first : l.low ≤ l.high;
  within : l.high ≤ length (g.M.Timeline.times l.list);
  before : (k : ℕ) → k < l.low → get_or (g.M.Timeline.times l.list) k 0 < l.time;
  after : (k : ℕ) → l.high ≤ k → k < length (g.M.Timeline.times l.list) → l.time ≤ get_or (g.M.Timeline.times l.list) k 0;
}
