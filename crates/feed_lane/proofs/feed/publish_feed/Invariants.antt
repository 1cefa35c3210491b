use Rattle.std.proofs.Common.{ℕ, List}
use Rattle.mcap_model.specs.Tops.{Top, Placed}
use Rattle.mcap_scan.specs.Walking.{FlatStands, flat_left}
use Rattle.feed_lane.specs.PassCalls.{no_calls}
use Rattle.feed_lane.specs.Kept.{IsKnown}
use Rattle.feed_lane.specs.Steps.{ThenShows, KeepsLists}
use Rattle.feed_lane.proofs.Feeding.{Feeds}
use Rattle.feed_lane.proofs.feed.publish_feed.Given as goal

abbrev pub decreases-records : goal.decreases-records
decreases-records g l = flat_left l.flat

abbrev pub invariant-records : goal.invariant-records
invariant-records g l = ((tops : List Top) × (given : List Placed) × FlatStands l.flat (g.S.Source.state l.fn.source) (g.S.Source.state l.source) tops given
    × ((limit : ℕ) → g.P.Pass.since l.fn.pass l.fn.pass (no_calls limit) → ThenShows (g.P.Pass.since l.fn.pass l.pass) (no_calls limit) (λ shown. Feeds l.lane shown tops given)))
    × g.S.Source.stays l.fn.source l.source × KeepsLists l.lane l.fn.listed × IsKnown (g.P.Pass.knows l.pass) l.lane.ids.kept
