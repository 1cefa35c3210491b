-- When ids had run out.
use Rattle.std.proofs.Common.{ℕ, List, sym}
use Rattle.rec_data.specs.declared.owned.Rec.{Rec}
use Rattle.mcap_model.specs.declared.ends.End.{End}
use Rattle.feed_lane.specs.Lanes.{lacks_of}
use Rattle.recorder.specs.Assembled.{LanePart, LanePartStands, Assembled}
use Rattle.recorder.specs.Laws.{IdsHadRunOut}
use Rattle.recorder.proofs.Collecting.{partner}

pub ids_had_run_out : IdsHadRunOut
ids_had_run_out limit lanes history end it k lane at = λ n refusal at_r.
    let stands : LanePartStands limit history it.swaps end lane = it.stand k lane at in
    let (lack, at_l) = partner lane.pass.lacks (lacks_of lane.lists.refused) n refusal (sym stands.fits.lacks.0) at_r in
    let is = stands.fits.lacks.1 n refusal lack at_r at_l in
    record { lack = lack; cause = is.0; channel = is.1; there = stands.shown.lacks n lack at_l; between = stands.fits.lacks_between.1 n refusal lack at_r at_l }
