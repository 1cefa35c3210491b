use Rattle.std.proofs.Common.{[], map, refl, ◌∙◌}
use Rattle.recorder.proofs.Filing.{reported_so, listed_so, zip_same, onto_scribe, onto_nothing}
use Rattle.recorder.proofs.recording.record.Goals as goal

-- nothing was read
pub returns-in-Err-clause-stays : goal.returns-in-Err-clause-stays
returns-in-Err-clause-stays g c = rw c.refused.ensures (zip_same g.S.Source.stays g.S.Source.stays_so _)

pub returns-in-Err-make_ready-clause-stays : goal.returns-in-Err-make_ready-clause-stays
returns-in-Err-make_ready-clause-stays g c = rw c.refused-in-Err-make_ready.ensures (zip_same g.S.Source.stays g.S.Source.stays_so _)

pub returns-in-Ok-open-clause-recorded : goal.returns-in-Ok-open-clause-recorded
returns-in-Ok-open-clause-recorded g c = λ r is.
    let state = g.L.LiveStore.state in
    let source = g.S.Source.state in
    let ran = c.run_onto-ran in
    let it = ran.ensures.recorded in
    let ready = c.in-Ok-make_ready.ensures in
    let limit = ready.limit ∙ c.in-Ok.ensures.turn.1 in
    onto_scribe {X = g.row.L-Extent.Denot} state (λ e. g.L.Extent.Extent.tells e) (λ e. g.L.Extent.Extent.size e) c.args.options.now (map source c.args.feeds.items) (map source ran.result.feeds.items) (state c.args.live) c.in-Ok-open.tape ran.result.tape c.into_store.result
    it.history ran.result.report r is c.into_store.ensures c.in-Ok-open.ensures.stands c.in-Ok-open.ensures.goes_on c.in-Ok-open.ensures.still
    (reported_so _ _ _ _ _ _ _ it.history ran.result.report limit ready.lossless refl it.reported) it.written it.all

pub returns-in-Err-open-clause-recorded : goal.returns-in-Err-open-clause-recorded
returns-in-Err-open-clause-recorded g c = λ r is.
    let state = g.L.LiveStore.state in
    let source = g.S.Source.state in
    let ran = c.run_unopened-unwritten in
    let ready = c.in-Ok-make_ready.ensures in
    let limit = ready.limit ∙ c.in-Ok.ensures.turn.1 in
    onto_nothing state c.args.options.now (map source c.args.feeds.items) (map source ran.result.feeds.items) (state c.args.live) c.in-Err-open.live c.in-Err-open.stop ran.result.report r is
    (reported_so _ _ _ _ _ _ _ [] ran.result.report limit ready.lossless refl ran.ensures.reported) ran.ensures.writer (c.in-Err-open.ensures.refused [] []) c.in-Err-open.ensures.cause

pub returns-in-Ok-open-clause-listed : goal.returns-in-Ok-open-clause-listed
returns-in-Ok-open-clause-listed g c = λ r is. let ran = c.run_onto-ran in listed_so c.args.listed ran.result.report r is ran.ensures.listed

pub returns-in-Err-open-clause-listed : goal.returns-in-Err-open-clause-listed
returns-in-Err-open-clause-listed g c = λ r is. let ran = c.run_unopened-unwritten in listed_so c.args.listed ran.result.report r is ran.ensures.listed
