use Rattle.std.proofs.Common.{[], map}
use Rattle.chunk_writer.specs.Scribes.{store_of}
use Rattle.recorder.specs.Recorded.{sides}
use Rattle.live_recording.proofs.Told.{reported_by, over_store, nothing_beside}
use Rattle.live_recording.proofs.beside.write_beside.Goals as goal

pub returns-in-Ok-clause-recorded : goal.returns-in-Ok-clause-recorded
returns-in-Ok-clause-recorded g c =
    let state = g.L.LiveStore.state in
    let source = g.S.Source.state in
    let opened = c.in-Ok.ensures in
    let ran = c.run_and_seal-report in
    over_store {X = g.row.L-Extent.Denot} state (λ e. g.L.Extent.Extent.tells e) c.args.options.now (sides (map source c.args.feeds.items) (state c.args.live)) (map source ran.result.feeds.items) ran.result.report ran.result.note _
    c.into_store-live.result (store_of ran.result.tape.scribe) c.into_store-live.ensures (ran.ensures.recorded (state c.args.live) opened.stands opened.still)

pub returns-in-Err-clause-recorded : goal.returns-in-Err-clause-recorded
returns-in-Err-clause-recorded g c =
    let state = g.L.LiveStore.state in
    let source = g.S.Source.state in
    let options = c.args.options.now in
    let opened = c.in-Err.ensures in
    let ran = c.run_unopened-report in (
      _,
      nothing_beside {X = g.row.L-Extent.Denot} state (λ e. g.L.Extent.Extent.tells e) options (map source c.args.feeds.items) (map source ran.result.feeds.items) (state c.args.live) c.in-Err.live ran.result.report ran.result.note
          c.in-Err.why c.requires.profile (reported_by options _ _ _ _ [] ran.result.report c.requires.limit c.requires.lossless ran.ensures.reported) ran.ensures.writer (opened.refused [] []) opened.cause
          c.args.directory.now ran.new.directory c.requires.empty ran.ensures.seals,
    )
