use Rattle.std.proofs.Common.{map, ap}
use Rattle.chunk_writer.specs.declared.scribe.Scribe.{Scribe}
use Rattle.chunk_writer.specs.Scribes.{store_of}
use Rattle.live_recording.proofs.Told.{reported_by, tape_beside}
use Rattle.live_recording.proofs.beside.run_and_seal.Goals as goal

pub returns-clause-recorded : goal.returns-clause-recorded
returns-clause-recorded g c = λ opened stands still.
    let state = g.L.LiveStore.state in
    let source = g.S.Source.state in
    let options = c.args.options.now in
    let ran = c.run_onto-report in
    let it = ran.ensures.recorded in
    let w = it.written in
    tape_beside {X = g.row.L-Extent.Denot} state (λ e. g.L.Extent.Extent.tells e) options (map source c.args.feeds.items) (map source ran.result.feeds.items) opened (store_of c.seal-note.new.self.scribe) ran.result.report c.seal-note.result
    (λ e. g.L.Extent.Extent.size e) _ _ _ it.history w.entries w.closing c.requires.unused.empty w.grown.2 w.ended.1 stands c.requires.going still c.requires.profile
    (reported_by options _ _ _ _ it.history ran.result.report c.requires.limit c.requires.lossless it.reported) it.all (ap (λ (s : Scribe _). store_of s) c.seal-note.ensures.scribe) _ c.seal-note.ensures.seals
