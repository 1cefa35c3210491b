-- An extra was appended, or refused.
use Rattle.std.proofs.Common.{◌∙◌}
use Rattle.chunk_writer.proofs.Stopping.{added_err}
use Rattle.chunk_writer.proofs.Writing.{fills_more, extra_stopped, extra_not_appended}
use Rattle.chunk_writer.proofs.scribe.Scribe.append_extra.Goals as goal

pub returns-in-Ok-append-clause-fills : goal.returns-in-Ok-append-clause-fills
returns-in-Ok-append-clause-fills g c = λ t is options extras opened history fills.
    let spelled = c.get-extra.ensures.value ∙ is in
    fills_more options extras t opened.held _ _ history c.args.self.now.plan c.note_extra.new.self c.get-extra.result.now spelled (c.in-Ok.ensures.ok t spelled options extras history fills.filled) c.in-Ok-append.ensures.appends.0 fills

pub returns-in-Err-append-clause-refused : goal.returns-in-Err-append-clause-refused
returns-in-Err-append-clause-refused g c = λ t is options extras behind opened history fills.
    let spelled = c.get-extra.ensures.value ∙ is in
    extra_not_appended options extras t behind opened.held (g.L.LiveStore.state c.args.self.now.store).held (g.L.LiveStore.state c.append.new.store).held history c.args.self.now.plan c.stop.new.self c.get-extra.result.now c.in-Err-append.stop _ _ spelled
    c.in-Ok.ensures.room c.blocks-blocks.ensures.value c.bytes-bytes.ensures.value c.stop.ensures
    (added_err {X = g.row.L-Extent.Denot} (λ e. g.L.Extent.Extent.tells e) (λ e. g.L.Extent.Extent.size e) (g.L.LiveStore.state c.args.self.now.store) (g.L.LiveStore.state c.append.new.store) c.get-extra.result.now
    c.in-Err-append.stop c.in-Err-append.ensures.appends) fills

pub returns-in-Err-clause-refused : goal.returns-in-Err-clause-refused
returns-in-Err-clause-refused g c = λ t is options extras behind opened history fills.
    let spelled = c.get-extra.ensures.value ∙ is in
    extra_stopped options extras t behind opened.held _ history c.args.self.now.plan c.note_extra.new.self c.get-extra.result.now c.in-Err.stop spelled c.in-Err.ensures.err c.in-Err.ensures.stopped fills
