use Rattle.std.proofs.Common.{◌∙◌, subst}
use Rattle.mcap_wire.specs.Reading.{HeadFails}
use Rattle.mcap_scan.proofs.Taking.{head_taken, head_refused, head_short, head_zero}
use Rattle.mcap_scan.proofs.heads.take_head.Goals as goal

pub returns-in-Err-clause-taken : goal.returns-in-Err-clause-taken
returns-in-Err-clause-taken g c = λ rest told.
    head_refused rest c.args.offset (g.S.Source.state c.args.source.now) (g.S.Source.state c.read_up_to.new.source) c.read_up_to.new.buffer.items _ _ _ told c.in-Err.ensures.taken c.in-Err.ensures.unread c.refused.ensures

pub returns-in-Ok-take_head-clause-taken : goal.returns-in-Ok-take_head-clause-taken
returns-in-Ok-take_head-clause-taken g c = λ rest told.
    let t = c.in-Ok.ensures.taken rest told in
    head_taken rest c.deref.result.now _ _ _ (c.deref.ensures.value ∙ t.given) t.after c.in-Ok-take_head.ensures

pub returns-in-Err-Short-clause-taken : goal.returns-in-Err-Short-clause-taken
returns-in-Err-Short-clause-taken g c = λ rest told.
    let t = c.in-Ok.ensures.taken rest told in
    head_short rest c.deref.result.now c.args.offset _ (c.deref.ensures.value ∙ t.given) t.after (subst (HeadFails c.deref.result.now 0) c.in-Err-Short.field-0-is c.in-Err-Short.ensures)

pub returns-in-Err-ZeroOp-clause-taken : goal.returns-in-Err-ZeroOp-clause-taken
returns-in-Err-ZeroOp-clause-taken g c = λ rest told.
    let t = c.in-Ok.ensures.taken rest told in
    head_zero rest c.deref.result.now c.args.offset _ (c.deref.ensures.value ∙ t.given) t.after (subst (HeadFails c.deref.result.now 0) c.in-Err-ZeroOp.field-0-is c.in-Err-ZeroOp.ensures)
