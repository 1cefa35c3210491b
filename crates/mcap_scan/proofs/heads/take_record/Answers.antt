use Rattle.std.proofs.Common.{◌∙◌, sym, arith}
use Rattle.mcap_io.specs.Rooms.{held_in}
use Rattle.mcap_scan.proofs.Taking.{beyond_there, content_short, content_refused, record_taken}
use Rattle.mcap_scan.proofs.heads.take_record.Goals as goal

pub returns-then-is_beyond-clause-taken : goal.returns-then-is_beyond-clause-taken
returns-then-is_beyond-clause-taken g c = λ rest told.
    beyond_there rest _ c.args.offset _ _ (c.in-Ok.ensures.taken rest told) (sym c.is_beyond.ensures ∙ c.if-is_beyond.true)

pub returns-in-Err-read_up_to-clause-taken : goal.returns-in-Err-read_up_to-clause-taken
returns-in-Err-read_up_to-clause-taken g c = λ rest told.
    content_refused rest c.args.offset _ _ _ _ (held_in c.read_up_to.new.self) _ _ _ (c.in-Ok.ensures.taken rest told) (sym c.is_beyond.ensures ∙ c.if-is_beyond.false) c.in-Err-read_up_to.ensures.taken c.refused.ensures

pub returns-then-len-head-clause-taken : goal.returns-then-len-head-clause-taken
returns-then-len-head-clause-taken g c = λ rest told.
    let head = c.in-Ok.ensures.taken rest told in
    let content = c.in-Ok-read_up_to.ensures.taken head.after head.left_after in
    content_short rest (held_in c.read_up_to.new.self) _ _ c.args.offset _ _ head (sym c.is_beyond.ensures ∙ c.if-is_beyond.false) content.given content.after (omega arith)

pub returns-clause-taken : goal.returns-clause-taken
returns-clause-taken g c = λ rest told.
    let head = c.in-Ok.ensures.taken rest told in
    let content = c.in-Ok-read_up_to.ensures.taken head.after head.left_after in
    record_taken rest (held_in c.read_up_to.new.self) _ _ _ _ head content.given content.after (omega arith) (omega arith)
