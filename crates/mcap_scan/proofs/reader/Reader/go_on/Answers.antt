use Rattle.std.proofs.Common.{List, ℕ, sym, ap, subst}
use Rattle.mcap_io.specs.Rooms.{held_in}
use Rattle.mcap_model.specs.Tops.{Top, flat}
use Rattle.mcap_model.specs.Rules.{HasDataEnd}
use Rattle.mcap_model.specs.declared.tables.Tables.{Tables}
use Rattle.mcap_model.specs.Made.{top}
use Rattle.mcap_model.specs.Declarations.{TablesOf}
use Rattle.mcap_model.specs.Judging.{JudgedAs}
use Rattle.mcap_scan.proofs.Scanning.{moved, record_refused, stepped, refused_step, some_tops}
use Rattle.mcap_scan.proofs.reader.Reader.go_on.Goals as goal

pub returns-in-Err-clause-steps : goal.returns-in-Err-clause-steps
returns-in-Err-clause-steps g c = λ before tops was.
    refused_step c.stop.new.self before (g.S.Source.state c.take_record.new.source) tops c.in-Err.why c.stop.result c.stop.ensures.step c.stop.ensures.stage
    (record_refused c.args.self.now.tables c.args.self.now.offset before (g.S.Source.state c.args.source.now) (g.S.Source.state c.take_record.new.source) tops c.in-Err.why was.reading c.in-Err.ensures.cause c.in-Err.ensures.taken)

pub returns-in-Ok-clause-steps : goal.returns-in-Ok-clause-steps
returns-in-Ok-clause-steps g c = λ before tops was.
    let content = held_in c.take_record.new.room in
    let judge : JudgedAs tops (top c.in-Ok.op c.as_slice.result.now) c.judge-judged.new.tables c.judge-judged.result =
    some_tops (λ (l : List Top). (HasDataEnd l → ⊥) → TablesOf (flat l) c.args.self.now.tables → JudgedAs l (top c.in-Ok.op c.as_slice.result.now) c.judge-judged.new.tables c.judge-judged.result) tops was.some
    (λ first more. c.judge-judged.ensures first more) was.reading.unended was.reading.tables_are in
    let there : JudgedAs tops (top c.in-Ok.op content) c.give.new.self.tables c.judge-judged.result =
    subst (λ (l : List ℕ). JudgedAs tops (top c.in-Ok.op l) c.give.new.self.tables c.judge-judged.result) c.as_slice.ensures
    (subst (λ (t : Tables). JudgedAs tops (top c.in-Ok.op c.as_slice.result.now) t c.judge-judged.result) (sym c.give.ensures.tables) judge) in
    stepped c.give.new.self c.args.self.now.tables c.args.self.now.offset before (g.S.Source.state c.args.source.now) (g.S.Source.state c.take_record.new.source) tops c.in-Ok.op content c.judge-judged.result c.refused_at-refused.result c.give.result
    was.reading c.in-Ok.ensures.cause c.in-Ok.ensures.taken c.in-Ok.ensures.takable there c.refused_at-refused.ensures c.give.ensures.given (ap held_in c.give.ensures.room)

pub returns-in-Ok-clause-moves : goal.returns-in-Ok-clause-moves
returns-in-Ok-clause-moves g c = moved c.args.self.now.offset c.in-Ok.op _ c.give.new.self.offset c.give.new.self.stage c.refused_at-refused.result c.give.result c.in-Ok.ensures.takable c.give.ensures.given
