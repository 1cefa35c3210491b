use Rattle.std.proofs.Common.{[], List, ℕ, sym, ap, subst}
use Rattle.mcap_io.specs.Rooms.{held_in}
use Rattle.mcap_model.specs.Tops.{Top}
use Rattle.mcap_model.specs.Made.{top}
use Rattle.mcap_model.specs.Declarations.{TablesOf}
use Rattle.mcap_model.specs.Judging.{FirstJudged}
use Rattle.mcap_model.proofs.TakenRecords.{first_by}
use Rattle.mcap_scan.specs.Scanning.{Advanced}
use Rattle.mcap_scan.proofs.Scanning.{moved, magic_refused, magic_taken, record_refused, stepped, refused_step}
use Rattle.mcap_scan.proofs.reader.Reader.begin.Goals as goal

pub returns-in-Err-clause-steps : goal.returns-in-Err-clause-steps
returns-in-Err-clause-steps g c = λ before tops was.
    refused_step c.stop.new.self before (g.S.Source.state c.take_magic.new.source) tops c.in-Err.why c.stop.result c.stop.ensures.step c.stop.ensures.stage
    (magic_refused c.args.self.now.tables c.args.self.now.offset before (g.S.Source.state c.args.source.now) (g.S.Source.state c.take_magic.new.source) tops c.in-Err.why was c.in-Err.ensures.cause c.in-Err.ensures.taken)

pub returns-in-Ok-take_record-clause-steps : goal.returns-in-Ok-take_record-clause-steps
returns-in-Ok-take_record-clause-steps g c = λ before tops was.
    let reading = magic_taken c.args.self.now.tables c.args.self.now.offset before (g.S.Source.state c.args.source.now) (g.S.Source.state c.take_magic.new.source) tops was c.in-Ok.ensures.cause c.in-Ok.ensures.taken in
    let content = held_in c.take_record.new.room in
    let first : FirstJudged (top c.in-Ok-take_record.op content) c.judge_first-judged.result = subst (λ (l : List ℕ). FirstJudged (top c.in-Ok-take_record.op l) c.judge_first-judged.result) c.as_slice.ensures c.judge_first-judged.ensures in
    let there = first_by c.in-Ok-take_record.op content c.give.new.self.tables c.judge_first-judged.result first (subst (TablesOf []) (sym c.give.ensures.tables) was.tables_are) in
    subst (λ (l : List Top). Advanced c.give.new.self before (g.S.Source.state c.take_record.new.source) l c.give.result) (sym was.none)
    (stepped c.give.new.self c.args.self.now.tables c.args.self.now.offset before (g.S.Source.state c.take_magic.new.source) (g.S.Source.state c.take_record.new.source) [] c.in-Ok-take_record.op content c.judge_first-judged.result c.refused_at-refused.result c.give.result
    reading c.in-Ok-take_record.ensures.cause c.in-Ok-take_record.ensures.taken c.in-Ok-take_record.ensures.takable there c.refused_at-refused.ensures c.give.ensures.given (ap held_in c.give.ensures.room))

pub returns-in-Err-take_record-clause-steps : goal.returns-in-Err-take_record-clause-steps
returns-in-Err-take_record-clause-steps g c = λ before tops was.
    let reading = magic_taken c.args.self.now.tables c.args.self.now.offset before (g.S.Source.state c.args.source.now) (g.S.Source.state c.take_magic.new.source) tops was c.in-Ok.ensures.cause c.in-Ok.ensures.taken in
    subst (λ (l : List Top). Advanced c.stop-in-Err-take_record.new.self before (g.S.Source.state c.take_record.new.source) l c.stop-in-Err-take_record.result) (sym was.none)
    (refused_step c.stop-in-Err-take_record.new.self before (g.S.Source.state c.take_record.new.source) [] c.in-Err-take_record.why c.stop-in-Err-take_record.result c.stop-in-Err-take_record.ensures.step c.stop-in-Err-take_record.ensures.stage
    (record_refused c.args.self.now.tables c.args.self.now.offset before (g.S.Source.state c.take_magic.new.source) (g.S.Source.state c.take_record.new.source) [] c.in-Err-take_record.why reading c.in-Err-take_record.ensures.cause c.in-Err-take_record.ensures.taken))

pub returns-in-Ok-take_record-clause-moves : goal.returns-in-Ok-take_record-clause-moves
returns-in-Ok-take_record-clause-moves g c = moved c.args.self.now.offset c.in-Ok-take_record.op _ c.give.new.self.offset c.give.new.self.stage c.refused_at-refused.result c.give.result c.in-Ok-take_record.ensures.takable c.give.ensures.given
