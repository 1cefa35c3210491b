use Rattle.std.proofs.Common.{Result, Ok, inl, sym, subst, ◌∙◌, arith}
use Rattle.index_check.specs.declared.section.Section.{Section}
use Rattle.file_check.specs.declared.flaws.FailedRule.{FailedRule}
use Rattle.file_check.specs.Reading.{ReadsSection}
use Rattle.file_check.specs.CheckSteps.{checked_front, SectionAsks}
use Rattle.file_check.proofs.Refusing.{front_is, index_read}
use Rattle.file_check.proofs.Fronted.{told_cause}
use Rattle.file_check.proofs.Lacked.{section_right, refused_lack}
use Rattle.file_check.proofs.checking.check_records.Goals as goal

pub returns-in-Ok-Ok-clause-tells : goal.returns-in-Ok-Ok-clause-tells
returns-in-Ok-Ok-clause-tells g c = λ file told ended.
    let old = g.T.Store.state c.args.store.now in
    let reads = c.in-Ok-Ok.ensures.reads in
    let keeps = c.in-Ok-Ok.ensures.keeps in
    let read = subst (λ (r : Result Section FailedRule). ReadsSection (checked_front old c.args.end) reads.0 (Ok r)) c.in-Ok-Ok.field-0-is reads.1 in
    c.judge_behind.ensures.tells file (keeps.bytes ∙ told) ended (front_is old reads.0 file c.args.end c.in-Ok-Ok.section told read)

pub returns-in-Ok-Err-clause-tells : goal.returns-in-Ok-Err-clause-tells
returns-in-Ok-Err-clause-tells g c = λ file told ended.
    let old = g.T.Store.state c.args.store.now in
    let reads = c.in-Ok-Err.ensures.reads in
    let wrong = subst (λ (r : Result Section FailedRule). ReadsSection (checked_front old c.args.end) reads.0 (Ok r)) c.in-Ok-Err.field-0-is reads.1 in
    index_read old reads.0 file c.args.end c.in-Ok-Err.failed wrong.0 told ended wrong.1

pub returns-in-Err-clause-tells : goal.returns-in-Err-clause-tells
returns-in-Err-clause-tells g c = λ file told ended.
    let reads = c.in-Err.ensures.reads in
    let keeps = c.in-Err.ensures.keeps in
    c.tell_refusal.ensures.tells (g.T.Store.state c.args.store.now) reads.0 (sym keeps.bytes) reads.1 file (keeps.bytes ∙ told) ended

pub returns-in-Err-clause-cause : goal.returns-in-Err-clause-cause
returns-in-Err-clause-cause g c = told_cause _ _ _ c.in-Err.why c.tell_refusal.result c.in-Err.ensures.cause c.tell_refusal.ensures.cause

pub returns-in-Ok-Ok-clause-asks : goal.returns-in-Ok-Ok-clause-asks
returns-in-Ok-Ok-clause-asks g c = λ file told long.
    let asks = subst (λ (r : Result Section FailedRule). SectionAsks (g.T.Store.state c.args.store.now) c.args.end (g.T.Store.state c.read_front.new.store).asked (Ok r)) c.in-Ok-Ok.field-0-is c.in-Ok-Ok.ensures.asks in
    let front = asks file told long in
    omega (arith, front.0, front.1, c.judge_behind.ensures.asks)

pub returns-in-Err-clause-asks : goal.returns-in-Err-clause-asks
returns-in-Err-clause-asks g c = λ file told long. omega (arith, c.in-Err.ensures.asks, c.tell_refusal.ensures.asks)

pub returns-in-Ok-Err-clause-asks : goal.returns-in-Ok-Err-clause-asks
returns-in-Ok-Err-clause-asks g c = λ file told long.
    let asks = subst (λ (r : Result Section FailedRule). SectionAsks (g.T.Store.state c.args.store.now) c.args.end (g.T.Store.state c.read_front.new.store).asked (Ok r)) c.in-Ok-Err.field-0-is c.in-Ok-Err.ensures.asks in
    omega (arith, asks)

pub returns-in-Ok-Ok-clause-lacks : goal.returns-in-Ok-Ok-clause-lacks
returns-in-Ok-Ok-clause-lacks g c = λ is file told long.
    let old = g.T.Store.state c.args.store.now in
    let reads = c.in-Ok-Ok.ensures.reads in
    let read = subst (λ (r : Result Section FailedRule). ReadsSection (checked_front old c.args.end) reads.0 (Ok r)) c.in-Ok-Ok.field-0-is reads.1 in
    inl (section_right file c.args.end c.in-Ok-Ok.section (front_is old reads.0 file c.args.end c.in-Ok-Ok.section told read))

pub returns-in-Err-clause-lacks : goal.returns-in-Err-clause-lacks
returns-in-Err-clause-lacks g c = λ is file told long.
    let lacks = c.tell_refusal.ensures.lacks is in
    refused_lack (g.T.Store.state c.args.store.now) c.args.end (g.T.Store.state c.read_front.new.store).asked (g.T.Store.state c.tell_refusal.new.store).asked file c.in-Err.why lacks.0 lacks.1 c.in-Err.ensures.lacks told long
