use Rattle.std.proofs.Common.{Result, Ok, sym, subst, ◌∙◌, arith}
use Rattle.index_check.specs.declared.section.Section.{Section}
use Rattle.file_check.specs.declared.flaws.FailedRule.{FailedRule}
use Rattle.file_check.specs.Reading.{ReadsSection}
use Rattle.file_check.specs.Checking.{IsSo}
use Rattle.file_check.specs.CheckSteps.{checked_front, SectionAsks}
use Rattle.file_check.proofs.Fronted.{told_cause}
use Rattle.file_check.proofs.Lacked.{refused_lack}
use Rattle.file_check.specs.CutFiles.{NamesCut}
use Rattle.file_check.proofs.Refusing.{lacks_last, index_read_cut}
use Rattle.file_check.proofs.CutTold.{end_told, index_is_told}
use Rattle.file_check.proofs.unended.check_unended.Goals as goal

pub returns-in-Ok-Ok-clause-tells : goal.returns-in-Ok-Ok-clause-tells
returns-in-Ok-Ok-clause-tells g c = λ file told ended. subst (IsSo file) (sym c.lacks_end-behind.ensures) (lacks_last file c.args.len ended)

pub returns-in-Ok-Err-clause-tells : goal.returns-in-Ok-Err-clause-tells
returns-in-Ok-Err-clause-tells g c = λ file told ended.
    let old = g.T.Store.state c.args.store.now in
    let reads = c.in-Ok-Err.ensures.reads in
    let wrong = subst (λ (r : Result Section FailedRule). ReadsSection (checked_front old c.args.len) reads.0 (Ok r)) c.in-Ok-Err.field-0-is reads.1 in
    index_read_cut old reads.0 file c.args.len c.in-Ok-Err.failed wrong.0 told ended wrong.1

pub returns-in-Ok-Ok-clause-asks : goal.returns-in-Ok-Ok-clause-asks
returns-in-Ok-Ok-clause-asks g c = λ file told long.
    let asks = subst (λ (r : Result Section FailedRule). SectionAsks (g.T.Store.state c.args.store.now) c.args.len (g.T.Store.state c.read_front.new.store).asked (Ok r)) c.in-Ok-Ok.field-0-is c.in-Ok-Ok.ensures.asks in
    let front = asks file told long in
    omega (arith, front.0, front.1)

pub returns-in-Ok-Err-clause-asks : goal.returns-in-Ok-Err-clause-asks
returns-in-Ok-Err-clause-asks g c = λ file told long.
    let asks = subst (λ (r : Result Section FailedRule). SectionAsks (g.T.Store.state c.args.store.now) c.args.len (g.T.Store.state c.read_front.new.store).asked (Ok r)) c.in-Ok-Err.field-0-is c.in-Ok-Err.ensures.asks in
    omega (arith, asks)

pub returns-in-Err-clause-tells : goal.returns-in-Err-clause-tells
returns-in-Err-clause-tells g c = λ file told ended.
    let reads = c.in-Err.ensures.reads in
    let keeps = c.in-Err.ensures.keeps in
    c.tell_refusal.ensures.tells (g.T.Store.state c.args.store.now) reads.0 (sym keeps.bytes) reads.1 file (keeps.bytes ∙ told) ended

pub returns-in-Err-clause-cause : goal.returns-in-Err-clause-cause
returns-in-Err-clause-cause g c = told_cause _ _ _ c.in-Err.why c.tell_refusal.result c.in-Err.ensures.cause c.tell_refusal.ensures.cause

pub returns-in-Err-clause-asks : goal.returns-in-Err-clause-asks
returns-in-Err-clause-asks g c = λ file told long. omega (arith, c.in-Err.ensures.asks, c.tell_refusal.ensures.asks)

pub returns-in-Ok-Ok-clause-cut : goal.returns-in-Ok-Ok-clause-cut
returns-in-Ok-Ok-clause-cut g c = λ file told size.
    let old = g.T.Store.state c.args.store.now in
    let reads = c.in-Ok-Ok.ensures.reads in
    let read = subst (λ (r : Result Section FailedRule). ReadsSection (checked_front old c.args.len) reads.0 (Ok r)) c.in-Ok-Ok.field-0-is reads.1 in
    subst (λ v. NamesCut file (Ok v)) (sym c.lacks_end-behind.ensures) (end_told old reads.0 file c.args.len _ told size read)

pub returns-in-Ok-Err-clause-cut : goal.returns-in-Ok-Err-clause-cut
returns-in-Ok-Err-clause-cut g c = λ file told size.
    let old = g.T.Store.state c.args.store.now in
    let reads = c.in-Ok-Err.ensures.reads in
    let wrong = subst (λ (r : Result Section FailedRule). ReadsSection (checked_front old c.args.len) reads.0 (Ok r)) c.in-Ok-Err.field-0-is reads.1 in
    index_is_told old reads.0 file c.args.len c.in-Ok-Err.failed wrong.0 told size wrong.1

pub returns-in-Err-clause-cut : goal.returns-in-Err-clause-cut
returns-in-Err-clause-cut g c = λ file told size.
    let reads = c.in-Err.ensures.reads in
    let keeps = c.in-Err.ensures.keeps in
    c.tell_refusal.ensures.cut (g.T.Store.state c.args.store.now) reads.0 (sym keeps.bytes) reads.1 file (keeps.bytes ∙ told) size

pub returns-in-Err-clause-lacks : goal.returns-in-Err-clause-lacks
returns-in-Err-clause-lacks g c = λ is file told long.
    let lacks = c.tell_refusal.ensures.lacks is in
    refused_lack (g.T.Store.state c.args.store.now) c.args.len (g.T.Store.state c.read_front.new.store).asked (g.T.Store.state c.tell_refusal.new.store).asked file c.in-Err.why lacks.0 lacks.1 c.in-Err.ensures.lacks told long
