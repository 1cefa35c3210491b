use Rattle.std.proofs.Common.{Global, sym, subst, ◌∙◌, arith}
use Rattle.summary_read.specs.PartSteps.{ListsParts}
use Rattle.summary_read.specs.Steps.{AreCut}
use Rattle.summary_read.proofs.Composing.{part_is, refused_inside, loaded, asked_for}
use Rattle.summary_read.proofs.loading.load.Goals as goal

pub returns-in-Err-read_header-clause-asks : goal.returns-in-Err-read_header-clause-asks
returns-in-Err-read_header-clause-asks g c = λ file told.
    let told_1 = c.in-Ok.ensures.bytes ∙ told in
    let size = sym (c.in-Ok.ensures.tells file told) in
    let names = c.in-Ok-find_footer.ensures.judged file told_1 size in
    let told_2 = c.in-Ok-find_footer.ensures.takes.bytes ∙ told_1 in
    asked_for file c.in-Ok-find_footer.footer (g.T.Store.state c.args.store.now).asked (g.T.Store.state c.find_footer.new.store).asked (g.T.Store.state c.read_header.new.store).asked (g.T.Store.state c.read_header.new.store).asked c.in-Ok.len names size (omega (arith, c.in-Ok.ensures.asked, c.in-Ok-find_footer.ensures.asks)) (c.in-Err-read_header.ensures.asks file told_2 size names.some) (omega arith)

pub returns-in-Err-take_part-clause-asks : goal.returns-in-Err-take_part-clause-asks
returns-in-Err-take_part-clause-asks g c = λ file told.
    let told_1 = c.in-Ok.ensures.bytes ∙ told in
    let size = sym (c.in-Ok.ensures.tells file told) in
    let names = c.in-Ok-find_footer.ensures.judged file told_1 size in
    let told_2 = c.in-Ok-find_footer.ensures.takes.bytes ∙ told_1 in
    asked_for file c.in-Ok-find_footer.footer (g.T.Store.state c.args.store.now).asked (g.T.Store.state c.find_footer.new.store).asked (g.T.Store.state c.read_header.new.store).asked (g.T.Store.state c.take_part.new.store).asked c.in-Ok.len names size (omega (arith, c.in-Ok.ensures.asked, c.in-Ok-find_footer.ensures.asks)) (c.in-Ok-read_header.ensures.asks file told_2 size names.some) c.in-Err-take_part.ensures.takes.asked

pub returns-in-Err-cut_records-clause-loads : goal.returns-in-Err-cut_records-clause-loads
returns-in-Err-cut_records-clause-loads g c = λ file told.
    let told_1 = c.in-Ok.ensures.bytes ∙ told in
    let size = sym (c.in-Ok.ensures.tells file told) in
    let names = c.in-Ok-find_footer.ensures.judged file told_1 size in
    let told_2 = c.in-Ok-find_footer.ensures.takes.bytes ∙ told_1 in
    let told_3 = c.in-Ok-read_header.ensures.takes.bytes ∙ told_2 in
    let part = part_is file c.in-Ok-take_part.summary.items c.in-Ok.len c.in-Ok-find_footer.footer.summary_start size (c.in-Ok-take_part.ensures.given.1 file told_3) in
    let has = c.in-Ok-read_header.ensures.judged file told_2 size names.some in
    refused_inside Global file c.deref.result.now c.in-Ok-find_footer.footer c.in-Err-cut_records.why has.v1 names (c.deref.ensures.value ∙ part) c.in-Err-cut_records.ensures.cut

pub returns-in-Err-cut_records-clause-asks : goal.returns-in-Err-cut_records-clause-asks
returns-in-Err-cut_records-clause-asks g c = λ file told.
    let told_1 = c.in-Ok.ensures.bytes ∙ told in
    let size = sym (c.in-Ok.ensures.tells file told) in
    let names = c.in-Ok-find_footer.ensures.judged file told_1 size in
    let told_2 = c.in-Ok-find_footer.ensures.takes.bytes ∙ told_1 in
    asked_for file c.in-Ok-find_footer.footer (g.T.Store.state c.args.store.now).asked (g.T.Store.state c.find_footer.new.store).asked (g.T.Store.state c.read_header.new.store).asked (g.T.Store.state c.take_part.new.store).asked c.in-Ok.len names size (omega (arith, c.in-Ok.ensures.asked, c.in-Ok-find_footer.ensures.asks)) (c.in-Ok-read_header.ensures.asks file told_2 size names.some) c.in-Ok-take_part.ensures.takes.asked

pub returns-in-Ok-list_records-clause-loads : goal.returns-in-Ok-list_records-clause-loads
returns-in-Ok-list_records-clause-loads g c = λ file told.
    let told_1 = c.in-Ok.ensures.bytes ∙ told in
    let size = sym (c.in-Ok.ensures.tells file told) in
    let names = c.in-Ok-find_footer.ensures.judged file told_1 size in
    let told_2 = c.in-Ok-find_footer.ensures.takes.bytes ∙ told_1 in
    let told_3 = c.in-Ok-read_header.ensures.takes.bytes ∙ told_2 in
    let part = part_is file c.in-Ok-take_part.summary.items c.in-Ok.len c.in-Ok-find_footer.footer.summary_start size (c.in-Ok-take_part.ensures.given.1 file told_3) in
    let has = c.in-Ok-read_header.ensures.judged file told_2 size names.some in
    let header = c.in-Ok-read_header.header.items in
    let summary = c.in-Ok-take_part.summary.items in
    let cuts = c.in-Ok-cut_records.cuts.items in
    let cut = subst (λ l. AreCut l cuts) c.deref.ensures.value c.in-Ok-cut_records.ensures.cut in
    let listed = subst (λ l. ListsParts header c.in-Ok-find_footer.footer summary l c.in-Ok-list_records.loaded) c.deref-2.ensures.value c.in-Ok-list_records.ensures in
    (loaded file header summary c.in-Ok-find_footer.footer cuts c.in-Ok-list_records.loaded names has c.in-Ok-read_header.ensures.is part cut listed, names.some)

pub returns-in-Ok-list_records-clause-asks : goal.returns-in-Ok-list_records-clause-asks
returns-in-Ok-list_records-clause-asks g c = λ file told.
    let told_1 = c.in-Ok.ensures.bytes ∙ told in
    let size = sym (c.in-Ok.ensures.tells file told) in
    let names = c.in-Ok-find_footer.ensures.judged file told_1 size in
    let told_2 = c.in-Ok-find_footer.ensures.takes.bytes ∙ told_1 in
    asked_for file c.in-Ok-find_footer.footer (g.T.Store.state c.args.store.now).asked (g.T.Store.state c.find_footer.new.store).asked (g.T.Store.state c.read_header.new.store).asked (g.T.Store.state c.take_part.new.store).asked c.in-Ok.len names size (omega (arith, c.in-Ok.ensures.asked, c.in-Ok-find_footer.ensures.asks)) (c.in-Ok-read_header.ensures.asks file told_2 size names.some) c.in-Ok-take_part.ensures.takes.asked

pub returns-in-Err-list_records-clause-asks : goal.returns-in-Err-list_records-clause-asks
returns-in-Err-list_records-clause-asks g c = λ file told.
    let told_1 = c.in-Ok.ensures.bytes ∙ told in
    let size = sym (c.in-Ok.ensures.tells file told) in
    let names = c.in-Ok-find_footer.ensures.judged file told_1 size in
    let told_2 = c.in-Ok-find_footer.ensures.takes.bytes ∙ told_1 in
    asked_for file c.in-Ok-find_footer.footer (g.T.Store.state c.args.store.now).asked (g.T.Store.state c.find_footer.new.store).asked (g.T.Store.state c.read_header.new.store).asked (g.T.Store.state c.take_part.new.store).asked c.in-Ok.len names size (omega (arith, c.in-Ok.ensures.asked, c.in-Ok-find_footer.ensures.asks)) (c.in-Ok-read_header.ensures.asks file told_2 size names.some) c.in-Ok-take_part.ensures.takes.asked
