use Rattle.std.proofs.Common.{List, [], length, subst}
use Rattle.mcap_model.specs.Tops.{Top}
use Rattle.index_check.specs.Tally.{TallyOf}
use Rattle.mcap_model.specs.Plain.{cut_top}
use Rattle.summary_read.specs.PartSteps.{cut_tops}
use Rattle.summary_check.specs.Filed.{records_of}
use Rattle.summary_check.proofs.Filing.{body_inside, filed_of, section_is, sectioned_ended, sectioned_kinds}
use Rattle.summary_check.proofs.Laying.{body_there}
use Rattle.summary_check.proofs.Summing.{told_whole, section_whole, tables_whole, judged_valid}
use Rattle.summary_check.proofs.judging.judge_cuts.Goals as goal

pub judge_kinds-requires : goal.judge_kinds-requires
judge_kinds-requires c = body_inside [] c.args.rest.now c.args.cuts.now c.args.foot.now c.requires.are

pub judge_declarations-requires : goal.judge_declarations-requires
judge_declarations-requires c = body_inside [] c.args.rest.now c.args.cuts.now c.args.foot.now c.requires.are

pub judge_indexes-requires : goal.judge_indexes-requires
judge_indexes-requires c = body_inside [] c.args.rest.now c.args.cuts.now c.args.foot.now c.requires.are

pub judge_statistics-requires : goal.judge_statistics-requires
judge_statistics-requires c = body_inside [] c.args.rest.now c.args.cuts.now c.args.foot.now c.requires.are

pub judge_offsets-requires : goal.judge_offsets-requires
judge_offsets-requires c = body_inside [] c.args.rest.now c.args.cuts.now c.args.foot.now c.requires.are

pub returns-in-Err-clause-err : goal.returns-in-Err-clause-err
returns-in-Err-clause-err c = λ tops is.
    let kept = is.kept in
    let rest = c.args.rest.now in
    let cuts = c.args.cuts.now in
    let foot = c.args.foot.now in
    let s = c.args.section.now in
    let filed = filed_of tops rest cuts foot c.requires.are s c.args.footer.now is c.requires.footer c.requires.fits in
    c.in-Err.ensures.err tops foot filed

pub returns-in-Err-judge_declarations-clause-err : goal.returns-in-Err-judge_declarations-clause-err
returns-in-Err-judge_declarations-clause-err c = λ tops is.
    let kept = is.kept in
    let rest = c.args.rest.now in
    let cuts = c.args.cuts.now in
    let foot = c.args.foot.now in
    let s = c.args.section.now in
    let filed = filed_of tops rest cuts foot c.requires.are s c.args.footer.now is c.requires.footer c.requires.fits in
    c.in-Err-judge_declarations.ensures.err tops foot filed kept.tables c.in-Ok.ensures.ok

pub returns-in-Err-judge_order-clause-err : goal.returns-in-Err-judge_order-clause-err
returns-in-Err-judge_order-clause-err c = λ tops is.
    let kept = is.kept in
    let rest = c.args.rest.now in
    let cuts = c.args.cuts.now in
    let foot = c.args.foot.now in
    let s = c.args.section.now in
    let filed = filed_of tops rest cuts foot c.requires.are s c.args.footer.now is c.requires.footer c.requires.fits in
    c.in-Err-judge_order.ensures.err tops rest foot filed

pub returns-in-Err-judge_indexes-clause-err : goal.returns-in-Err-judge_indexes-clause-err
returns-in-Err-judge_indexes-clause-err c = λ tops is.
    let kept = is.kept in
    let rest = c.args.rest.now in
    let cuts = c.args.cuts.now in
    let foot = c.args.foot.now in
    let s = c.args.section.now in
    let filed = filed_of tops rest cuts foot c.requires.are s c.args.footer.now is c.requires.footer c.requires.fits in
    let judged = c.in-Ok.ensures.ok in
    let told = told_whole tops rest cuts foot s is filed judged in
    c.in-Err-judge_indexes.ensures.err tops foot filed judged told

pub returns-in-Err-judge_statistics-clause-err : goal.returns-in-Err-judge_statistics-clause-err
returns-in-Err-judge_statistics-clause-err c = λ tops is.
    let kept = is.kept in
    let rest = c.args.rest.now in
    let cuts = c.args.cuts.now in
    let foot = c.args.foot.now in
    let s = c.args.section.now in
    let filed = filed_of tops rest cuts foot c.requires.are s c.args.footer.now is c.requires.footer c.requires.fits in
    let judged = c.in-Ok.ensures.ok in
    let declared = c.in-Ok-judge_declarations.ensures.ok tops kept.tables judged in
    let tally = c.count_ids.ensures tops kept.section (records_of tops rest cuts foot) kept.tally (section_whole tops rest cuts foot s is filed) (tables_whole tops rest cuts foot s is filed c.judge_declarations.new.tables declared.1) in
    c.in-Err-judge_statistics.ensures.err tops kept.section foot filed judged tally

pub returns-in-Err-judge_offsets-clause-err : goal.returns-in-Err-judge_offsets-clause-err
returns-in-Err-judge_offsets-clause-err c = λ tops is.
    let kept = is.kept in
    let rest = c.args.rest.now in
    let cuts = c.args.cuts.now in
    let foot = c.args.foot.now in
    let s = c.args.section.now in
    let filed = filed_of tops rest cuts foot c.requires.are s c.args.footer.now is c.requires.footer c.requires.fits in
    c.in-Err-judge_offsets.ensures.err tops foot filed

pub returns-in-Err-judge_footer-clause-err : goal.returns-in-Err-judge_footer-clause-err
returns-in-Err-judge_footer-clause-err c = λ tops is.
    let kept = is.kept in
    let rest = c.args.rest.now in
    let cuts = c.args.cuts.now in
    let foot = c.args.foot.now in
    let s = c.args.section.now in
    let filed = filed_of tops rest cuts foot c.requires.are s c.args.footer.now is c.requires.footer c.requires.fits in
    c.in-Err-judge_footer.ensures.err tops filed c.requires.footer

pub returns-clause-ok : goal.returns-clause-ok
returns-clause-ok c = λ tops is.
    let kept = is.kept in
    let rest = c.args.rest.now in
    let cuts = c.args.cuts.now in
    let foot = c.args.foot.now in
    let s = c.args.section.now in
    let filed = filed_of tops rest cuts foot c.requires.are s c.args.footer.now is c.requires.footer c.requires.fits in
    let judged = c.in-Ok.ensures.ok in
    let declared = c.in-Ok-judge_declarations.ensures.ok tops kept.tables judged in
    let told = told_whole tops rest cuts foot s is filed judged in
    let tally = c.count_ids.ensures tops kept.section (records_of tops rest cuts foot) kept.tally (section_whole tops rest cuts foot s is filed) (tables_whole tops rest cuts foot s is filed c.judge_declarations.new.tables declared.1) in
    let all = records_of tops rest cuts foot in
    let indexes = c.in-Ok-judge_indexes.ensures.ok all (length tops) (body_there tops (cut_tops rest cuts) (cut_top rest foot)) told in
    record {
      valid = judged_valid tops rest cuts foot s is filed judged declared.0 (c.in-Ok-judge_order.ensures.ok rest) indexes.0
          (c.in-Ok-judge_statistics.ensures.ok all kept.section (length tops) tally)
          (c.in-Ok-judge_offsets.ensures.ok tops (cut_top rest foot) filed.laid)
          (c.in-Ok-judge_footer.ensures.ok tops filed c.requires.footer);
      told = indexes.1;
      ended = sectioned_ended tops s is;
      kinds = sectioned_kinds tops s is;
      judged = judged;
      foot_is = (let footer = c.requires.footer in footer.kind);
      tally = subst (λ (l : List Top). TallyOf all l c.count_ids.new.tally) (section_is tops s is) tally;
      at_top = kept.at_top;
    }
