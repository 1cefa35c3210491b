use Rattle.std.proofs.Common.{length, ◌+◌}
use Rattle.std.proofs.lemmas.Bool.{both_ways}
use Rattle.mcap_model.specs.Plain.{cut_top}
use Rattle.summary_read.specs.PartSteps.{cut_tops}
use Rattle.summary_check.specs.Files.{spelled_file}
use Rattle.summary_check.specs.Filed.{records_of}
use Rattle.summary_check.proofs.Laying.{length-all}
use Rattle.summary_check.proofs.Footed.{places_keep, places_flaw, crc_unasked, crc_flaw, covered}
use Rattle.summary_check.proofs.closing.judge_footer.Goals as goal

pub returns-then-not-are_named-clause-err : goal.returns-then-not-are_named-clause-err
returns-then-not-are_named-clause-err c = λ tops filed is.
    let bytes = c.args.bytes.now in
    let cuts = c.args.cuts.now in
    let foot = c.args.foot.now in
    let all = records_of tops bytes cuts foot in
    let last = length tops + length (cut_tops bytes cuts) in
    let places = c.places_of-places.ensures in
    places_flaw tops bytes cuts foot c.args.start filed c.args.footer.now is c.places_of-places.result.footer (places.footer tops bytes filed)
    (λ names. both_ways c.are_named.result c.if-not-are_named.true ((c.are_named.ensures all last (places.are tops bytes filed)).1 names))

pub returns-then-footer-eq0-clause-ok : goal.returns-then-footer-eq0-clause-ok
returns-then-footer-eq0-clause-ok c = λ tops filed is.
    let bytes = c.args.bytes.now in
    let cuts = c.args.cuts.now in
    let foot = c.args.foot.now in
    let all = records_of tops bytes cuts foot in
    let last = length tops + length (cut_tops bytes cuts) in
    let places = c.places_of-places.ensures in (
      places_keep tops bytes cuts foot c.args.start filed c.args.footer.now is ((c.are_named.ensures all last (places.are tops bytes filed)).0 c.if-not-are_named.false),
      crc_unasked tops bytes cuts foot c.args.start filed c.args.footer.now is c.if-footer-eq0.true,
    )

pub returns-then-is_crc_right-clause-ok : goal.returns-then-is_crc_right-clause-ok
returns-then-is_crc_right-clause-ok c = λ tops filed is.
    let bytes = c.args.bytes.now in
    let cuts = c.args.cuts.now in
    let foot = c.args.foot.now in
    let all = records_of tops bytes cuts foot in
    let last = length tops + length (cut_tops bytes cuts) in
    let places = c.places_of-places.ensures in
    let names = (c.are_named.ensures all last (places.are tops bytes filed)).0 c.if-not-are_named.false in
    let cover = covered tops bytes cuts foot c.args.start filed c.args.footer.now is c.places_of-places.result (places.are tops bytes filed) places.behind c.requires names c.if-footer-eq0.false in (
      places_keep tops bytes cuts foot c.args.start filed c.args.footer.now is names,
      (c.is_crc_right.ensures (spelled_file tops bytes) all last (cut_top bytes foot) (length-all tops (cut_tops bytes cuts) (cut_top bytes foot)) is cover).0 c.if-is_crc_right.true,
    )

pub returns-clause-err : goal.returns-clause-err
returns-clause-err c = λ tops filed is.
    let bytes = c.args.bytes.now in
    let cuts = c.args.cuts.now in
    let foot = c.args.foot.now in
    let all = records_of tops bytes cuts foot in
    let last = length tops + length (cut_tops bytes cuts) in
    let places = c.places_of-places.ensures in
    let names = (c.are_named.ensures all last (places.are tops bytes filed)).0 c.if-not-are_named.false in
    let cover = covered tops bytes cuts foot c.args.start filed c.args.footer.now is c.places_of-places.result (places.are tops bytes filed) places.behind c.requires names c.if-footer-eq0.false in
    crc_flaw tops bytes cuts foot c.args.start filed c.args.footer.now is c.places_of-places.result.footer (places.footer tops bytes filed)
    (λ v16. both_ways c.is_crc_right.result c.if-is_crc_right.false ((c.is_crc_right.ensures (spelled_file tops bytes) all last (cut_top bytes foot) (length-all tops (cut_tops bytes cuts) (cut_top bytes foot)) is cover).1 v16))

pub returns-clause-ok : goal.returns-clause-ok
returns-clause-ok c = tt
