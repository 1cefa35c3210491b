use Rattle.std.proofs.Common.{false, refl}
use Rattle.std.proofs.lemmas.Bool.{both_ways}
use Rattle.mcap_model.specs.Plain.{cut_top}
use Rattle.summary_read.specs.PartSteps.{cut_tops}
use Rattle.summary_check.specs.Filed.{records_of}
use Rattle.summary_check.proofs.Verdicts.{rules_of}
use Rattle.summary_check.proofs.indexing.is_indexed.Goals as goal

pub returns-then-not-has_statistics : goal.returns-then-not-has_statistics
returns-then-not-has_statistics c = λ tops foot is. (
  (λ e. absurd (both_ways false refl e)),
  λ full. absurd (both_ways c.has_statistics.result c.if-not-has_statistics.true ((c.has_statistics.ensures c.args.bytes.now).1 full.statistics)),
)

pub returns-then-not-are_right : goal.returns-then-not-are_right
returns-then-not-are_right c = λ tops foot is.
    let bytes = c.args.bytes.now in
    let cuts = c.args.cuts.now in
    let told = is.told in
    let rules = rules_of tops bytes cuts foot c.args.section.now is in (
      (λ e. absurd (both_ways false refl e)),
      λ full. absurd (both_ways c.are_right.result c.if-not-are_right.true ((c.are_right.ensures (records_of tops bytes cuts foot) told.chunks rules).1 full.empties)),
    )

pub returns : goal.returns
returns c = λ tops foot is.
    let bytes = c.args.bytes.now in
    let cuts = c.args.cuts.now in
    let told = is.told in
    let rules = rules_of tops bytes cuts foot c.args.section.now is in
    let iff = c.are_repeated.ensures tops (cut_tops bytes cuts) (cut_top bytes foot) is.ended is.judged is.foot_is is.tally c.in_ok-ids.ensures in (
      (λ e. record {
        no_message = c.if-section.false;
        statistics = (c.has_statistics.ensures bytes).0 c.if-not-has_statistics.false;
        named = c.are_named.ensures.0 c.if-not-are_named.false;
        empties = (c.are_right.ensures (records_of tops bytes cuts foot) told.chunks rules).0 c.if-not-are_right.false;
        channels = iff.0 e;
      }),
      λ full. iff.1 full.channels,
    )
