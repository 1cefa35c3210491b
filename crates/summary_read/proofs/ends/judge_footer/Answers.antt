use Rattle.std.proofs.Common.{refl, sym, subst, ◌-◌, ◌<◌, inl, inr, arith}
use Rattle.std.proofs.lemmas.Bool.{both_ways}
use Rattle.mcap_wire.specs.Limits.{file_limit}
use Rattle.summary_read.specs.Reached.{file_passes, summary_passes}
use Rattle.summary_read.proofs.FileEnds.{magic_lacks, magic_ends, start_lies}
use Rattle.summary_read.proofs.ends.judge_footer.Goals as goal

pub returns-then-len-gt-FILE_LIMIT-clause-judged : goal.returns-then-len-gt-FILE_LIMIT-clause-judged
returns-then-len-gt-FILE_LIMIT-clause-judged c = λ file size is ends other.
    (file_passes (subst (λ n. file_limit < n) (sym size) c.if-len-gt-FILE_LIMIT.true), other)

pub returns-then-not-ends_with_magic-clause-judged : goal.returns-then-not-ends_with_magic-clause-judged
returns-then-not-ends_with_magic-clause-judged c = λ file size is ends other. (
  magic_lacks file c.args.end.now c.args.len (c.args.len - 8) size c.requires.whole is refl (λ with. both_ways c.ends_with_magic.result c.if-not-ends_with_magic.true (c.ends_with_magic.ensures.1 with)),
  other,
)

pub returns-then-start-lt-HEADER_OFFSET-clause-judged : goal.returns-then-start-lt-HEADER_OFFSET-clause-judged
returns-then-start-lt-HEADER_OFFSET-clause-judged c = λ file size is ends other.
    (start_lies file c.args.len (c.args.len - 37) c.args.footer size refl ends c.requires.some (inl c.if-start-lt-HEADER_OFFSET.true), other)

pub returns-then-start-footer_offset-clause-judged : goal.returns-then-start-footer_offset-clause-judged
returns-then-start-footer_offset-clause-judged c = λ file size is ends other.
    (start_lies file c.args.len (c.args.len - 37) c.args.footer size refl ends c.requires.some (inr (omega (arith, c.requires.whole, c.if-start-footer_offset.true))), other)

pub returns-then-footer_offset-start-gt-SUMMARY_LIMIT-clause-judged :
    goal.returns-then-footer_offset-start-gt-SUMMARY_LIMIT-clause-judged
returns-then-footer_offset-start-gt-SUMMARY_LIMIT-clause-judged c = λ file size is ends other. (
  summary_passes c.args.footer.summary_start (record {
    footer = c.args.footer;
    ends = ends;
    named = refl;
    behind = c.if-start-lt-HEADER_OFFSET.false;
    before = omega (arith, size, c.requires.whole, c.if-start-footer_offset.false);
  }) (omega (arith, size, c.if-footer_offset-start-gt-SUMMARY_LIMIT.true)),
  other,
)

pub returns-clause-judged : goal.returns-clause-judged
returns-clause-judged c = λ file size is ends other. record {
  v2 = magic_ends file c.args.end.now c.args.len size c.requires.whole is (c.ends_with_magic.ensures.0 c.if-not-ends_with_magic.false);
  ends = ends;
  behind = c.if-start-lt-HEADER_OFFSET.false;
  before = omega (arith, size, c.requires.whole, c.if-start-footer_offset.false);
  file_fits = omega (arith, size, c.if-len-gt-FILE_LIMIT.false);
  summary_fits = omega (arith, size, c.if-footer_offset-start-gt-SUMMARY_LIMIT.false);
  some = other;
}
