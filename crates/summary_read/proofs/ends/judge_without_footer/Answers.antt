use Rattle.std.proofs.Common.{refl, sym, ap, subst, ◌-◌, ◌<◌}
use Rattle.std.proofs.lemmas.Bool.{both_ways}
use Rattle.mcap_wire.specs.Limits.{file_limit}
use Rattle.summary_read.specs.Reached.{file_passes}
use Rattle.summary_read.proofs.FileEnds.{magic_lacks, footer_lacks}
use Rattle.summary_read.proofs.ends.judge_without_footer.Goals as goal

pub returns-then-len-gt-FILE_LIMIT-clause-judged : goal.returns-then-len-gt-FILE_LIMIT-clause-judged
returns-then-len-gt-FILE_LIMIT-clause-judged c = λ file size is none.
    (file_passes (subst (λ n. file_limit < n) (sym size) c.if-len-gt-FILE_LIMIT.true), λ no. none no.0 no.1)

pub returns-then-not-ends_with_magic-clause-judged : goal.returns-then-not-ends_with_magic-clause-judged
returns-then-not-ends_with_magic-clause-judged c = λ file size is none. (
  magic_lacks file c.args.end.now c.args.len (c.args.len - 8) size c.requires.whole is refl (λ ends. both_ways c.ends_with_magic.result c.if-not-ends_with_magic.true (c.ends_with_magic.ensures.1 ends)),
  λ no. none no.0 no.1,
)

pub returns-clause-judged : goal.returns-clause-judged
returns-clause-judged c = λ file size is none.
    (footer_lacks file (c.args.len - 37) (ap (λ n. n - 37) (sym size)) none, λ no. none no.0 no.1)
