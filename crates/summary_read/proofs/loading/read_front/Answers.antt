use Rattle.std.proofs.Common.{sym, ap, take, ◌∙◌}
use Rattle.summary_read.proofs.loading.read_front.Goals as goal

pub returns-in-Ok-clause-judged : goal.returns-in-Ok-clause-judged
returns-in-Ok-clause-judged g c = λ file told size some.
    c.judge_front.ensures.judged file size (sym (c.in-Ok.ensures.gives file told ∙ ap (λ n. take n file) c.read_at.auto.out)) some
