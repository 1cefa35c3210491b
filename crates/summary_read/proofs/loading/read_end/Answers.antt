use Rattle.std.proofs.Common.{sym, subst, ◌<◌}
use Rattle.summary_read.proofs.FileEnds.{too_short}
use Rattle.summary_read.proofs.loading.read_end.Goals as goal

pub returns-then-len-lt-END_LENGTH-clause-judged : goal.returns-then-len-lt-END_LENGTH-clause-judged
returns-then-len-lt-END_LENGTH-clause-judged g c = λ file told size. too_short file (subst (λ n. n < 37) (sym size) c.if-len-lt-END_LENGTH.true)
