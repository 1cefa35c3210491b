-- What was read ahead comes first; behind it a read goes past the buffer or fills it anew.
use Rattle.std.proofs.Common.{◌∙◌, ap, sym, arith}
use Rattle.io_files.proofs.Known.{ahead-gives, ahead-none, gives-past}
use Rattle.io_files.proofs.ahead.ReadAhead.read.Goals as goal

pub returns-then-self-clause-gives : goal.returns-then-self-clause-gives
returns-then-self-clause-gives g c = λ rest told.
    let was = c.args.self.now in
    let give = c.give.ensures in
    ahead-gives _ _ was.from _ was.to _ _ _ _ _ rest (ap (λ v. v.items) give.buffer) give.from give.to (ap g.F.Read.remaining give.file) give.bound (omega (arith, was.within, was.buffer.ok)) give.out (λ ended. absurd (omega (arith, ended, c.if-self.true))) told

pub returns-then-len-out-clause-gives : goal.returns-then-len-out-clause-gives
returns-then-len-out-clause-gives g c = gives-past _ _ _ _ _ _ _ c.if-self.false c.read_some.ensures.gives

pub returns-in-Ok-clause-gives : goal.returns-in-Ok-clause-gives
returns-in-Ok-clause-gives g c = λ rest told.
    let was = c.refill.new.self in
    let give = c.give-in-Ok.ensures in
    let left = sym (ahead-none _ _ _ _ c.if-self.false) ∙ told in
    ahead-gives _ _ was.from _ was.to _ _ _ _ _ rest (ap (λ v. v.items) give.buffer) give.from give.to (ap g.F.Read.remaining give.file) give.bound (omega (arith, was.within, was.buffer.ok)) give.out (λ ended. c.in-Ok.ensures.end rest left ended (omega (arith, c.if-len-out.false, c.len.ensures))) (c.in-Ok.ensures.rest rest left)
