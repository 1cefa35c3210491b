use Rattle.std.proofs.Common.{◌≤◌, length, ◌∙◌, arith}
use Rattle.std.proofs.lemmas.List.{take-append-le, take-take}
use Rattle.io_files.proofs.Known.{ahead-filled}
use Rattle.io_files.proofs.ahead.ReadAhead.refill.Goals as goal

pub returns-clause-rest : goal.returns-clause-rest
returns-clause-rest g c = λ rest told.
    let out = c.read_front.new.out in
    let n = c.in_ok-self.field-0 in
    let read = c.in_ok-self.ensures.gives rest told in
    let fits : n ≤ length out = c.in_ok-self.ensures.bound in
    let whole : n ≤ c.args.self.now.buffer.len = omega (arith, fits, c.read_front.auto.out, c.as_mut_slice.ensures.len) in
    ahead-filled _ n _ rest (take-take n _ _ whole ∙ take-append-le n out _ fits ∙ read.given) read.after

pub returns-clause-end : goal.returns-clause-end
returns-clause-end g c = λ rest told none some. let read = c.in_ok-self.ensures.gives rest told in read.at_end (omega (arith, none)) (omega (arith, some, c.read_front.auto.out, c.as_mut_slice.ensures.len))
