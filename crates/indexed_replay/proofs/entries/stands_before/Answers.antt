use Rattle.std.proofs.Common.{◌-◌, arith}
use Rattle.std.specs.Prelude.{nat_eq}
use Rattle.std.proofs.lemmas.Bool.{both_ways, eq-eqb}
use Rattle.indexed_replay.proofs.Ascending.{directly_before}
use Rattle.indexed_replay.proofs.entries.stands_before.Goals as goal

pub returns-then-last-entry-clause-none : goal.returns-then-last-entry-clause-none
returns-then-last-entry-clause-none c = λ differ k less at.
    let last = c.entry_in-last.result in
    let same = directly_before c.args.entries.now c.args.i (c.args.i - 1) k c.args.entry last c.requires.ascend c.requires.here (omega (arith, c.if-i-eq0.false)) c.entry_in-last.ensures less at in
    both_ways (nat_eq last.1 c.args.entry.1) differ (eq-eqb last.1 c.args.entry.1 same.1)

pub returns-else-last-entry-clause-none : goal.returns-else-last-entry-clause-none
returns-else-last-entry-clause-none c = λ differ k less at.
    let last = c.entry_in-last.result in
    let same = directly_before c.args.entries.now c.args.i (c.args.i - 1) k c.args.entry last c.requires.ascend c.requires.here (omega (arith, c.if-i-eq0.false)) c.entry_in-last.ensures less at in
    both_ways (nat_eq last.0 c.args.entry.0) differ (eq-eqb last.0 c.args.entry.0 same.0)
