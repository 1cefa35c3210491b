use Rattle.std.proofs.Common.{false, refl, arith}
use Rattle.std.proofs.lemmas.Bool.{both_ways, eqb-true, eq-eqb}
use Rattle.summary_check.proofs.Naming.{front_fits, span_group, group_span, none_named}
use Rattle.summary_check.proofs.offsets.names_group.Goals as goal

pub returns-in-None : goal.returns-in-None
returns-in-None c = λ tops bytes foot laid.
    let o = c.args.offset.now in (
      λ e. absurd (both_ways false refl e),
      λ g. absurd (none_named tops bytes c.args.cuts.now c.args.start foot laid o.group_opcode o.group_start o.group_length c.in-None.ensures g),
    )

pub returns-then-offset-saturating_add : goal.returns-then-offset-saturating_add
returns-then-offset-saturating_add c = λ tops bytes foot laid.
    let o = c.args.offset.now in
    let s = c.in-Some.ensures in
    let cuts = c.args.cuts.now in (
      λ e. absurd (both_ways false refl e),
      λ g.
          let is = group_span tops bytes cuts c.args.start foot laid o.group_opcode c.in-Some.from c.in-Some.to s o.group_start o.group_length g in
          absurd (c.if-offset-saturating_add.true (omega (arith, is.0, front_fits tops bytes cuts c.args.start foot laid o.group_opcode c.in-Some.from c.in-Some.to s, c.saturating_add.ensures, c.saturating_sub-front.ensures))),
    )

pub returns-in-Some : goal.returns-in-Some
returns-in-Some c = λ tops bytes foot laid.
    let o = c.args.offset.now in
    let s = c.in-Some.ensures in
    let cuts = c.args.cuts.now in
    let fits = front_fits tops bytes cuts c.args.start foot laid o.group_opcode c.in-Some.from c.in-Some.to s in (
      λ e. span_group tops bytes cuts c.args.start foot laid o.group_opcode c.in-Some.from c.in-Some.to s o.group_start o.group_length
          (omega (arith, c.if-offset-saturating_add.false, fits, c.saturating_add.ensures, c.saturating_sub-front.ensures))
          (omega (arith, eqb-true o.group_length c.saturating_sub.result e, c.saturating_sub.ensures, c.saturating_sub-front.ensures)),
      λ g.
          let is = group_span tops bytes cuts c.args.start foot laid o.group_opcode c.in-Some.from c.in-Some.to s o.group_start o.group_length g in
          eq-eqb o.group_length c.saturating_sub.result (omega (arith, is.1, c.saturating_sub.ensures, c.saturating_sub-front.ensures)),
    )
