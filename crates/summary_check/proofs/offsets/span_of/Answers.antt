use Rattle.std.proofs.Common.{List, sym, subst, arith}
use Rattle.std.specs.Prelude.{take}
use Rattle.std.proofs.lemmas.List.{take_all}
use Rattle.mcap_wire.specs.declared.faults.Cut.{Cut}
use Rattle.mcap_model.proofs.Places.{at_read}
use Rattle.mcap_model.proofs.OneMore.{taken_more}
use Rattle.summary_check.specs.Offsets.{SpanIs}
use Rattle.summary_check.proofs.offsets.span_of.Goals as goal

pub records-preserved : goal.records-preserved
records-preserved c =
    let cuts = c.args.cuts.now in
    let i = c.records.i in
    subst (λ (l : List Cut). SpanIs l c.args.op c.with_cut-span.result) (sym (taken_more cuts i _ (at_read cuts i _ (omega (arith, c.records-test.true))))) (c.with_cut-span.ensures (take i cuts) c.records.invariant)

pub returns : goal.returns
returns c = subst (λ (l : List Cut). SpanIs l c.args.op c.records.span) (take_all c.records.i c.args.cuts.now (omega (arith, c.records-test.false))) c.records.invariant
