use Rattle.std.proofs.Common.{List, Some, subst}
use Rattle.merge_walk.specs.declared.spans.Span.{Span}
use Rattle.mcap_merge.specs.ReadingSteps.{FindsOutside}
use Rattle.mcap_model.specs.declared.rules.Rule.TheVariants as rules
use Rattle.mcap_sort.proofs.Fronts.{gathered_whole, gathered_refused, gathered_outside}
use Rattle.mcap_sort.proofs.reading.read_known.Goals as goal

pub returns-in-Err-clause-reads : goal.returns-in-Err-clause-reads
returns-in-Err-clause-reads g c = gathered_refused (g.T.Store.state c.args.store.now) (g.T.Store.state c.read_front.new.store) c.args.len c.in-Err.why c.counted.result c.requires.whole c.in-Err.ensures c.counted.ensures

pub returns-in-None-clause-reads : goal.returns-in-None-clause-reads
returns-in-None-clause-reads g c = gathered_whole (g.T.Store.state c.args.store.now) (g.T.Store.state c.read_front.new.store) c.args.len c.in-Ok.gathered c.requires.whole c.in-Ok.ensures

pub returns-in-Some-clause-reads : goal.returns-in-Some-clause-reads
returns-in-Some-clause-reads g c =
    let old = g.T.Store.state c.args.store.now in
    let new = g.T.Store.state c.read_front.new.store in
    let outside : FindsOutside c.in-Ok.gathered.input.spans.items c.args.len (Some c.in-Some.offset) = subst (λ (l : List Span). FindsOutside l c.args.len (Some c.in-Some.offset)) c.as_slice.ensures.value c.in-Some.ensures in
    gathered_outside old new c.args.len c.in-Some.offset rules.V4 c.in-Ok.gathered c.requires.whole (gathered_whole old new c.args.len c.in-Ok.gathered c.requires.whole c.in-Ok.ensures) outside
