-- The writer stopped at the end of the file.
use Rattle.std.proofs.Common.{◌≤◌, Some, None, Result, sym, subst, arith}
use Rattle.mcap_model.specs.declared.ends.Stop.{Stop}
use Rattle.mcap_model.specs.Histories.{written_of}
use Rattle.chunk_writer.specs.Stops.{numbers, StopsAt, StopCause, Cause, Ends}
use Rattle.chunk_writer.specs.Scribes.{CountsLast}
use Rattle.record_keeping.specs.Keeping.{AddsAtLeast}
use Rattle.record_keeping.proofs.Ripe.{by_blocks}
use Rattle.record_keeping.proofs.ending.end_file.Goals as goal

pub returns-in-Err : goal.returns-in-Err
returns-in-Err g c = record {
  ends = λ options extras opened history keeps.
      let state = g.L.LiveStore.state in
      let f = c.finish-finished in
      let stop = c.in-Err.stop in
      let at = numbers f.result.blocks f.result.bytes in
      let same = sym c.into_store-store.ensures in
      let all = f.ensures.ends options extras opened history keeps.writes in
      let counts = keeps.counts c.requires.going in
      let plans = (keeps.writes.0.going c.requires.going).0 in
      let blocks = plans.blocks in
      let before = c.args.k.scribe.plan.blocks in
      let counted : CountsLast before f.result.blocks f.result.last → before ≤ f.result.blocks = elim (f.result.last) as (λ last. CountsLast before f.result.blocks last → before ≤ f.result.blocks) [ None ↦ λ is. omega (arith, is) | Some e ↦ λ is. omega (arith, is) ] in
      let more = counted f.ensures.counted in
      let stops = subst (λ (e : Result Unit Stop). Ends options extras opened.held (state f.new.self.store).held history at e) c.in-Err.is all.0 in (
        at,
        subst (λ (s : g.row.L.Denot). StopsAt options extras history opened.held (state s).held stop at) same stops,
        subst (λ (s : g.row.L.Denot). StopCause (state c.args.k.scribe.store).faults (state s).faults stop) same
            (subst (λ (e : Result Unit Stop). Cause (state c.args.k.scribe.store).faults (state f.new.self.store).faults e) c.in-Err.is (f.ensures.cause c.requires.going)),
        λ chunked. subst (λ (s : g.row.L.Denot). AddsAtLeast opened.held (state s).held (written_of options history)) same
            (by_blocks options extras history opened.held (state f.new.self.store).held stop at chunked counts.inner stops (omega (arith, blocks, more)) all.1),
      );
}
