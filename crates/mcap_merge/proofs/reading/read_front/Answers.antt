use Rattle.std.proofs.Common.{rules, subst}
use Rattle.mcap_io.specs.Outside.{SourceState}
use Rattle.mcap_io.specs.Stores.{StoreState}
use Rattle.mcap_io.specs.StoreSources.{front_left}
use Rattle.mcap_io.proofs.LentStores.{front_read}
use Rattle.mcap_merge.specs.Inputs.{ReadsInput}
use Rattle.mcap_merge.specs.ReadingSteps.{FrontReads}
use Rattle.mcap_merge.proofs.reading.read_front.Goals as goal

pub returns : goal.returns
returns g c =
    let source = c.read_input.new.source in
    let made = c.new-source.ensures in
    let old = g.T.Store.state c.args.store.now in
    let new = g.T.Store.state source.store.now in
    let now : SourceState = record { left = front_left new.bytes source.next source.len; faults = source.failures } in
    let read : FrontReads old c.args.len new c.read_input.result = record {
      next = source.next;
      now = now;
      was = front_read g.T.Store c.args.store.now c.args.len c.new-source.result source made.now made.len made.faults made.asked c.read_input.ensures.stays;
      reads = subst (λ (s : SourceState). ReadsInput s now c.read_input.result) made.state c.read_input.ensures.reads;
    } in
    subst (λ (s : StoreState). FrontReads old c.args.len s c.read_input.result) (search rules) read
