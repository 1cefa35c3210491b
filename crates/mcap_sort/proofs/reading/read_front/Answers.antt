use Rattle.std.proofs.Common.{rules, ℕ, List, Option, ◌∙◌, ap, subst}
use Rattle.mcap_io.specs.Outside.{SourceState}
use Rattle.mcap_io.specs.Stores.{StoreState}
use Rattle.mcap_io.specs.StoreSources.{front_left}
use Rattle.mcap_io.proofs.LentStores.{front_read}
use Rattle.mcap_sort.specs.Gathering.{GathersFront, GathersInput}
use Rattle.mcap_sort.proofs.reading.read_front.Goals as goal

pub returns : goal.returns
returns g c =
    let source = c.gather.new.source in
    let made = c.new-source.ensures in
    let old = g.T.Store.state c.args.store.now in
    let new = g.T.Store.state source.store.now in
    let now : SourceState = record { left = front_left new.bytes source.next source.len; faults = source.failures } in
    let was = front_read g.T.Store c.args.store.now c.args.len c.new-source.result source made.now made.len made.faults made.asked c.gather.ensures.stays in
    let read : GathersFront old c.args.len new c.gather.result = record {
      next = source.next;
      now = now;
      was = was;
      left_is = ap (λ (n : ℕ). front_left new.bytes source.next n) (c.gather.ensures.stays.1 ∙ made.len) ∙ ap (λ (b : Option (List ℕ)). front_left b source.next c.args.len) was.bytes;
      reads = subst (λ (s : SourceState). GathersInput s now c.gather.result) made.state c.gather.ensures.reads;
    } in
    subst (λ (s : StoreState). GathersFront old c.args.len s c.gather.result) (search rules) read
