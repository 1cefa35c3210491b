-- What the source asked of the store is bounded by what it gave, and by the front where the store failed.
use Rattle.std.proofs.Common.{◌≡◌, ◌∙◌, ℕ, ap, subst, rules}
use Rattle.mcap_io.specs.Outside.{SourceState}
use Rattle.mcap_io.specs.StoreSources.{front_left}
use Rattle.mcap_io.specs.StoreFronts.{WasRead}
use Rattle.mcap_io.proofs.LentStores.{front_read}
use Rattle.file_check.specs.Reading.{ReadsSection}
use Rattle.file_check.specs.CheckSteps.{SectionAsks}
use Rattle.file_check.specs.Lacking.{SectionLacks}
use Rattle.file_check.proofs.Fronted.{front_asks}
use Rattle.file_check.proofs.Lacked.{front_lacks}
use Rattle.file_check.proofs.checking.read_front.Goals as goal

pub returns-clause-reads : goal.returns-clause-reads
returns-clause-reads g c =
    let source = c.read_section.new.source in
    let now : SourceState = record { left = front_left (g.T.Store.state source.store.now).bytes source.next source.len; faults = source.failures } in
    (now, subst (λ (s : SourceState). ReadsSection s now c.read_section.result) c.new-source.ensures.state c.read_section.ensures.reads)

pub returns-clause-asks : goal.returns-clause-asks
returns-clause-asks g c =
    let source = c.read_section.new.source in
    let old = g.T.Store.state c.args.store.now in
    let new = g.T.Store.state source.store.now in
    let stays = c.read_section.ensures.stays in
    let made = c.new-source.ensures in
    let now : SourceState = record { left = front_left new.bytes source.next source.len; faults = source.failures } in
    let len : source.len ≡ c.args.end = stays.1 ∙ made.len in
    let was : WasRead old new source.next c.args.end source.failures = front_read g.T.Store c.args.store.now c.args.end c.new-source.result source made.now made.len made.faults made.asked stays in
    let reads = subst (λ (s : SourceState). ReadsSection s now c.read_section.result) made.state c.read_section.ensures.reads in
    let asks : SectionAsks old c.args.end new.asked c.read_section.result = front_asks old new now source.next c.args.end c.read_section.result was (ap (λ n. front_left new.bytes source.next n) len) reads in
    subst (λ (n : ℕ). SectionAsks old c.args.end n c.read_section.result) (search rules) asks

pub returns-clause-lacks : goal.returns-clause-lacks
returns-clause-lacks g c =
    let source = c.read_section.new.source in
    let old = g.T.Store.state c.args.store.now in
    let new = g.T.Store.state source.store.now in
    let stays = c.read_section.ensures.stays in
    let made = c.new-source.ensures in
    let now : SourceState = record { left = front_left new.bytes source.next source.len; faults = source.failures } in
    let len : source.len ≡ c.args.end = stays.1 ∙ made.len in
    let was : WasRead old new source.next c.args.end source.failures = front_read g.T.Store c.args.store.now c.args.end c.new-source.result source made.now made.len made.faults made.asked stays in
    let reads = subst (λ (s : SourceState). ReadsSection s now c.read_section.result) made.state c.read_section.ensures.reads in
    let lacks : SectionLacks old c.args.end new.asked c.read_section.result = front_lacks old new now source.next c.args.end c.read_section.result was (ap (λ n. front_left new.bytes source.next n) len) reads in
    subst (λ (n : ℕ). SectionLacks old c.args.end n c.read_section.result) (search rules) lacks
