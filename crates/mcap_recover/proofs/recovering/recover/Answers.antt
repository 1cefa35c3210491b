-- The new file was ended, or it is said why not.
use Rattle.std.proofs.Common.{Err, ℕ, [], sym, ap, subst, ◌∙◌}
use Rattle.chunk_writer.specs.Scribes.{WritesHistory}
use Rattle.chunk_writer.specs.Stops.{StopCause}
use Rattle.record_keeping.specs.NewFiles.{recovered_options}
use Rattle.mcap_recover.specs.Recovering.{Recovers}
use Rattle.mcap_recover.specs.declared.answers.RecoverRefused.TheVariants as refusals
use Rattle.mcap_recover.proofs.Ending.{nothing_recovers, begun_recovers, open_recovers, begin_repairing, is_stopped_recovers, over_recovers, finish_recovers}
use Rattle.mcap_recover.proofs.recovering.recover.Goals as goal

pub returns-in-Err-clause-recovers : goal.returns-in-Err-clause-recovers
returns-in-Err-clause-recovers g c =
    let before = g.S.Source.state c.args.source.now in
    let opened = g.L.LiveStore.state c.args.store in
    subst (λ r. Recovers c.args.chunk before before opened opened (Err r)) (sym c.lacked.ensures) (nothing_recovers c.args.chunk before opened)

pub returns-in-Err-profile_of-clause-recovers : goal.returns-in-Err-profile_of-clause-recovers
returns-in-Err-profile_of-clause-recovers g c =
    let before = g.S.Source.state c.args.source.now in
    let now = g.S.Source.state c.advance-first.new.source in
    begun_recovers c.args.chunk before now (g.L.LiveStore.state c.args.store) c.advance-first.new.self c.in-Err-profile_of.refusal
    (c.in-Err-profile_of.ensures before now (c.advance-first.ensures.steps before [] [] (c.in-Ok.ensures before)))

pub open-requires-clause-profile : goal.open-requires-clause-profile
open-requires-clause-profile g c =
    let before = g.S.Source.state c.args.source.now in
    let now = g.S.Source.state c.advance-first.new.source in
    (c.in-Ok-profile_of.ensures before now (c.advance-first.ensures.steps before [] [] (c.in-Ok.ensures before))).short

pub returns-in-Err-open-clause-recovers : goal.returns-in-Err-open-clause-recovers
returns-in-Err-open-clause-recovers g c =
    let before = g.S.Source.state c.args.source.now in
    let now = g.S.Source.state c.advance-first.new.source in
    open_recovers c.args.chunk c.in-Ok-profile_of.profile before now (g.L.LiveStore.state c.args.store) (g.L.LiveStore.state c.in-Err-open.store) c.advance-first.new.self c.in-Err-open.stop
    (c.in-Ok-profile_of.ensures before now (c.advance-first.ensures.steps before [] [] (c.in-Ok.ensures before))) c.in-Err-open.ensures.cause c.in-Err-open.ensures.refused

pub read_on-requires-clause-some : goal.read_on-requires-clause-some
read_on-requires-clause-some g c =
    let before = g.S.Source.state c.args.source.now in
    let now = g.S.Source.state c.advance-first.new.source in (
      recovered_options c.in-Ok-profile_of.profile c.args.chunk,
      before,
      g.L.LiveStore.state c.args.store,
      begin_repairing g.L.LiveStore.state c.args.chunk c.in-Ok-profile_of.profile before now (g.L.LiveStore.state c.args.store) c.advance-first.new.self c.keeping_of-k.result
          (c.in-Ok-profile_of.ensures before now (c.advance-first.ensures.steps before [] [] (c.in-Ok.ensures before)))
          (record {
            writes = subst (λ s. WritesHistory g.L.LiveStore.state (recovered_options c.in-Ok-profile_of.profile c.args.chunk) [] (g.L.LiveStore.state c.args.store) [] s) (sym c.keeping_of-k.ensures.scribe) c.in-Ok-open.ensures.stands;
            counts = λ going. c.keeping_of-k.ensures.counts;
          }),
    )

pub returns-in-Ok-ending_of-clause-recovers : goal.returns-in-Ok-ending_of-clause-recovers
returns-in-Ok-ending_of-clause-recovers g c =
    let state = g.L.LiveStore.state in
    let before = g.S.Source.state c.args.source.now in
    let mid = g.S.Source.state c.advance-first.new.source in
    let opened = g.L.LiveStore.state c.args.store in
    let options = recovered_options c.in-Ok-profile_of.profile c.args.chunk in
    let first = begin_repairing state c.args.chunk c.in-Ok-profile_of.profile before mid opened c.advance-first.new.self c.keeping_of-k.result
    (c.in-Ok-profile_of.ensures before mid (c.advance-first.ensures.steps before [] [] (c.in-Ok.ensures before)))
    (record {
      writes = subst (λ s. WritesHistory state options [] opened [] s) (sym c.keeping_of-k.ensures.scribe) c.in-Ok-open.ensures.stands;
      counts = λ going. c.keeping_of-k.ensures.counts;
    }) in
    let begun = ap (λ s. (state s.store).faults) c.keeping_of-k.ensures.scribe ∙ c.in-Ok-open.ensures.still in
    finish_recovers state c.args.chunk c.in-Ok-profile_of.profile before (g.S.Source.state c.read_on.new.source) opened (state c.finish.result.0) c.read_on.new.reader.reader c.read_on.new.k
    c.in-Ok-read_on.over c.in-Ok-ending_of.at c.in-Ok-ending_of.why c.finish.result.1 (c.in-Ok-read_on.ensures.reads options before opened first) c.in-Ok-ending_of.ensures (c.in-Ok-read_on.ensures.cause ∙ begun) c.finish.ensures.ends

pub returns-in-Ok-ending_of-clause-stays : goal.returns-in-Ok-ending_of-clause-stays
returns-in-Ok-ending_of-clause-stays g c = g.S.Source.stays_on c.args.source.now c.advance-first.new.source c.read_on.new.source c.advance-first.ensures.stays c.in-Ok-read_on.ensures.stays

pub returns-in-Err-ending_of-clause-recovers : goal.returns-in-Err-ending_of-clause-recovers
returns-in-Err-ending_of-clause-recovers g c =
    let state = g.L.LiveStore.state in
    let before = g.S.Source.state c.args.source.now in
    let mid = g.S.Source.state c.advance-first.new.source in
    let opened = g.L.LiveStore.state c.args.store in
    let options = recovered_options c.in-Ok-profile_of.profile c.args.chunk in
    let first = begin_repairing state c.args.chunk c.in-Ok-profile_of.profile before mid opened c.advance-first.new.self c.keeping_of-k.result
    (c.in-Ok-profile_of.ensures before mid (c.advance-first.ensures.steps before [] [] (c.in-Ok.ensures before)))
    (record {
      writes = subst (λ s. WritesHistory state options [] opened [] s) (sym c.keeping_of-k.ensures.scribe) c.in-Ok-open.ensures.stands;
      counts = λ going. c.keeping_of-k.ensures.counts;
    }) in
    let begun = ap (λ s. (state s.store).faults) c.keeping_of-k.ensures.scribe ∙ c.in-Ok-open.ensures.still in
    subst (λ s. Recovers c.args.chunk before (g.S.Source.state c.read_on.new.source) opened (state s) (Err c.in-Err-ending_of.refusal)) (sym c.into_store.ensures)
    (over_recovers state c.args.chunk c.in-Ok-profile_of.profile before (g.S.Source.state c.read_on.new.source) opened c.read_on.new.reader.reader c.read_on.new.k c.in-Ok-read_on.over c.in-Err-ending_of.refusal
    (c.in-Ok-read_on.ensures.reads options before opened first) c.in-Err-ending_of.ensures c.in-Ok-read_on.ensures.goes_on (c.in-Ok-read_on.ensures.cause ∙ begun))

pub returns-in-Err-ending_of-clause-stays : goal.returns-in-Err-ending_of-clause-stays
returns-in-Err-ending_of-clause-stays g c = g.S.Source.stays_on c.args.source.now c.advance-first.new.source c.read_on.new.source c.advance-first.ensures.stays c.in-Ok-read_on.ensures.stays

pub returns-in-Err-read_on-clause-recovers : goal.returns-in-Err-read_on-clause-recovers
returns-in-Err-read_on-clause-recovers g c =
    let state = g.L.LiveStore.state in
    let before = g.S.Source.state c.args.source.now in
    let mid = g.S.Source.state c.advance-first.new.source in
    let opened = g.L.LiveStore.state c.args.store in
    let options = recovered_options c.in-Ok-profile_of.profile c.args.chunk in
    let first = begin_repairing state c.args.chunk c.in-Ok-profile_of.profile before mid opened c.advance-first.new.self c.keeping_of-k.result
    (c.in-Ok-profile_of.ensures before mid (c.advance-first.ensures.steps before [] [] (c.in-Ok.ensures before)))
    (record {
      writes = subst (λ s. WritesHistory state options [] opened [] s) (sym c.keeping_of-k.ensures.scribe) c.in-Ok-open.ensures.stands;
      counts = λ going. c.keeping_of-k.ensures.counts;
    }) in
    let begun = ap (λ s. (state s.store).faults) c.keeping_of-k.ensures.scribe ∙ c.in-Ok-open.ensures.still in
    subst (λ s. Recovers c.args.chunk before (g.S.Source.state c.read_on.new.source) opened (state s) (Err (refusals.Stopped c.in-Err-read_on.stop))) (sym c.into_store-in-Err-read_on.ensures)
    (is_stopped_recovers state c.args.chunk c.in-Ok-profile_of.profile before (g.S.Source.state c.read_on.new.source) opened c.read_on.new.k c.in-Err-read_on.stop
    (subst (λ (n : ℕ). StopCause n (state c.read_on.new.k.scribe.store).faults c.in-Err-read_on.stop) begun c.in-Err-read_on.ensures.cause) (c.in-Err-read_on.ensures.reads options before opened first))

pub returns-in-Err-read_on-clause-stays : goal.returns-in-Err-read_on-clause-stays
returns-in-Err-read_on-clause-stays g c = g.S.Source.stays_on c.args.source.now c.advance-first.new.source c.read_on.new.source c.advance-first.ensures.stays c.in-Err-read_on.ensures.stays
