-- The new file was ended, or it is said why not.
use Rattle.std.proofs.Common.{Ok, Err, List, ℕ, [], sym, ap, subst, ◌∙◌}
use Rattle.rec_data.specs.Records.{ShowsHeader}
use Rattle.chunk_writer.specs.Scribes.{WritesHistory}
use Rattle.chunk_writer.specs.Stops.{StopCause}
use Rattle.mcap_model.specs.Plain.{asked_topic}
use Rattle.record_keeping.specs.declared.ending.Over.{Over}
use Rattle.record_keeping.specs.NewFiles.{recovered_options}
use Rattle.record_keeping.proofs.Reading.{begun_header}
use Rattle.mcap_filter.specs.declared.answers.PickRefused.TheVariants as refusals
use Rattle.mcap_filter.specs.Picked.{asking}
use Rattle.mcap_filter.specs.Picking.{start, PicksOn}
use Rattle.mcap_filter.specs.Filtering.{Filters, HasEnded}
use Rattle.mcap_filter.proofs.Walking.{begin_picking}
use Rattle.mcap_filter.proofs.Ended.{nothing_filters, refused_filters, unnamed_filters, none_ended, open_filters, cut_filters, unread_filters, end_filters}
use Rattle.mcap_filter.proofs.filtering.filter.Goals as goal

pub returns-in-Err-clause-filters : goal.returns-in-Err-clause-filters
returns-in-Err-clause-filters g c =
    let a = asking c.args.range (asked_topic c.args.topic) in
    let before = g.S.Source.state c.args.source.now in
    let opened = g.L.LiveStore.state c.args.store in
    subst (λ r. Filters a c.args.chunk before before opened opened (Err r)) (sym c.lacked.ensures) (nothing_filters a c.args.chunk before opened)

pub unreachable-requires : goal.unreachable-requires
unreachable-requires g c =
    let before = g.S.Source.state c.args.source.now in
    let now = g.S.Source.state c.advance.new.source in
    none_ended c.advance.new.self before now _ (c.in-End.ensures.steps before [] [] (c.in-Ok.ensures before))

pub refusal_of-why-requires : goal.refusal_of-why-requires
refusal_of-why-requires g c =
    let before = g.S.Source.state c.args.source.now in
    let refuses = c.in-Refused.ensures.steps before [] [] (c.in-Ok.ensures before) in
    let it = refuses.refuses in
    record { refused = (it.why, it.stage) }

pub returns-in-Refused-clause-filters : goal.returns-in-Refused-clause-filters
returns-in-Refused-clause-filters g c =
    let a = asking c.args.range (asked_topic c.args.topic) in
    let before = g.S.Source.state c.args.source.now in
    let now = g.S.Source.state c.advance.new.source in
    let opened = g.L.LiveStore.state c.args.store in
    refused_filters a c.args.chunk before now opened c.advance.new.self c.refusal_of-why.result (c.in-Refused.ensures.steps before [] [] (c.in-Ok.ensures before)) c.refusal_of-why.ensures

pub returns-in-Err-profile_in-clause-filters : goal.returns-in-Err-profile_in-clause-filters
returns-in-Err-profile_in-clause-filters g c =
    let a = asking c.args.range (asked_topic c.args.topic) in
    let before = g.S.Source.state c.args.source.now in
    let now = g.S.Source.state c.advance.new.source in
    let opened = g.L.LiveStore.state c.args.store in
    subst (λ r. Filters a c.args.chunk before now opened opened (Err r)) (sym c.lacked-in-Err-profile_in.ensures)
    (unnamed_filters a c.args.chunk before now opened c.advance.new.self _ _ (c.in-Record.ensures.steps before [] [] (c.in-Ok.ensures before))
    (λ f shows. c.in-Err-profile_in.ensures.lacks f (subst (λ (l : List ℕ). ShowsHeader l f) (sym c.content.ensures) shows)))

pub open-requires-clause-profile : goal.open-requires-clause-profile
open-requires-clause-profile g c =
    let before = g.S.Source.state c.args.source.now in
    let now = g.S.Source.state c.advance.new.source in
    let begins = begun_header (HasEnded before now) c.advance.new.self before now _ _ c.in-Ok-profile_in.profile (c.in-Record.ensures.steps before [] [] (c.in-Ok.ensures before)) (λ f shows. c.in-Ok-profile_in.ensures.profile f (subst (λ (l : List ℕ). ShowsHeader l f) (sym c.content.ensures) shows)) in
    begins.short

pub returns-in-Err-open-clause-filters : goal.returns-in-Err-open-clause-filters
returns-in-Err-open-clause-filters g c =
    let a = asking c.args.range (asked_topic c.args.topic) in
    let before = g.S.Source.state c.args.source.now in
    let now = g.S.Source.state c.advance.new.source in
    open_filters a c.args.chunk c.in-Ok-profile_in.profile before now (g.L.LiveStore.state c.args.store) (g.L.LiveStore.state c.in-Err-open.store) c.advance.new.self c.in-Err-open.stop (begun_header (HasEnded before now) c.advance.new.self before now _ _ c.in-Ok-profile_in.profile (c.in-Record.ensures.steps before [] [] (c.in-Ok.ensures before)) (λ f shows. c.in-Ok-profile_in.ensures.profile f (subst (λ (l : List ℕ). ShowsHeader l f) (sym c.content.ensures) shows))) c.in-Err-open.ensures.cause c.in-Err-open.ensures.refused

pub pick_on-requires-clause-some : goal.pick_on-requires-clause-some
pick_on-requires-clause-some g c =
    let state = g.L.LiveStore.state in
    let a = asking c.args.range (asked_topic c.args.topic) in
    let before = g.S.Source.state c.args.source.now in
    let mid = g.S.Source.state c.advance.new.source in
    let opened = state c.args.store in
    let profile = c.in-Ok-profile_in.profile in
    let options = recovered_options profile c.args.chunk in
    let begins = begun_header (HasEnded before mid) c.advance.new.self before mid _ _ profile (c.in-Record.ensures.steps before [] [] (c.in-Ok.ensures before)) (λ f shows. c.in-Ok-profile_in.ensures.profile f (subst (λ (l : List ℕ). ShowsHeader l f) (sym c.content.ensures) shows)) in
    let first = begin_picking state (start a options before opened) mid c.advance.new.self c.keeping_of-k.result c.no_choices-choices.result begins
    (record {
      writes = subst (λ s. WritesHistory state options [] opened [] s) (sym c.keeping_of-k.ensures.scribe) c.in-Ok-open.ensures.stands;
      counts = λ going. c.keeping_of-k.ensures.counts;
    }) c.no_choices-choices.ensures.schemas c.no_choices-choices.ensures.wanted c.no_choices-choices.ensures.passed in
    (options, before, opened, first)

pub returns-in-Ok-Ended-clause-filters : goal.returns-in-Ok-Ended-clause-filters
returns-in-Ok-Ended-clause-filters g c =
    let state = g.L.LiveStore.state in
    let a = asking c.args.range (asked_topic c.args.topic) in
    let before = g.S.Source.state c.args.source.now in
    let mid = g.S.Source.state c.advance.new.source in
    let now = g.S.Source.state c.pick_on.new.source in
    let opened = state c.args.store in
    let profile = c.in-Ok-profile_in.profile in
    let options = recovered_options profile c.args.chunk in
    let begins = begun_header (HasEnded before mid) c.advance.new.self before mid _ _ profile (c.in-Record.ensures.steps before [] [] (c.in-Ok.ensures before)) (λ f shows. c.in-Ok-profile_in.ensures.profile f (subst (λ (l : List ℕ). ShowsHeader l f) (sym c.content.ensures) shows)) in
    let first = begin_picking state (start a options before opened) mid c.advance.new.self c.keeping_of-k.result c.no_choices-choices.result begins
    (record {
      writes = subst (λ s. WritesHistory state options [] opened [] s) (sym c.keeping_of-k.ensures.scribe) c.in-Ok-open.ensures.stands;
      counts = λ going. c.keeping_of-k.ensures.counts;
    }) c.no_choices-choices.ensures.schemas c.no_choices-choices.ensures.wanted c.no_choices-choices.ensures.passed in
    let begun = ap (λ s. (state s.store).faults) c.keeping_of-k.ensures.scribe ∙ c.in-Ok-open.ensures.still in
    end_filters state a c.args.chunk profile before now opened (state c.finish.result.0) c.pick_on.new.reader c.pick_on.new.k c.pick_on.new.choices _ c.finish.result.1
    (subst (λ (o : Over). PicksOn state (start a options before opened) now c.pick_on.new.reader c.pick_on.new.k c.pick_on.new.choices (Ok o)) c.in-Ok-Ended.field-0-is (c.in-Ok-Ended.ensures.picks options before opened first))
    (c.in-Ok-Ended.ensures.cause ∙ begun) c.finish.ensures.ends

pub returns-in-Ok-Ended-clause-stays : goal.returns-in-Ok-Ended-clause-stays
returns-in-Ok-Ended-clause-stays g c = g.S.Source.stays_on c.args.source.now c.advance.new.source c.pick_on.new.source c.advance.ensures.stays c.in-Ok-Ended.ensures.stays

pub refusal_of-why-requires-in-Ok-Refused : goal.refusal_of-why-requires-in-Ok-Refused
refusal_of-why-requires-in-Ok-Refused g c =
    let state = g.L.LiveStore.state in
    let a = asking c.args.range (asked_topic c.args.topic) in
    let before = g.S.Source.state c.args.source.now in
    let mid = g.S.Source.state c.advance.new.source in
    let now = g.S.Source.state c.pick_on.new.source in
    let opened = state c.args.store in
    let profile = c.in-Ok-profile_in.profile in
    let options = recovered_options profile c.args.chunk in
    let begins = begun_header (HasEnded before mid) c.advance.new.self before mid _ _ profile (c.in-Record.ensures.steps before [] [] (c.in-Ok.ensures before)) (λ f shows. c.in-Ok-profile_in.ensures.profile f (subst (λ (l : List ℕ). ShowsHeader l f) (sym c.content.ensures) shows)) in
    let first = begin_picking state (start a options before opened) mid c.advance.new.self c.keeping_of-k.result c.no_choices-choices.result begins
    (record {
      writes = subst (λ s. WritesHistory state options [] opened [] s) (sym c.keeping_of-k.ensures.scribe) c.in-Ok-open.ensures.stands;
      counts = λ going. c.keeping_of-k.ensures.counts;
    }) c.no_choices-choices.ensures.schemas c.no_choices-choices.ensures.wanted c.no_choices-choices.ensures.passed in
    let ends = subst (λ (o : Over). PicksOn state (start a options before opened) now c.pick_on.new.reader c.pick_on.new.k c.pick_on.new.choices (Ok o)) c.in-Ok-Refused.field-0-is (c.in-Ok-Refused.ensures.picks options before opened first) in
    let so = ends.over_so in
    record { refused = (so.0, so.1) }

pub returns-in-Ok-Refused-clause-filters : goal.returns-in-Ok-Refused-clause-filters
returns-in-Ok-Refused-clause-filters g c =
    let state = g.L.LiveStore.state in
    let a = asking c.args.range (asked_topic c.args.topic) in
    let before = g.S.Source.state c.args.source.now in
    let mid = g.S.Source.state c.advance.new.source in
    let now = g.S.Source.state c.pick_on.new.source in
    let opened = state c.args.store in
    let profile = c.in-Ok-profile_in.profile in
    let options = recovered_options profile c.args.chunk in
    let begins = begun_header (HasEnded before mid) c.advance.new.self before mid _ _ profile (c.in-Record.ensures.steps before [] [] (c.in-Ok.ensures before)) (λ f shows. c.in-Ok-profile_in.ensures.profile f (subst (λ (l : List ℕ). ShowsHeader l f) (sym c.content.ensures) shows)) in
    let first = begin_picking state (start a options before opened) mid c.advance.new.self c.keeping_of-k.result c.no_choices-choices.result begins
    (record {
      writes = subst (λ s. WritesHistory state options [] opened [] s) (sym c.keeping_of-k.ensures.scribe) c.in-Ok-open.ensures.stands;
      counts = λ going. c.keeping_of-k.ensures.counts;
    }) c.no_choices-choices.ensures.schemas c.no_choices-choices.ensures.wanted c.no_choices-choices.ensures.passed in
    let begun = ap (λ s. (state s.store).faults) c.keeping_of-k.ensures.scribe ∙ c.in-Ok-open.ensures.still in
    subst (λ s. Filters a c.args.chunk before now opened (state s) (Err (refusals.Refused c.refusal_of-why-in-Ok-Refused.result))) (sym c.into_store.ensures)
    (unread_filters state a c.args.chunk profile before now opened c.pick_on.new.reader c.pick_on.new.k c.pick_on.new.choices c.refusal_of-why-in-Ok-Refused.result
    (subst (λ (o : Over). PicksOn state (start a options before opened) now c.pick_on.new.reader c.pick_on.new.k c.pick_on.new.choices (Ok o)) c.in-Ok-Refused.field-0-is (c.in-Ok-Refused.ensures.picks options before opened first))
    c.refusal_of-why-in-Ok-Refused.ensures c.in-Ok-Refused.ensures.goes_on (c.in-Ok-Refused.ensures.cause ∙ begun))

pub returns-in-Ok-Refused-clause-stays : goal.returns-in-Ok-Refused-clause-stays
returns-in-Ok-Refused-clause-stays g c = g.S.Source.stays_on c.args.source.now c.advance.new.source c.pick_on.new.source c.advance.ensures.stays c.in-Ok-Refused.ensures.stays

pub returns-in-Err-pick_on-clause-filters : goal.returns-in-Err-pick_on-clause-filters
returns-in-Err-pick_on-clause-filters g c =
    let state = g.L.LiveStore.state in
    let a = asking c.args.range (asked_topic c.args.topic) in
    let before = g.S.Source.state c.args.source.now in
    let mid = g.S.Source.state c.advance.new.source in
    let now = g.S.Source.state c.pick_on.new.source in
    let opened = state c.args.store in
    let profile = c.in-Ok-profile_in.profile in
    let options = recovered_options profile c.args.chunk in
    let begins = begun_header (HasEnded before mid) c.advance.new.self before mid _ _ profile (c.in-Record.ensures.steps before [] [] (c.in-Ok.ensures before)) (λ f shows. c.in-Ok-profile_in.ensures.profile f (subst (λ (l : List ℕ). ShowsHeader l f) (sym c.content.ensures) shows)) in
    let first = begin_picking state (start a options before opened) mid c.advance.new.self c.keeping_of-k.result c.no_choices-choices.result begins
    (record {
      writes = subst (λ s. WritesHistory state options [] opened [] s) (sym c.keeping_of-k.ensures.scribe) c.in-Ok-open.ensures.stands;
      counts = λ going. c.keeping_of-k.ensures.counts;
    }) c.no_choices-choices.ensures.schemas c.no_choices-choices.ensures.wanted c.no_choices-choices.ensures.passed in
    let begun = ap (λ s. (state s.store).faults) c.keeping_of-k.ensures.scribe ∙ c.in-Ok-open.ensures.still in
    subst (λ s. Filters a c.args.chunk before now opened (state s) (Err (refusals.Stopped c.in-Err-pick_on.stop))) (sym c.into_store-in-Err-pick_on.ensures)
    (cut_filters state a c.args.chunk profile before now opened c.pick_on.new.k c.in-Err-pick_on.stop
    (subst (λ (n : ℕ). StopCause n (state c.pick_on.new.k.scribe.store).faults c.in-Err-pick_on.stop) begun c.in-Err-pick_on.ensures.cause) (c.in-Err-pick_on.ensures.picks options before opened first))

pub returns-in-Err-pick_on-clause-stays : goal.returns-in-Err-pick_on-clause-stays
returns-in-Err-pick_on-clause-stays g c = g.S.Source.stays_on c.args.source.now c.advance.new.source c.pick_on.new.source c.advance.ensures.stays c.in-Err-pick_on.ensures.stays
