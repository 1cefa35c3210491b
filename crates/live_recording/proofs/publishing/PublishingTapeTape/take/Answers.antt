use Rattle.std.proofs.Common.{◌≡◌, ◌+◌, ◌++◌, List, length, sym, subst}
use Rattle.live_entry.specs.declared.entry.Entry.{Entry}
use Rattle.live_entry.specs.Entries.{EntriesFollow}
use Rattle.chunk_writer.specs.declared.scribe.Scribe.{Scribe}
use Rattle.chunk_writer.specs.Limits.{Holds}
use Rattle.chunk_writer.specs.Scribes.{blocks_of, planned_bytes}
use Rattle.chunk_writer.specs.Tapes.{EndsFor, seen_store, TakesOn, MeetsLimit}
use Rattle.chunk_writer.proofs.Taped.{takes, meets, ends_for}
use Rattle.live_recording.proofs.Follows.{taken_follow, known_since, unsealed_since, all_since}
use Rattle.live_recording.proofs.publishing.PublishingTapeTape.take.Goals as goal

pub publish-requires-clause-known : goal.publish-requires-clause-known
publish-requires-clause-known g c =
    let has = c.requires.behind.has in
    let on = has.grown.2 in
    known_since _ _ on.given has.begun.0.empty on.published

pub publish-requires-clause-unsealed : goal.publish-requires-clause-unsealed
publish-requires-clause-unsealed g c =
    let has = c.requires.behind.has in
    let on = has.grown.2 in
    unsealed_since _ _ on.given has.begun.0.empty on.published

pub publish-requires-clause-follow : goal.publish-requires-clause-follow
publish-requires-clause-follow g c = λ is.
    let behind = c.requires.behind in
    let has = behind.has in
    let on = has.grown.2 in
    let took = c.take-cache in
    let calls = takes {X = g.row.L-Extent.Denot} g.L.LiveStore.state (λ e. g.L.Extent.Extent.tells e) (λ e. g.L.Extent.Extent.size e) c.args.self.now.scribe took.new.self c.args.full.records took.result.entries.items took.result.end
    took.ensures.grows took.ensures.front took.ensures.keeps took.ensures.goes_on took.ensures.stopped took.ensures.through took.ensures.kept took.ensures.cause in
    subst (λ (l : List (Entry g.row.L-Extent.Denot)). EntriesFollow (λ e. g.L.Extent.Extent.tells e) (l ++ took.result.entries.items)) (sym (all_since _ _ on.given has.begun.0.empty on.published is))
    (taken_follow {X = g.row.L-Extent.Denot} g.L.LiveStore.state (λ e. g.L.Extent.Extent.tells e) (λ e. g.L.Extent.Extent.size e) _ c.args.self.now.scribe took.new.self behind.taken c.args.full.records on.given took.result.entries.items has.begun.0 on.took calls took.ensures.within behind.numbered has.kept behind.kept)

pub returns-clause-grows : goal.returns-clause-grows
returns-clause-grows g c =
    let took = c.take-cache in
    let done = c.publish.ensures in
    let calls = takes {X = g.row.L-Extent.Denot} g.L.LiveStore.state (λ e. g.L.Extent.Extent.tells e) (λ e. g.L.Extent.Extent.size e) c.args.self.now.scribe took.new.self c.args.full.records took.result.entries.items took.result.end
    took.ensures.grows took.ensures.front took.ensures.keeps took.ensures.goes_on took.ensures.stopped took.ensures.through took.ensures.kept took.ensures.cause in (
      done.lent,
      done.scribe.1,
      record {
        given = took.result.entries.items;
        took = subst (λ (s : Scribe _). TakesOn (seen_store g.L.LiveStore.state (λ e. g.L.Extent.Extent.tells e) (λ e. g.L.Extent.Extent.size e)) c.args.self.now.scribe s c.args.full.records took.result.entries.items) (sym done.scribe.0) calls;
        published = done.gives;
        counted = subst (λ (s : Scribe _). blocks_of s ≡ blocks_of c.args.self.now.scribe + length took.result.entries.items) (sym done.scribe.0) took.ensures.counted;
        within = λ holds. subst (λ (s : Scribe _). Holds (blocks_of s) (planned_bytes s)) (sym done.scribe.0) took.ensures.within;
        none = c.new.ensures.items;
      },
    )

pub returns-clause-cause : goal.returns-clause-cause
returns-clause-cause g c = λ going.
    let state = g.L.LiveStore.state in
    let took = c.take-cache in
    subst (λ (s : Scribe _). EndsFor {X = Unit {0}} (state c.args.self.now.scribe.store).faults (state s.store).faults (MeetsLimit state s) took.result.end) (sym c.publish.ensures.scribe.0)
    (ends_for _ _ took.new.self.plan.phase (MeetsLimit state took.new.self) took.result.end (took.ensures.cause going) took.ensures.stopped (meets state took.new.self))
