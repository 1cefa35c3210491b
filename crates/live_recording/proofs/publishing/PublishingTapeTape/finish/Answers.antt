use Rattle.std.proofs.Common.{◌≡◌, ◌++◌, List, [], ◌∷◌, Option, Some, refl, sym, ap, subst, ◌∙◌, arith}
use Rattle.std.proofs.lemmas.Option.{none-some}
use Rattle.live_entry.specs.declared.entry.Entry.{Entry}
use Rattle.live_entry.specs.Entries.{EntriesFollow}
use Rattle.chunk_writer.specs.declared.scribe.Scribe.{Scribe}
use Rattle.chunk_writer.specs.Tapes.{EndsFor, seen_store, EndsOn, MeetsLimit}
use Rattle.chunk_writer.proofs.Taped.{meets, ends_for}
use Rattle.live_recording.proofs.Follows.{last_follows, all_since}
use Rattle.live_recording.proofs.Given.{gives_same}
use Rattle.live_recording.proofs.publishing.PublishingTapeTape.finish.Goals as goal

pub publish-requires-clause-follow : goal.publish-requires-clause-follow
publish-requires-clause-follow g c = λ is.
    let (taken, has) = c.requires.behind in
    let on = has.grown.2 in
    let last = c.finish-last in
    let all : EndsOn (seen_store g.L.LiveStore.state (λ e. g.L.Extent.Extent.tells e) (λ e. g.L.Extent.Extent.size e)) c.args.self.now.scribe last.new.self last.result.last (record { blocks = c.finish-last.result.blocks; bytes = c.finish-last.result.bytes }) last.result.end = record {
      file = last.ensures.ends;
      last_is = last.ensures.last;
      counted = last.ensures.counted;
      within = last.ensures.within;
      cause = last.ensures.cause;
      kept = last.ensures.kept;
    } in
    let ended = subst (λ (o : Option (Entry g.row.L-Extent.Denot)). EndsOn (seen_store g.L.LiveStore.state (λ e. g.L.Extent.Extent.tells e) (λ e. g.L.Extent.Extent.size e)) c.args.self.now.scribe last.new.self o (record { blocks = c.finish-last.result.blocks; bytes = c.finish-last.result.bytes }) last.result.end) c.in-Some.is all in
    let nothing : c.replace-entries.result.items ≡ [] = grind (arith, c.replace-entries.ensures.value, has.grown.1, has.begun.1) in
    let pushed : c.push_reserved.new.self.items ≡ c.in-Some.entry ∷ [] = c.push_reserved.ensures.items ∙ ap (λ (l : List (Entry g.row.L-Extent.Denot)). l ++ c.in-Some.entry ∷ []) nothing in
    subst (λ (l : List (Entry g.row.L-Extent.Denot)). EntriesFollow (λ e. g.L.Extent.Extent.tells e) (l ++ c.push_reserved.new.self.items)) (sym (all_since _ _ on.given has.begun.0.empty on.published is))
    (subst (λ (l : List (Entry g.row.L-Extent.Denot)). EntriesFollow (λ e. g.L.Extent.Extent.tells e) (on.given ++ l)) (sym pushed)
    (last_follows {X = g.row.L-Extent.Denot} g.L.LiveStore.state (λ e. g.L.Extent.Extent.tells e) (λ e. g.L.Extent.Extent.size e) _ c.args.self.now.scribe last.new.self taken on.given c.in-Some.entry (record { blocks = c.finish-last.result.blocks; bytes = c.finish-last.result.bytes }) last.result.end has.begun.0 on.took ended c.requires.unended has.numbered has.kept))

pub returns-in-Some-clause-ends : goal.returns-in-Some-clause-ends
returns-in-Some-clause-ends g c =
    let (taken, has) = c.requires.behind in
    let last = c.finish-last in
    let all : EndsOn (seen_store g.L.LiveStore.state (λ e. g.L.Extent.Extent.tells e) (λ e. g.L.Extent.Extent.size e)) c.args.self.now.scribe last.new.self last.result.last (record { blocks = c.finish-last.result.blocks; bytes = c.finish-last.result.bytes }) last.result.end = record {
      file = last.ensures.ends;
      last_is = last.ensures.last;
      counted = last.ensures.counted;
      within = last.ensures.within;
      cause = last.ensures.cause;
      kept = last.ensures.kept;
    } in
    let ended = subst (λ (o : Option (Entry g.row.L-Extent.Denot)). EndsOn (seen_store g.L.LiveStore.state (λ e. g.L.Extent.Extent.tells e) (λ e. g.L.Extent.Extent.size e)) c.args.self.now.scribe last.new.self o (record { blocks = c.finish-last.result.blocks; bytes = c.finish-last.result.bytes }) last.result.end) c.in-Some.is all in
    let nothing : c.replace-entries.result.items ≡ [] = grind (arith, c.replace-entries.ensures.value, has.grown.1, has.begun.1) in
    let pushed : c.push_reserved.new.self.items ≡ c.in-Some.entry ∷ [] = c.push_reserved.ensures.items ∙ ap (λ (l : List (Entry g.row.L-Extent.Denot)). l ++ c.in-Some.entry ∷ []) nothing in
    let done = c.publish.ensures in (
      done.lent,
      record {
        given = Some c.in-Some.entry;
        ended = subst (λ (s : Scribe _). EndsOn (seen_store g.L.LiveStore.state (λ e. g.L.Extent.Extent.tells e) (λ e. g.L.Extent.Extent.size e)) c.args.self.now.scribe s (Some c.in-Some.entry) (record { blocks = c.finish-last.result.blocks; bytes = c.finish-last.result.bytes }) last.result.end) (sym done.scribe.0) ended;
        published = gives_same _ _ _ _ pushed done.gives;
        none = refl;
      },
    )

pub returns-in-Some-clause-kept : goal.returns-in-Some-clause-kept
returns-in-Some-clause-kept g c = λ stop is. absurd (none-some c.in-Some.entry (sym (c.finish-last.ensures.kept stop is).1 ∙ c.in-Some.is))

pub returns-in-Some-clause-cause : goal.returns-in-Some-clause-cause
returns-in-Some-clause-cause g c = λ going.
    let state = g.L.LiveStore.state in
    let last = c.finish-last in
    subst (λ (s : Scribe _). EndsFor {X = Unit {0}} (state c.args.self.now.scribe.store).faults (state s.store).faults (MeetsLimit state s) last.result.end) (sym c.publish.ensures.scribe.0)
    (ends_for _ _ last.new.self.plan.phase (MeetsLimit state last.new.self) last.result.end (last.ensures.cause going) last.ensures.stopped (meets state last.new.self))

pub returns-in-None-clause-cause : goal.returns-in-None-clause-cause
returns-in-None-clause-cause g c = λ going.
    let last = c.finish-last in
    ends_for _ _ last.new.self.plan.phase (MeetsLimit g.L.LiveStore.state last.new.self) last.result.end (last.ensures.cause going) last.ensures.stopped (meets g.L.LiveStore.state last.new.self)
