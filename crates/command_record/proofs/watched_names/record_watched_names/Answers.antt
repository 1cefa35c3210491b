-- All names were opened, or one of the feeds wasn't.
use Rattle.std.proofs.Common.{◌≡◌, refl, sym, ap, subst, ◌∙◌, ℕ, Bool, length, map, take, rules, []}
use Rattle.std.specs.Prelude.{Vec}
use Rattle.std.proofs.lemmas.List.{length-map}
use Rattle.mcap_io.specs.declared.outside.ObjectKind.TheVariants as kinds
use Rattle.command_base.specs.InputsSteps.{source_keeping, SourceSeen}
use Rattle.command_base.proofs.SomeInputs.{opened_states, refused_states, kept_states}
use Rattle.command_record.specs.Sources.{FeedsKept}
use Rattle.command_record.proofs.Runs.{nothing_opened, feed_refused}
use Rattle.command_record.proofs.WatchedRuns.{unreached}
use Rattle.command_record.proofs.watched_names.record_watched_names.Goals as goal

pub returns-in-Err-clause-recorded : goal.returns-in-Err-clause-recorded
returns-in-Err-clause-recorded g c =
    let world = g.W.World.state c.args.world.now in
    let outcome = c.unwatched.result in
    let no_feeds : outcome.feeds_failed.items ≡ [] = search rules in
    let no_flags : outcome.watches_failed.items ≡ [] = search rules in
    let made = nothing_opened c.args.out.now c.args.feeds.now world outcome c.requires.few.0 c.requires.world_fits c.requires.inputs_fit c.requires.outputs_fit (c.unwatched.ensures.report, no_feeds, c.unwatched.ensures.failed.1) in
    unreached c.args.options.now c.args.range c.args.out.now c.args.watch_names.now c.args.feeds.now world world outcome c.requires.apart made refl c.requires.watches_fit c.unwatched.ensures.watches no_flags

pub returns-in-Ok-open_inputs-clause-recorded : goal.returns-in-Ok-open_inputs-clause-recorded
returns-in-Ok-open_inputs-clause-recorded g c =
    let world = g.W.World.state c.args.world.now in
    c.open_output.ensures.recorded world
    (opened_states g.W.Source.Source.state kinds.Source SourceSeen world (g.W.World.state c.open_inputs.new.world) c.args.feeds.now c.open_inputs.new.objects.items c.in-Ok-open_inputs.ensures.all)
    (record { world = c.requires.world_fits; inputs = c.requires.inputs_fit; outputs = c.requires.outputs_fit; watches = c.requires.watches_fit })

pub returns-in-Err-open_inputs-clause-recorded : goal.returns-in-Err-open_inputs-clause-recorded
returns-in-Err-open_inputs-clause-recorded g c =
    let state = g.W.Source.Source.state in
    let sources = c.open_inputs.new.objects.items in
    let at_end : c.len.result ≡ length sources = search rules in
    let many : c.len.result ≡ length (map state sources) = at_end ∙ sym (length-map sources state) in
    let w0 = g.W.World.state c.args.world.now in
    let w2 = g.W.World.state c.open_inputs.new.world in
    let w3 = g.W.World.state c.keep_inputs.new.world in
    let outcome = c.unwatched-in-Err-open_inputs.result in
    let no_flags : outcome.watches_failed.items ≡ [] = search rules in
    let kept : FeedsKept w2 w3 (take (length (map state sources)) c.args.feeds.now) (map state sources) c.keep_inputs.new.failed.items =
    subst (λ (n : ℕ). FeedsKept w2 w3 (take n c.args.feeds.now) (map state sources) c.keep_inputs.new.failed.items) many
    (kept_states state kinds.Source source_keeping w2 w3 _ sources c.keep_inputs.new.failed.items c.keep_inputs.ensures.kept) in
    let refuses = refused_states state kinds.Source SourceSeen w0 w2 c.args.feeds.now sources c.in-Err-open_inputs.why c.in-Err-open_inputs.ensures.some in
    let made = feed_refused c.args.out.now c.args.feeds.now w0 w2 w3 (map state sources) c.keep_inputs.new.failed.items c.in-Err-open_inputs.why c.is_failed.result outcome refuses kept c.requires.world_fits c.requires.inputs_fit c.requires.outputs_fit c.is_failed.ensures.failed c.is_failed.ensures.memory
    (c.unwatched-in-Err-open_inputs.ensures.report, ap (λ (v : Vec Bool _). v.items) c.unwatched-in-Err-open_inputs.ensures.failed.0 ∙ c.add_refused.ensures, c.unwatched-in-Err-open_inputs.ensures.failed.1) in
    unreached c.args.options.now c.args.range c.args.out.now c.args.watch_names.now c.args.feeds.now w0 w3 outcome c.requires.apart made
    (kept.watches ∙ refuses.stands.watches ∙ refuses.first.stands.watches) c.requires.watches_fit c.unwatched-in-Err-open_inputs.ensures.watches no_flags
