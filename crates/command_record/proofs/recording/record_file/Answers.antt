-- What the calls did is what the program promises of a recording.
use Rattle.std.proofs.Common.{◌⊎◌}
use Rattle.mcap_io.specs.Outside.{Rose}
use Rattle.command_record.specs.declared.watched_answer.WatchedCounts.{WatchedCounts}
use Rattle.command_base.specs.Scenes.{scene}
use Rattle.command_record.proofs.WatchedAnswered.{some_counted, watched_counts_same, watched_shows_in, watched_recorded, with_report, listed_so}
use Rattle.command_record.specs.Watched.{requested}
use Rattle.command_record.proofs.WatchedFlags.{rose_some, watched_outcomes_show}
use Rattle.command_record.proofs.recording.record_file.Goals as goal

pub failed_watched_parts-failed-requires-clause-feed_cause : goal.failed_watched_parts-failed-requires-clause-feed_cause
failed_watched_parts-failed-requires-clause-feed_cause g c = λ failed.
    watched_counts_same (λ (x y : WatchedCounts). Rose x.seen.world y.seen.world ⊎ Rose x.seen.inputs y.seen.inputs) c.of-before.result _ c.of-now.result _ c.of-before.ensures.are c.of-now.ensures.are
    ((watched_outcomes_show c.args.options.now c.args.range c.args.out_name.now c.args.watch_names.now c.args.feed_names.now (g.W.World.state c.args.world.now) (g.W.World.state c.record_watched_names-outcome.new.world) c.record_watched_names-outcome.result c.record_watched_names-outcome.ensures.recorded c.of-before.ensures.world_fits c.of-before.ensures.inputs_fit c.of-before.ensures.outputs_fit).feed_cause failed)

pub failed_watched_parts-failed-requires-clause-out_cause : goal.failed_watched_parts-failed-requires-clause-out_cause
failed_watched_parts-failed-requires-clause-out_cause g c = λ failed.
    watched_counts_same (λ (x y : WatchedCounts). Rose x.seen.world y.seen.world ⊎ Rose x.seen.outputs y.seen.outputs) c.of-before.result _ c.of-now.result _ c.of-before.ensures.are c.of-now.ensures.are
    ((watched_outcomes_show c.args.options.now c.args.range c.args.out_name.now c.args.watch_names.now c.args.feed_names.now (g.W.World.state c.args.world.now) (g.W.World.state c.record_watched_names-outcome.new.world) c.record_watched_names-outcome.result c.record_watched_names-outcome.ensures.recorded c.of-before.ensures.world_fits c.of-before.ensures.inputs_fit c.of-before.ensures.outputs_fit).out_cause failed)

pub failed_watched_parts-failed-requires-clause-watch_cause : goal.failed_watched_parts-failed-requires-clause-watch_cause
failed_watched_parts-failed-requires-clause-watch_cause g c = λ failed.
    watched_counts_same (λ (x y : WatchedCounts). Rose x.seen.world y.seen.world ⊎ (Rose x.seen.outputs y.seen.outputs ⊎ Rose x.watches y.watches)) c.of-before.result _ c.of-now.result _ c.of-before.ensures.are c.of-now.ensures.are
    ((watched_outcomes_show c.args.options.now c.args.range c.args.out_name.now c.args.watch_names.now c.args.feed_names.now (g.W.World.state c.args.world.now) (g.W.World.state c.record_watched_names-outcome.new.world) c.record_watched_names-outcome.result c.record_watched_names-outcome.ensures.recorded c.of-before.ensures.world_fits c.of-before.ensures.inputs_fit c.of-before.ensures.outputs_fit).watch_cause failed)

pub returns-clause-recorded : goal.returns-clause-recorded
returns-clause-recorded g c =
    let old = scene (g.W.World.state c.args.world.now) (g.O.Sink.state c.args.out.now) (g.E.Sink.state c.args.err.now) in
    let new = scene (g.W.World.state c.record_watched_names-outcome.new.world) (g.O.Sink.state c.print_outcome.new.out) (g.E.Sink.state c.answer_watched-status.new.err) in
    with_report (requested c.args.options.now c.args.range c.args.out_name.now c.args.watch_names.now c.args.feed_names.now) old new c.record_watched_names-outcome.result.report c.record_watched_names-outcome.result.sealed c.record_watched_names-outcome.result.watches.items c.report_of.result c.answer_watched-status.result c.report_of.ensures
    (watched_recorded c.args.options.now c.args.range c.args.out_name.now c.args.watch_names.now c.args.feed_names.now old new
    c.record_watched_names-outcome.result c.failed_watched_parts-failed.result c.answer_watched-status.result c.requires.few.0 c.of-before.ensures.inputs_fit c.of-before.ensures.outputs_fit c.record_watched_names-outcome.ensures.recorded
    (watched_outcomes_show c.args.options.now c.args.range c.args.out_name.now c.args.watch_names.now c.args.feed_names.now old.world new.world c.record_watched_names-outcome.result c.record_watched_names-outcome.ensures.recorded c.of-before.ensures.world_fits c.of-before.ensures.inputs_fit c.of-before.ensures.outputs_fit)
    c.print_outcome.ensures c.answer_watched-status.ensures
    (watched_shows_in c.of-before.result _ c.of-now.result _ c.args.watch_names.now c.args.feed_names.now c.record_watched_names-outcome.result c.failed_watched_parts-failed.result c.of-before.ensures.are c.of-now.ensures.are (c.failed_watched_parts-failed.ensures c.args.watch_names.now c.args.feed_names.now (some_counted c.of-before.result _ c.of-now.result _ c.args.watch_names.now c.of-before.ensures.are c.of-now.ensures.are (rose_some c.args.watch_names.now old.world.watch_faults new.world.watch_faults)) c.requires.few.0)))

pub returns-clause-listed : goal.returns-clause-listed
returns-clause-listed g c = listed_so c.args.listed c.record_watched_names-outcome.result.report c.record_watched_names-outcome.result.sealed c.record_watched_names-outcome.result.watches.items c.report_of.result c.report_of.ensures c.record_watched_names-outcome.ensures.listed
