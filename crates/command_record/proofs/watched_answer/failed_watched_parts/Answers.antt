-- The parts are those that the counts and the outcome show.
use Rattle.std.proofs.Common.{ap, ◌∙◌, ◌||◌}
use Rattle.command_base.specs.Outputs.{some_failed}
use Rattle.command_record.proofs.WatchedParts.{watched_parts_show}
use Rattle.command_record.proofs.watched_answer.failed_watched_parts.Goals as goal

pub returns : goal.returns
returns c = λ watches feeds many_watches many. watched_parts_show c.args.before.now c.args.now.now watches feeds c.args.outcome.now _ c.has_some-some_feed.result c.has_some-some_watch.result c.either_holds-told.result c.rose-world.result c.rose-inputs.result c.rose-outputs.result c.rose-sinks.result many_watches many
    (c.has_some-some_feed.ensures ∙ ap some_failed c.as_slice.ensures.value) (c.has_some-some_watch.ensures ∙ ap some_failed c.as_slice-2.ensures.value) c.either_holds-told.ensures
    c.rose-world.ensures c.rose-inputs.ensures c.rose-outputs.ensures c.rose-sinks.ensures c.rose.ensures c.as_slice-3.ensures.value c.as_slice-4.ensures.value c.holds_alone.ensures c.holds_alone-3.ensures
    (c.any_holds.ensures ∙ ap (λ b. c.args.outcome.now.out_failed || (c.rose-outputs.result || b)) c.holds_alone-2.ensures) c.requires.feed_cause c.requires.out_cause c.requires.watch_cause
