-- The output wasn't given.
use Rattle.std.proofs.Common.{ap, ◌∙◌, Bool, map}
use Rattle.std.specs.Prelude.{Vec}
use Rattle.mcap_io.specs.declared.outside.ObjectKind.TheVariants as kinds
use Rattle.command_base.specs.InputsSteps.{source_keeping}
use Rattle.command_base.proofs.SomeInputs.{kept_states}
use Rattle.command_record.proofs.Runs.{out_refused}
use Rattle.command_record.proofs.WatchedRuns.{unreached}
use Rattle.command_record.proofs.watched_names.open_output.Goals as goal

pub returns-in-Err-clause-recorded : goal.returns-in-Err-clause-recorded
returns-in-Err-clause-recorded g c = λ before opened fits.
    let state = g.W.Source.Source.state in
    let sources = c.args.rooms.sources.items in
    let w2 = g.W.World.state c.live.new.self in
    let w3 = g.W.World.state c.keep_inputs.new.world in
    let outcome = c.unwatched.result in
    let kept = kept_states state kinds.Source source_keeping w2 w3 c.args.feeds.now sources c.keep_inputs.new.failed.items c.keep_inputs.ensures.kept in
    let made = out_refused c.args.out.now c.args.feeds.now before (g.W.World.state c.args.world.now) w2 w3 (map state sources) c.keep_inputs.new.failed.items c.in-Err.why c.is_failed.result outcome
    opened c.in-Err.ensures.opens c.in-Err.ensures.counts c.in-Err.ensures.cause kept fits.world fits.inputs fits.outputs c.is_failed.ensures.failed c.is_failed.ensures.memory
    (c.unwatched.ensures.report, ap (λ (v : Vec Bool _). v.items) c.unwatched.ensures.failed.0, c.unwatched.ensures.failed.1) in
    unreached c.args.options.now c.args.range c.args.out.now c.args.watch_names.now c.args.feeds.now before w3 outcome c.requires.apart made
    (kept.watches ∙ c.in-Err.ensures.counts.watches ∙ opened.stands.watches) fits.watches c.unwatched.ensures.watches
    (ap (λ (v : Vec Bool _). v.items) c.unwatched.ensures.failed.2 ∙ c.new.ensures.items)
