-- The words derive the one command that ran, whose numbers are in their ranges and whose status isn't that of bad words.
use Rattle.std.proofs.Common.{◌⊎◌, ℕ, List, ◌++◌, Option, sym, ap, subst, inl, Err, ◌∙◌}
use Rattle.command_words.specs.declared.command.Command.{Command}
use Rattle.mcap_app.specs.declared.program.Exit.{Exit}
use Rattle.command_record.specs.declared.recording.RecordingReport.{RecordingReport}
use Rattle.command_base.specs.Printing.{Takes}
use Rattle.command_base.specs.Scenes.{scene}
use Rattle.command_base.specs.ComplaintTroubles.{bad_words_line}
use Rattle.mcap_app.specs.Runs.{Does, LacksForWords}
use Rattle.mcap_app.proofs.Running.{allowed, no_bad_words}
use Rattle.mcap_app.proofs.program.run.Goals as goal

pub run_command-requires-after_bounds : goal.run_command-requires-after_bounds
run_command-requires-after_bounds g c κs within = allowed c.args.words.now c.in-Ok.command c.in-Ok.ensures.command

pub returns-in-Ok-clause-bad : goal.returns-in-Ok-clause-bad
returns-in-Ok-clause-bad g c = λ two. absurd (no_bad_words c.run_command.result.status c.exit_of.result.number c.exit_of.ensures.number two)

pub returns-in-Ok-clause-runs : goal.returns-in-Ok-clause-runs
returns-in-Ok-clause-runs g c = λ command derives.
    let old = scene (g.W.World.state c.args.world.now) (g.O.Sink.state c.args.out.now) (g.E.Sink.state c.args.err.now) in
    let new = scene (g.W.World.state c.run_command.new.world) (g.O.Sink.state c.run_command.new.out) (g.E.Sink.state c.run_command.new.err) in
    let status = c.run_command.result.status in
    let did = subst (λ (r : Option RecordingReport). Does c.in-Ok.command old new r status ⊎ LacksForWords old new r status) (sym c.exit_of.ensures.report) c.run_command.ensures.runs in (
      status,
      subst (λ (x : Command). Does x old new c.exit_of.result.report status ⊎ LacksForWords old new c.exit_of.result.report status) (sym (c.in-Ok.ensures.only command derives)) did,
      c.exit_of.ensures.number,
    )

pub returns-in-Ok-clause-listed : goal.returns-in-Ok-clause-listed
returns-in-Ok-clause-listed g c = λ r is. c.run_command.ensures.listed r (sym c.exit_of.ensures.report ∙ is)

pub returns-in-Err-BadWords-clause-bad : goal.returns-in-Err-BadWords-clause-bad
returns-in-Err-BadWords-clause-bad g c = λ two. c.in-Err-BadWords.ensures.bad (ap Err c.in-Err-BadWords.field-0-is)

pub returns-in-Err-BadWords-clause-err : goal.returns-in-Err-BadWords-clause-err
returns-in-Err-BadWords-clause-err g c = λ bad.
    let taken = subst (λ (u : List ℕ). Takes (g.E.Sink.state c.args.err.now) (g.E.Sink.state c.refuse_words.new.err) (bad_words_line ++ u)) c.usage.ensures c.refuse_words.ensures in
    inl (ap (λ (e : Exit). e.number) c.exit_with.ensures, taken)

pub returns-in-Err-BadWords-clause-runs : goal.returns-in-Err-BadWords-clause-runs
returns-in-Err-BadWords-clause-runs g c = λ command derives. absurd (c.in-Err-BadWords.ensures.bad (ap Err c.in-Err-BadWords.field-0-is) command derives)
