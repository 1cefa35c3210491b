use Rattle.std.proofs.Common.{subst}
use Rattle.mcap_io.specs.Outside.{SinkState}
use Rattle.command_base.specs.Ran.{Complains}
use Rattle.command_base.specs.ComplaintTroubles.{complained}
use Rattle.command_read.specs.TwoFilesSteps.{due_of_two}
use Rattle.command_read.proofs.TwoFiles.{reads_two}
use Rattle.command_read.proofs.TwoDue.{shows_two}
use Rattle.command_read.proofs.two_files.answer_two.Goals as goal

pub returns : goal.returns
returns g c = λ old entries second ending counted same finds.
    let found = c.args.found in
    let faults = c.two_faults-faults.result in
    reads_two c.args.names.file.now c.args.names.other.now old (g.W.World.state c.args.world.now) (g.O.Sink.state c.args.out.now) (g.E.Sink.state c.complain_of_two.new.err) entries second ending found faults c.complain_of_two.result finds
    (shows_two c.args.before.now _ c.of-now.result _ found.file_failed found.other_failed found.broke faults counted c.of-now.ensures.are c.two_faults-faults.ensures)
    (subst (λ (s : SinkState). Complains (due_of_two c.args.names.file.now c.args.names.other.now (complained found.file_halt) (complained found.other_halt) faults found.lacked) s (g.E.Sink.state c.complain_of_two.new.err) c.complain_of_two.result) same c.complain_of_two.ensures)
