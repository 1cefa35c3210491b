-- What the calls did is what is promised of a command that reads one file.
use Rattle.std.proofs.Common.{◌∙◌}
use Rattle.command_base.specs.Scenes.{scene}
use Rattle.command_base.specs.Readings.{ending_of}
use Rattle.command_base.proofs.OneFile.{shows_at, reads_one}
use Rattle.command_base.proofs.ReadNames.{reading_halts}
use Rattle.command_base.proofs.file_reading.answer_reading.Goals as goal

pub returns : goal.returns
returns g c = λ kind old entries counted name sure.
    let file = c.args.file.now in
    let text = g.K.FileReading.text c.args.what.now in
    let refusal = g.K.FileReading.ending c.args.what.now file in
    let reading = c.args.read.now.reading in
    let failed = c.args.read.now.failed in
    let broke = c.print_reading-broke.result in
    let faults = c.faults_of-faults.result in
    reads_one kind file
    (scene old (g.O.Sink.state c.args.out.now) (g.E.Sink.state c.args.err.now))
    (scene (g.W.World.state c.args.world.now) (g.O.Sink.state c.print_reading-broke.new.out) (g.E.Sink.state c.answer_file.new.err))
    entries (ending_of text refusal reading) (record { broken = failed; broke = broke; faults = faults; answer = c.answer_file.result }) (record {
      name = name;
      sure = sure;
      well = reading_halts text refusal (g.met.K.FileReading.refuses c.args.what.now file) reading;
      prints = c.print_reading-broke.ensures.prints file;
      takes = c.print_reading-broke.ensures.takes file;
      shows = shows_at c.args.before.now _ c.of-now.result _ failed broke faults counted c.of-now.ensures.are c.faults_of-faults.ensures;
      told = c.answer_file.ensures (ending_of text refusal reading) (c.halt_of-halt.ensures ∙ c.print_reading-broke.ensures.halts file) (c.has_lacked-lacked.ensures file ∙ c.print_reading-broke.ensures.lacks file);
    })
