-- The opening, the reading and the keeping come to what becomes of the name.
use Rattle.std.proofs.Common.{◌≡◌, Bool, sym, ap, refl, subst, ◌∙◌}
use Rattle.mcap_io.specs.OutsideCalls.{went_well}
use Rattle.mcap_io.specs.declared.outside.ObjectKind.TheVariants as kinds
use Rattle.command_base.specs.Ran.{failed_so}
use Rattle.command_base.specs.declared.file_reading.Reading.TheVariants as readings
use Rattle.command_base.specs.Readings.{ending_of, SourceUnder, IsSourceRead}
use Rattle.command_base.specs.ReadingSteps.{NameEnds}
use Rattle.command_base.proofs.Opened.{source_keeping}
use Rattle.command_base.specs.InputKinds.{source_input}
use Rattle.command_base.proofs.OneFile.{same_back}
use Rattle.command_base.proofs.ReadNames.{unopened_ends, opened_ends}
use Rattle.command_base.proofs.source_reading.read_source_name.Goals as goal

pub returns-in-Err : goal.returns-in-Err
returns-in-Err g c =
    let file = c.args.file.now in
    let world = g.W.World.state c.args.world.now in
    let opened = g.W.World.state c.source.new.self in
    let text = g.K.FileReading.text c.args.what.now in
    let ending = g.K.FileReading.ending c.args.what.now file in
    subst (λ (f : Bool). NameEnds kinds.Source file world opened (λ entries. IsSourceRead (g.K.SourceReading.comes c.args.what.now) file world entries (readings.Unopened c.in-Err.why)) (ending_of text ending (readings.Unopened c.in-Err.why)) f) (sym c.is_failure.ensures)
    (unopened_ends text ending kinds.Source file (SourceUnder (g.K.SourceReading.comes c.args.what.now) file world) world opened c.in-Err.why
    c.in-Err.ensures.opens c.in-Err.ensures.counts c.in-Err.ensures.cause c.requires.world_fits c.requires.inputs_fit c.requires.outputs_fit source_input)

pub returns : goal.returns
returns g c =
    let file = c.args.file.now in
    let world = g.W.World.state c.args.world.now in
    let opened = g.W.World.state c.source.new.self in
    let source = g.W.Source.Source.state c.in-Ok.source in
    let now = g.W.Source.Source.state c.read_source-came.new.source in
    let kept = c.keep_source-kept.result in
    let keeping = source_keeping now kept in
    let failed : failed_so (went_well kept) now.faults ≡ c.has_failed.result = sym (c.has_failed.ensures ∙ ap (failed_so (went_well kept)) c.faults-faults.ensures) in
    opened_ends (g.K.FileReading.text c.args.what.now) (g.K.FileReading.ending c.args.what.now file) kinds.Source file (SourceUnder (g.K.SourceReading.comes c.args.what.now) file world)
    world opened (g.W.World.state c.keep_source-kept.new.self) keeping kept c.read_source-came.result c.has_failed.result (record {
      same = same_back kinds.Source file world opened (g.W.World.state c.keep_source-kept.new.self) keeping c.in-Ok.ensures.opens c.keep_source-kept.ensures.keeps;
      well_is = refl;
      stands = c.in-Ok.ensures.counts;
      still = c.in-Ok.ensures.cause;
      inputs = c.keep_source-kept.ensures.input_faults;
      outputs = c.keep_source-kept.ensures.output_faults;
      cause = c.keep_source-kept.ensures.cause;
      world_fits = c.requires.world_fits;
      inputs_fit = c.requires.inputs_fit;
      outputs_fit = c.requires.outputs_fit;
      input = source_input;
    }) (record { source = source; tells = c.in-Ok.ensures.tells; unused = c.in-Ok.ensures.unused; comes = c.read_source-came.ensures }) failed
    (λ why is e none. g.met.K.SourceReading.fails c.args.what.now source now file why (subst (λ x. g.K.SourceReading.comes c.args.what.now source now x) is c.read_source-came.ensures) c.in-Ok.ensures.unused e none)
