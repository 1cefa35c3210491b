-- The opening, the reading and the keeping come to what becomes of the name.
use Rattle.std.proofs.Common.{◌≡◌, Bool, sym, ap, refl, subst, ◌∙◌}
use Rattle.mcap_io.specs.OutsideCalls.{went_well}
use Rattle.mcap_io.specs.declared.outside.ObjectKind.TheVariants as kinds
use Rattle.command_base.specs.Ran.{failed_so}
use Rattle.command_base.specs.declared.file_reading.Reading.TheVariants as readings
use Rattle.command_base.specs.Readings.{ending_of, StoreUnder, IsStoreRead}
use Rattle.command_base.specs.ReadingSteps.{use_of, NameEnds}
use Rattle.command_base.specs.InputKinds.{store_input}
use Rattle.command_base.proofs.OneFile.{store_keeping, same_back}
use Rattle.command_base.proofs.ReadNames.{unopened_ends, opened_ends}
use Rattle.command_base.proofs.store_reading.read_store_name.Goals as goal

pub returns-in-Err : goal.returns-in-Err
returns-in-Err g c =
    let file = c.args.file.now in
    let world = g.W.World.state c.args.world.now in
    let opened = g.W.World.state c.store.new.self in
    let text = g.K.FileReading.text c.args.what.now in
    let ending = g.K.FileReading.ending c.args.what.now file in
    subst (λ (f : Bool). NameEnds kinds.Store file world opened (λ entries. IsStoreRead (g.K.StoreReading.comes c.args.what.now) file world entries (readings.Unopened c.in-Err.why)) (ending_of text ending (readings.Unopened c.in-Err.why)) f) (sym c.is_failure.ensures)
    (unopened_ends text ending kinds.Store file (StoreUnder (g.K.StoreReading.comes c.args.what.now) file world) world opened c.in-Err.why
    c.in-Err.ensures.opens c.in-Err.ensures.counts c.in-Err.ensures.cause c.requires.world_fits c.requires.inputs_fit c.requires.outputs_fit store_input)

pub returns : goal.returns
returns g c =
    let file = c.args.file.now in
    let world = g.W.World.state c.args.world.now in
    let opened = g.W.World.state c.store.new.self in
    let store = g.W.Store.Store.state c.in-Ok.store in
    let now = g.W.Store.Store.state c.read_store-came.new.store in
    let kept = c.keep_store-kept.result in
    let keeping = store_keeping now kept in
    let failed : failed_so (went_well kept) now.faults ≡ c.has_failed.result = sym (c.has_failed.ensures ∙ ap (failed_so (went_well kept)) c.faults-faults.ensures) in
    opened_ends (g.K.FileReading.text c.args.what.now) (g.K.FileReading.ending c.args.what.now file) kinds.Store file (StoreUnder (g.K.StoreReading.comes c.args.what.now) file world)
    world opened (g.W.World.state c.keep_store-kept.new.self) keeping kept c.read_store-came.result c.has_failed.result (record {
      same = same_back kinds.Store file world opened (g.W.World.state c.keep_store-kept.new.self) keeping c.in-Ok.ensures.opens c.keep_store-kept.ensures.keeps;
      well_is = refl;
      stands = c.in-Ok.ensures.counts;
      still = c.in-Ok.ensures.cause;
      inputs = c.keep_store-kept.ensures.input_faults;
      outputs = c.keep_store-kept.ensures.output_faults;
      cause = c.keep_store-kept.ensures.cause;
      world_fits = c.requires.world_fits;
      inputs_fit = c.requires.inputs_fit;
      outputs_fit = c.requires.outputs_fit;
      input = store_input;
    }) (record { store = store; tells = c.in-Ok.ensures.tells; unused = c.in-Ok.ensures.unused; comes = c.read_store-came.ensures }) failed
    (λ why is e none. g.met.K.StoreReading.fails c.args.what.now store (use_of now) file why (subst (λ x. g.K.StoreReading.comes c.args.what.now store (use_of now) x) is c.read_store-came.ensures) c.in-Ok.ensures.unused.faults e none)
