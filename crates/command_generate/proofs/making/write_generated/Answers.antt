use Rattle.std.proofs.Common.{◌≡◌, vec_len, length, refl, ap, arith}
use Rattle.std.proofs.lemmas.List.{length-map}
use Rattle.std.proofs.lemmas.List.FromFn.{length-map-range_with_len}
use Rattle.command_generate.specs.contracts.feed.GeneratedFeedSource.TheImpl as it
use Rattle.command_generate.specs.Making.{generated_source, sources_of}
use Rattle.command_generate.proofs.Stores.{nothing_written}
use Rattle.command_generate.proofs.making.write_generated.Goals as goal

pub write_feeds-requires-clause-few : goal.write_feeds-requires-clause-few
write_feeds-requires-clause-few g c κs within =
    let feeds = c.in-Ok.feeds in
    let few = c.requires.few in
    let many : vec_len feeds ≡ c.args.numbers.feeds = omega (arith, ap length c.in-Ok.ensures, length-map feeds.items it.ghosts.state, length-map-range_with_len (generated_source c.args.numbers) 0 c.args.numbers.feeds, feeds.ok) in
    (omega (arith, many, few.0), omega (arith, many, few.1))

pub returns-in-Err-clause-written : goal.returns-in-Err-clause-written
returns-in-Err-clause-written g c =
    let world = g.W.World.state c.args.world.now in
    nothing_written c.args.options.now (sources_of c.args.numbers) c.args.out.now world world refl (record { inputs = refl; outputs = refl; watches = refl }) refl c.requires.world_fits c.requires.inputs_fit c.requires.outputs_fit
