-- The opening, the recording and the keeping come to what is said of the name.
use Rattle.std.proofs.Common.{◌≡◌, zero, suc, List, [], ◌∷◌, Bool, map, refl, sym, subst, ap, arith}
use Rattle.std.specs.List.{All}
use Rattle.mcap_io.specs.Outside.{SourceState}
use Rattle.command_generate.specs.declared.feed.GeneratedFeed.{GeneratedFeed}
use Rattle.command_generate.specs.contracts.feed.GeneratedFeedSource.TheImpl as it
use Rattle.command_generate.specs.Making.{NameWritten}
use Rattle.command_generate.proofs.Stores.{unopened_output, written}
use Rattle.command_generate.proofs.making.write_feeds.Goals as goal

-- no generated feed fails
quiet : (feeds : List GeneratedFeed) → All (λ (s : SourceState). s.faults ≡ 0) (map it.ghosts.state feeds)
quiet [] k d within = absurd (omega (arith, within))
quiet (f ∷ fs) zero d within = refl
quiet (f ∷ fs) (suc k) d within = quiet fs k d (omega (arith, within))

pub returns-in-Err-Failed-clause-written : goal.returns-in-Err-Failed-clause-written
returns-in-Err-Failed-clause-written g c =
    unopened_output c.args.options.now (map it.ghosts.state c.args.feeds.items) c.args.out.now (g.W.World.state c.args.world.now) (g.W.World.state c.live.new.self) c.in-Err-Failed.field-0
    c.in-Err-Failed.ensures.opens c.in-Err-Failed.ensures.counts c.in-Err-Failed.ensures.cause c.requires.world_fits c.requires.inputs_fit c.requires.outputs_fit

pub returns-in-Err-Memory-clause-written : goal.returns-in-Err-Memory-clause-written
returns-in-Err-Memory-clause-written g c =
    unopened_output c.args.options.now (map it.ghosts.state c.args.feeds.items) c.args.out.now (g.W.World.state c.args.world.now) (g.W.World.state c.live.new.self) c.in-Err-Memory.field-0
    c.in-Err-Memory.ensures.opens c.in-Err-Memory.ensures.counts c.in-Err-Memory.ensures.cause c.requires.world_fits c.requires.inputs_fit c.requires.outputs_fit

pub returns-clause-written : goal.returns-clause-written
returns-clause-written g c =
    let live_state = g.W.Live.LiveStore.state in
    let options = c.args.options.now in
    let sources = map it.ghosts.state c.args.feeds.items in
    let w0 = g.W.World.state c.args.world.now in
    let w2 = g.W.World.state c.keep_live-kept.new.self in
    let report = c.record-report.result.report in
    subst (λ (b : Bool). NameWritten options sources c.args.out.now w0 w2 (record { report = report; kept = b })) (sym c.is_kept.ensures)
    (written options sources (map it.ghosts.state c.record-report.result.feeds.items) c.args.out.now w0 (g.W.World.state c.live.new.self) w2 (live_state c.in-Ok.live) (live_state c.record-report.result.live) report c.keep_live-kept.result (record {
      opens = c.in-Ok.ensures.opens;
      stands = c.in-Ok.ensures.counts;
      still = c.in-Ok.ensures.cause;
      nothing = c.in-Ok.ensures.tells;
      unused = c.in-Ok.ensures.unused;
      unreported = λ none. ap live_state (c.record-report.ensures.refused none).1;
      quiet = quiet c.record-report.result.feeds.items;
      recorded = c.record-report.ensures.recorded;
      keeps = c.keep_live-kept.ensures.keeps;
      inputs = c.keep_live-kept.ensures.input_faults;
      outputs = c.keep_live-kept.ensures.output_faults;
      cause = c.keep_live-kept.ensures.cause;
      world_fits = c.requires.world_fits;
      inputs_fit = c.requires.inputs_fit;
      outputs_fit = c.requires.outputs_fit;
    }))
