-- The openings, the filtering and the keepings come to what a filtering does to the world.
use Rattle.std.proofs.Common.{◌≡◌, sym, ap, subst, ◌∙◌, Bool, false}
use Rattle.mcap_io.specs.OutsideCalls.{went_well}
use Rattle.command_base.specs.Ran.{failed_so}
use Rattle.command_write.specs.declared.filtering.Filtering.{Filtering}
use Rattle.command_write.specs.Filter.{filtering_of, filter_request}
use Rattle.command_write.specs.FilterSteps.{unopened_filtering, NamesFiltered}
use Rattle.command_write.proofs.Names.{no_input, alone}
use Rattle.command_write.proofs.Filterings.{none_filtered, alone_filtered, both_filtered}
use Rattle.command_write.proofs.filtering.filter_names.Goals as goal
use Rattle.mcap_model.specs.Plain.{asked_topic}
use Rattle.mcap_filter.specs.Picked.{asking}

pub returns-in-Err : goal.returns-in-Err
returns-in-Err g c =
    let asked = filter_request (asking c.args.wanted.now.range (asked_topic c.args.wanted.now.topic)) c.args.wanted.now.chunk in
    let w0 = g.W.World.state c.args.world.now in
    let w1 = g.W.World.state c.source.new.self in
    let failed = c.is_failed-failed.result in
    subst (λ (r : Filtering). NamesFiltered asked c.args.input.now c.args.out.now w0 w1 (record { filtering = r; input_failed = failed; out_failed = false })) (sym c.unopened.ensures)
    (none_filtered asked c.args.input.now c.args.out.now w0 w1 failed
    (no_input c.args.input.now c.args.out.now w0 w1 c.in-Err.why failed c.in-Err.ensures.opens c.in-Err.ensures.counts c.in-Err.ensures.cause c.is_failed-failed.ensures.failed c.is_failed-failed.ensures.memory c.requires.world_fits c.requires.inputs_fit c.requires.outputs_fit))

pub returns-in-Err-live : goal.returns-in-Err-live
returns-in-Err-live g c =
    let asked = filter_request (asking c.args.wanted.now.range (asked_topic c.args.wanted.now.topic)) c.args.wanted.now.chunk in
    let input = c.args.input.now in
    let out = c.args.out.now in
    let source = g.W.Source.Source.state c.in-Ok.source in
    let kept = c.keep_source-kept.result in
    let failed = c.is_failed-failed-in-Err-live.result in
    let w0 = g.W.World.state c.args.world.now in
    let w1 = g.W.World.state c.source.new.self in
    let w2 = g.W.World.state c.live.new.self in
    let w3 = g.W.World.state c.keep_source-kept.new.self in
    let source_failed : failed_so (went_well kept) source.faults ≡ c.has_failed.result = sym (c.has_failed.ensures ∙ ap (failed_so (went_well kept)) c.faults-faults.ensures) in
    subst (λ (r : Filtering). NamesFiltered asked input out w0 w3 (record { filtering = r; input_failed = c.has_failed.result; out_failed = failed })) (sym c.unopened-in-Err-live.ensures)
    (subst (λ (f : Bool). NamesFiltered asked input out w0 w3 (record { filtering = unopened_filtering failed; input_failed = f; out_failed = failed })) source_failed
    (alone_filtered asked input out w0 w3 source kept (failed_so (went_well kept) source.faults) failed (alone input out w0 w1 w2 w3 source c.in-Err-live.why kept failed (record {
      opens = c.in-Ok.ensures.opens;
      stands = c.in-Ok.ensures.counts;
      still = c.in-Ok.ensures.cause;
      tells = c.in-Ok.ensures.tells;
      unused = c.in-Ok.ensures.unused;
      refuses = c.in-Err-live.ensures.opens;
      refused_stands = c.in-Err-live.ensures.counts;
      refused_cause = c.in-Err-live.ensures.cause;
      keeps = c.keep_source-kept.ensures.keeps;
      inputs = c.keep_source-kept.ensures.input_faults;
      outputs = c.keep_source-kept.ensures.output_faults;
      cause = c.keep_source-kept.ensures.cause;
      world_fits = c.requires.world_fits;
      inputs_fit = c.requires.inputs_fit;
      outputs_fit = c.requires.outputs_fit;
    }) c.is_failed-failed-in-Err-live.ensures.failed c.is_failed-failed-in-Err-live.ensures.memory)))

pub returns : goal.returns
returns g c =
    let asked = filter_request (asking c.args.wanted.now.range (asked_topic c.args.wanted.now.topic)) c.args.wanted.now.chunk in
    let input = c.args.input.now in
    let out = c.args.out.now in
    let source = g.W.Source.Source.state c.in-Ok.source in
    let back = g.W.Source.Source.state c.filter-live.new.source in
    let live = g.W.Live.LiveStore.state c.in-Ok-live.live in
    let stored = g.W.Live.LiveStore.state c.filter-live.result.0 in
    let answer = c.filter-live.result.1 in
    let source_kept = c.keep_source-source_kept.result in
    let live_kept = c.keep_live-live_kept.result in
    let w0 = g.W.World.state c.args.world.now in
    let w4 = g.W.World.state c.keep_live-live_kept.new.self in
    let first : failed_so (went_well source_kept) back.faults ≡ c.has_failed-2.result = sym (c.has_failed-2.ensures ∙ ap (failed_so (went_well source_kept)) c.faults-source_faults.ensures) in
    let second : failed_so (went_well live_kept) stored.faults ≡ c.has_failed-3.result = sym (c.has_failed-3.ensures ∙ ap (failed_so (went_well live_kept)) c.faults-live_faults.ensures) in
    subst (λ (r : Filtering). NamesFiltered asked input out w0 w4 (record { filtering = r; input_failed = c.has_failed-2.result; out_failed = c.has_failed-3.result })) (sym c.filtering_of.ensures)
    (subst (λ (f : Bool). NamesFiltered asked input out w0 w4 (record { filtering = filtering_of answer; input_failed = c.has_failed-2.result; out_failed = f })) second
    (subst (λ (f : Bool). NamesFiltered asked input out w0 w4 (record { filtering = filtering_of answer; input_failed = f; out_failed = failed_so (went_well live_kept) stored.faults })) first
    (both_filtered asked input out w0 (g.W.World.state c.source.new.self) (g.W.World.state c.live.new.self) (g.W.World.state c.keep_source-source_kept.new.self) w4 source back live stored source_kept live_kept answer (record {
      opens = c.in-Ok.ensures.opens;
      stands = c.in-Ok.ensures.counts;
      still = c.in-Ok.ensures.cause;
      tells = c.in-Ok.ensures.tells;
      unused = c.in-Ok.ensures.unused;
      opens_out = c.in-Ok-live.ensures.opens;
      stands_out = c.in-Ok-live.ensures.counts;
      still_out = c.in-Ok-live.ensures.cause;
      nothing = c.in-Ok-live.ensures.tells;
      new = c.in-Ok-live.ensures.unused;
      keeps = c.keep_source-source_kept.ensures.keeps;
      inputs = c.keep_source-source_kept.ensures.input_faults;
      outputs = c.keep_source-source_kept.ensures.output_faults;
      cause = c.keep_source-source_kept.ensures.cause;
      keeps_out = c.keep_live-live_kept.ensures.keeps;
      inputs_now = c.keep_live-live_kept.ensures.input_faults;
      outputs_now = c.keep_live-live_kept.ensures.output_faults;
      cause_out = c.keep_live-live_kept.ensures.cause;
      world_fits = c.requires.world_fits;
      inputs_fit = c.requires.inputs_fit;
      outputs_fit = c.requires.outputs_fit;
    }) c.filter-live.ensures.filters)))
