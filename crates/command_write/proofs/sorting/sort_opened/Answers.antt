-- The openings, the sort and the keepings come to what a sorting does to the world.
use Rattle.std.proofs.Common.{refl, ap, ◌∙◌, map}
use Rattle.mcap_io.specs.OutsideCalls.{went_well}
use Rattle.mcap_io.specs.declared.outside.ObjectKind.TheVariants as kinds
use Rattle.command_base.specs.Ran.{failed_so}
use Rattle.command_base.specs.Inputs.{store_keeping}
use Rattle.command_base.proofs.SomeInputs.{kept_states}
use Rattle.command_write.proofs.Sortings.{out_refused, all_sorted}
use Rattle.command_write.proofs.sorting.sort_opened.Goals as goal

pub returns-in-Err : goal.returns-in-Err
returns-in-Err g c = λ before opened world_fits inputs_fit outputs_fit.
    out_refused c.args.chunk c.args.out.now c.args.inputs.now before (g.W.World.state c.args.world.now) (g.W.World.state c.live.new.self) (g.W.World.state c.keep_inputs.new.world) (map g.W.Store.Store.state c.args.room.objects.items) c.keep_inputs.new.failed.items c.in-Err.why c.is_failed-out_failed.result _ c.requires.one
    opened c.in-Err.ensures.opens c.in-Err.ensures.counts c.in-Err.ensures.cause
    (kept_states g.W.Store.Store.state kinds.Store store_keeping (g.W.World.state c.live.new.self) (g.W.World.state c.keep_inputs.new.world) c.args.inputs.now c.args.room.objects.items c.keep_inputs.new.failed.items c.keep_inputs.ensures.kept)
    world_fits inputs_fit outputs_fit c.is_failed-out_failed.ensures.failed c.is_failed-out_failed.ensures.memory
    (record { sorting = c.unopened.ensures; inputs = refl; out = refl })

pub returns : goal.returns
returns g c = λ before opened world_fits inputs_fit outputs_fit.
    let state = g.W.Store.Store.state in
    let live_state = g.W.Live.LiveStore.state in
    let ss = map state c.args.room.objects.items in
    let ss_now = map state c.sort-live.new.stores.items in
    let live = live_state c.in-Ok.live in
    let stored = live_state c.sort-live.result.0 in
    all_sorted c.args.out.now c.args.inputs.now before (g.W.World.state c.args.world.now) (g.W.World.state c.live.new.self) (g.W.World.state c.keep_inputs-2.new.world) (g.W.World.state c.keep_live-live_kept.new.self) ss ss_now live stored c.keep_inputs-2.new.failed.items c.keep_live-live_kept.result c.requires.one (record {
      opens = opened;
      opens_out = c.in-Ok.ensures.opens;
      stands_out = c.in-Ok.ensures.counts;
      still_out = c.in-Ok.ensures.cause;
      nothing = c.in-Ok.ensures.tells;
      new = c.in-Ok.ensures.unused;
      keeps = kept_states state kinds.Store store_keeping (g.W.World.state c.live.new.self) (g.W.World.state c.keep_inputs-2.new.world) c.args.inputs.now c.sort-live.new.stores.items c.keep_inputs-2.new.failed.items c.keep_inputs-2.ensures.kept;
      keeps_out = c.keep_live-live_kept.ensures.keeps;
      inputs_now = c.keep_live-live_kept.ensures.input_faults;
      outputs_now = c.keep_live-live_kept.ensures.output_faults;
      cause_out = c.keep_live-live_kept.ensures.cause;
      world_fits = world_fits;
      inputs_fit = inputs_fit;
      outputs_fit = outputs_fit;
    }) c.args.chunk _ c.sort-live.result.1 c.sort-live.ensures.sorts c.sort-live.ensures.asked c.sorting_of.ensures refl
    (c.has_failed.ensures ∙ ap (failed_so (went_well c.keep_live-live_kept.result)) c.faults-live_faults.ensures)
