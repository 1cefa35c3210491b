-- Both names were opened, or the input wasn't.
use Rattle.std.proofs.Common.{◌≡◌, sym, subst, refl, ◌∙◌, ℕ, length, map, take, rules}
use Rattle.std.proofs.lemmas.List.{length-map}
use Rattle.mcap_io.specs.declared.outside.ObjectKind.TheVariants as kinds
use Rattle.command_base.specs.Inputs.{store_keeping}
use Rattle.command_base.specs.InputsSteps.{StoreSeen, InputsKept}
use Rattle.command_base.proofs.SomeInputs.{opened_states, refused_states, kept_states}
use Rattle.command_write.proofs.Sortings.{nothing_opened, input_refused}
use Rattle.command_write.proofs.sorting.sort_names.Goals as goal

pub returns-in-Err : goal.returns-in-Err
returns-in-Err g c = nothing_opened c.args.chunk c.args.out.now c.args.inputs.now (g.W.World.state c.args.world.now) _ c.requires.one c.requires.world_fits c.requires.inputs_fit c.requires.outputs_fit
    (record { sorting = c.unopened.ensures; inputs = search rules; out = refl })

pub returns-in-Ok-open_inputs : goal.returns-in-Ok-open_inputs
returns-in-Ok-open_inputs g c =
    let old = g.W.World.state c.args.world.now in
    c.sort_opened.ensures old
    (opened_states g.W.Store.Store.state kinds.Store StoreSeen old (g.W.World.state c.open_inputs.new.world) c.args.inputs.now c.open_inputs.new.objects.items c.in-Ok-open_inputs.ensures.all)
    c.requires.world_fits c.requires.inputs_fit c.requires.outputs_fit

pub returns-in-Err-open_inputs : goal.returns-in-Err-open_inputs
returns-in-Err-open_inputs g c =
    let state = g.W.Store.Store.state in
    let stores = c.open_inputs.new.objects.items in
    let count : length (map state stores) ≡ length stores = length-map stores state in
    let at_end : c.len.result ≡ length stores = search rules in
    let many : c.len.result ≡ length (map state stores) = at_end ∙ sym count in
    let w2 = g.W.World.state c.open_inputs.new.world in
    let w3 = g.W.World.state c.keep_inputs.new.world in
    let kept : InputsKept kinds.Store store_keeping w2 w3 (take (length (map state stores)) c.args.inputs.now) (map state stores) c.keep_inputs.new.failed.items =
    subst (λ (n : ℕ). InputsKept kinds.Store store_keeping w2 w3 (take n c.args.inputs.now) (map state stores) c.keep_inputs.new.failed.items) many
    (kept_states state kinds.Store store_keeping w2 w3 _ stores c.keep_inputs.new.failed.items c.keep_inputs.ensures.kept) in
    input_refused c.args.chunk c.args.out.now c.args.inputs.now (g.W.World.state c.args.world.now) w2 w3 (map state stores) c.keep_inputs.new.failed.items c.in-Err-open_inputs.why c.is_failed-input_failed.result _ c.requires.one
    (refused_states state kinds.Store StoreSeen (g.W.World.state c.args.world.now) w2 c.args.inputs.now stores c.in-Err-open_inputs.why c.in-Err-open_inputs.ensures.some) kept c.requires.world_fits c.requires.inputs_fit c.requires.outputs_fit
    c.is_failed-input_failed.ensures.failed c.is_failed-input_failed.ensures.memory
    (record { sorting = c.unopened-in-Err-open_inputs.ensures; inputs = c.add_refused.ensures; out = refl })
