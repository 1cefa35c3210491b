-- The parts are those that the counts and what was told show.
use Rattle.std.proofs.Common.{ap, ◌∙◌, ◌||◌, refl}
use Rattle.command_base.proofs.BlamedNames.{parts_show}
use Rattle.command_base.proofs.blaming.failed_parts.Goals as goal

pub returns : goal.returns
returns c = λ names many cause. parts_show c.args.before.now c.args.now.now names c.args.inputs_failed.now c.args.out_failed _ c.has_some-some_input.result c.rose-world.result c.rose-inputs.result c.rose-outputs.result many
    c.has_some-some_input.ensures c.rose-world.ensures c.rose-inputs.ensures c.rose-outputs.ensures c.rose.ensures refl c.holds_alone.ensures
    (c.any_holds.ensures ∙ ap (λ b. c.args.out_failed || (c.rose-outputs.result || b)) c.holds_alone-2.ensures) cause
