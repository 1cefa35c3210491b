-- So far the inputs below the index were opened.
use Rattle.std.proofs.Common.{◌≡◌, take, vec_len, vec_capacity}
use Rattle.command_base.specs.InputsSteps.{InputsOpened}
use Rattle.command_base.proofs.inputs.open_inputs.Given as goal

abbrev pub invariant-inputs : goal.invariant-inputs
invariant-inputs g l = record {
  opened : InputsOpened (g.K.InputKind.kind l.fn.what) (g.K.InputKind.seen l.fn.what) (g.W.World.state l.fn.world) (g.W.World.state l.world) (take l.input-index l.inputs) l.objects.items;
  count : vec_len l.objects ≡ l.input-index;
  room : vec_capacity l.objects ≡ vec_capacity l.fn.objects;
}
