-- So far the last inputs were kept.
use Rattle.std.proofs.Common.{◌≡◌, ◌+◌, length, vec_len, vec_capacity}
use Rattle.command_base.proofs.SomeInputs.{KeptSoFar}
use Rattle.command_base.proofs.inputs.keep_inputs.Given as goal

abbrev pub invariant-objects : goal.invariant-objects
invariant-objects g l = record {
  kept : KeptSoFar (g.K.InputKind.kind l.fn.what) (g.K.InputKind.keeping l.fn.what) (g.W.World.state l.fn.world) (g.W.World.state l.world) l.inputs l.initial.objects.items l.objects.items l.failed.items;
  count : vec_len l.objects + vec_len l.failed ≡ length l.inputs;
  room : vec_capacity l.failed ≡ vec_capacity l.fn.failed;
}

abbrev pub decreases-objects : goal.decreases-objects
decreases-objects g l = goal.left-objects g l
