use Rattle.std.proofs.Common.{◌≡◌, take}
use Rattle.mcap_merge.specs.Pieces.{pieces_from}
use Rattle.mcap_merge.proofs.pieces.list_pieces.Given as goal

abbrev pub invariant-inputs : goal.invariant-inputs
invariant-inputs l = l.pieces.items ≡ pieces_from 0 (take l.i l.inputs)
