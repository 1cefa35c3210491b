use Rattle.std.proofs.Common.{◌++◌, List, get_or, sym, ap, ◌∙◌, arith}
use Rattle.merge_walk.specs.declared.spans.Span.{Span}
use Rattle.merge_walk.specs.declared.pieces.Piece.{Piece}
use Rattle.merge_walk.specs.Pieces.{pieces_with}
use Rattle.mcap_model.specs.Places.{At}
use Rattle.mcap_model.proofs.Places.{at_read}
use Rattle.mcap_merge.proofs.ListedPieces.{pieces_next}
use Rattle.mcap_merge.proofs.pieces.list_pieces.Goals as goal

pub inputs-preserved : goal.inputs-preserved
inputs-preserved c =
    let all = c.args.inputs.now in
    let i = c.inputs.i in
    let one = get_or all i c.index-inputs-i.result in
    let at : At all i one = at_read all i c.index-inputs-i.result (omega arith) in
    c.in-Ok.ensures
    ∙ ap (λ (l : List Span). c.inputs.pieces.items ++ pieces_with i l) c.as_slice.ensures.value
    ∙ ap (λ (l : List Piece). l ++ pieces_with i one.spans.items) c.inputs.invariant
    ∙ sym (pieces_next all i one at)
