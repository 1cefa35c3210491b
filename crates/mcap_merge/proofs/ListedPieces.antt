-- The pieces of one input more.
use Rattle.std.proofs.Common.{◌≡◌, ℕ, suc, ◌+◌, List, [], ◌∷◌, ◌++◌, length, take, sym, ap, ◌∙◌, append-nil, append_assoc, arith}
use Rattle.mcap_model.specs.Places.{At}
use Rattle.mcap_model.proofs.Lists.{length-take_at}
use Rattle.mcap_model.proofs.OneMore.{taken_more}
use Rattle.merge_walk.specs.declared.pieces.Piece.{Piece}
use Rattle.merge_walk.specs.Pieces.{pieces_with}
use Rattle.mcap_merge.specs.declared.input.Input.{Input}
use Rattle.mcap_merge.specs.Pieces.{pieces_from}

pieces_more : (number : ℕ) (is : List Input) (i : Input) → pieces_from number (is ++ i ∷ []) ≡ pieces_from number is ++ pieces_with (number + length is) i.spans.items
pieces_more number [] i = let same : number ≡ number + 0 = omega arith in append-nil (pieces_with number i.spans.items) ∙ ap (λ (n : ℕ). pieces_with n i.spans.items) same
pieces_more number (x ∷ xs) i =
    let same : suc number + length xs ≡ number + suc (length xs) = omega arith in
    ap (λ (l : List Piece). pieces_with number x.spans.items ++ l) (pieces_more (suc number) xs i ∙ ap (λ (n : ℕ). pieces_from (suc number) xs ++ pieces_with n i.spans.items) same)
    ∙ sym (append_assoc (pieces_with number x.spans.items) (pieces_from (suc number) xs) (pieces_with (number + suc (length xs)) i.spans.items))

pub pieces_next : (inputs : List Input) (k : ℕ) (i : Input) → At inputs k i → pieces_from 0 (take (k + 1) inputs) ≡ pieces_from 0 (take k inputs) ++ pieces_with k i.spans.items
pieces_next inputs k i at =
    let place : 0 + length (take k inputs) ≡ k = let size = length-take_at inputs k i at in omega (arith, size) in
    ap (pieces_from 0) (taken_more inputs k i at) ∙ pieces_more 0 (take k inputs) i ∙ ap (λ (n : ℕ). pieces_from 0 (take k inputs) ++ pieces_with n i.spans.items) place
