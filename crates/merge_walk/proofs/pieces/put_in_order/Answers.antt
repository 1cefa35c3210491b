use Rattle.std.proofs.Common.{◌+◌, get_or, rules, arith}
use Rattle.std.proofs.lemmas.List.Sorted.{answers_always}
use Rattle.merge_walk.specs.declared.pieces.Piece.{Piece}
use Rattle.merge_walk.proofs.Ordered.{piece_not_less}
use Rattle.merge_walk.proofs.pieces.put_in_order.Goals as goal

pub returns-clause-order : goal.returns-clause-order
returns-clause-order c = λ k d within.
    piece_not_less (get_or c.sort_unstable_by_key.new.self.items (k + 1) d) (get_or c.sort_unstable_by_key.new.self.items k d)
    (c.sort_unstable_by_key.ensures.sorted (λ (p : Piece). (p.span.least, p.input, p.span.at)) (answers_always _ _ _ (λ f a r g h. search rules)) k d (omega arith) within)
