-- The turns of pieces, and pieces by their order.
use Rattle.std.proofs.Common.{◌≡◌, ℕ, zero, suc, ◌+◌, ◌-◌, ◌<◌, ◌≤◌, List, length, drop, map, get_or, refl, ap, subst, inl, inr, ◌∙◌, arith}
use Rattle.std.specs.Prelude.{AllPairs, IsPermutation}
use Rattle.std.proofs.lemmas.List.Sorted.{Contains-permutation}
use Rattle.mcap_model.specs.Places.{At, Has}
use Rattle.mcap_model.proofs.Places.{at_one, at_within, at_read}
use Rattle.mcap_model.proofs.Lists.{pairs_at, pairs_from}
use Rattle.mcap_model.proofs.Flat.{at_mapped}
use Rattle.mcap_model.proofs.NamedTopics.{contained, has_there, unmapped}
use Rattle.merge_walk.specs.declared.turns.Turn.{Turn}
use Rattle.mcap_scan.specs.declared.message_heads.MessageHead.{MessageHead}
use Rattle.merge_walk.specs.declared.pieces.Piece.{Piece}
use Rattle.merge_walk.specs.declared.cursors.Cursor.{Cursor}
use Rattle.merge_walk.specs.Heads.{HeadBefore, HeadsRise}
use Rattle.merge_walk.specs.Pieces.{PieceNotBehind, PiecesInOrder}
use Rattle.merge_walk.specs.Cursors.{turn_of, turns_left, TurnBefore, IsFreshCursor}
use Rattle.merge_walk.proofs.Places.{undropped}
use Rattle.merge_walk.proofs.Ordered.{piece_itself, piece_trans}

before_trans : (a b c : MessageHead) → HeadBefore a b → HeadBefore b c → HeadBefore a c
before_trans a b c (inl one) (inl other) = inl (omega (arith, one, other))
before_trans a b c (inl one) (inr other) = inl (omega (arith, one, other.0))
before_trans a b c (inr one) (inl other) = inl (omega (arith, one.0, other))
before_trans a b c (inr one) (inr other) = inr (one.0 ∙ other.0, omega (arith, one.1, other.1))

rise_far : (xs : List MessageHead) → HeadsRise xs → (i n : ℕ) (d : MessageHead) → suc (i + n) < length xs → HeadBefore (get_or xs i d) (get_or xs (suc (i + n)) d)
rise_far xs rise i zero d within =
    let is : i + 1 ≡ suc (i + 0) = omega arith in
    subst (λ (k : ℕ). HeadBefore (get_or xs i d) (get_or xs k d)) is (rise i d (omega (arith, within)))
rise_far xs rise i (suc n) d within =
    let is : suc (i + n) + 1 ≡ suc (i + suc n) = omega arith in
    before_trans (get_or xs i d) (get_or xs (suc (i + n)) d) (get_or xs (suc (i + suc n)) d) (rise_far xs rise i n d (omega (arith, within)))
    (subst (λ (k : ℕ). HeadBefore (get_or xs (suc (i + n)) d) (get_or xs k d)) is (rise (suc (i + n)) d (omega (arith, within))))

rise_pairs : (xs : List MessageHead) → HeadsRise xs → AllPairs HeadBefore xs
rise_pairs xs rise i j d less within =
    let is : suc (i + (j - suc i)) ≡ j = omega (arith, less) in
    subst (λ (k : ℕ). HeadBefore (get_or xs i d) (get_or xs k d)) is (rise_far xs rise i (j - suc i) d (omega (arith, within, less)))

turn_before : (p : Piece) (a b : MessageHead) → HeadBefore a b → TurnBefore (turn_of p a) (turn_of p b)
turn_before p a b (inl less) = inl less
turn_before p a b (inr (same, less)) = inr (same, inr (refl, inr (refl, less)))

pub turns_rise : (p : Piece) (xs : List MessageHead) → HeadsRise xs → AllPairs TurnBefore (map (turn_of p) xs)
turns_rise p xs rise = pairs_from TurnBefore (map (turn_of p) xs) (λ i j t u less at_t at_u.
    let (a, at_a, is_a) = unmapped (turn_of p) xs i t at_t in
    let (b, at_b, is_b) = unmapped (turn_of p) xs j u at_u in
    subst (λ (x : Turn). TurnBefore x u) is_a (subst (TurnBefore (turn_of p a)) is_b (turn_before p a b (pairs_at HeadBefore xs (rise_pairs xs rise) i j a b less at_a at_b))))

pub fresh_left : (p : Piece) (bytes : List ℕ) (c : Cursor) → IsFreshCursor p bytes c → turns_left c ≡ map (turn_of p) c.heads.items
fresh_left p bytes c fresh =
    ap (λ (n : ℕ). map (turn_of c.piece) (drop n c.heads.items)) fresh.given
    ∙ ap (λ (r : Piece). map (turn_of r) c.heads.items) fresh.piece

pub moved : {X : Type 0} (xs ys : List X) (x : X) → IsPermutation xs ys → Has xs x → Has ys x
moved xs ys x same has = has_there ys x (Contains-permutation xs ys x same (contained xs x has))

pub mapped_moved : (p : Piece) (xs ys : List MessageHead) (u : Turn) → IsPermutation xs ys → Has (map (turn_of p) xs) u → Has (map (turn_of p) ys) u
mapped_moved p xs ys u same has =
    let (e, at, is) = unmapped (turn_of p) xs has.0 u has.1 in
    let there = moved xs ys e same (has.0, at) in
    (there.0, subst (λ (x : Turn). At (map (turn_of p) ys) there.0 x) is (at_mapped (turn_of p) ys there.0 e there.1))

-- ---- pieces by their order

follows_far : (xs : List Piece) → PiecesInOrder xs → (i n : ℕ) (d : Piece) → i + n < length xs → PieceNotBehind (get_or xs i d) (get_or xs (i + n) d)
follows_far xs order i zero d within =
    let is : i ≡ i + 0 = omega arith in
    subst (λ (k : ℕ). PieceNotBehind (get_or xs i d) (get_or xs k d)) is (piece_itself (get_or xs i d))
follows_far xs order i (suc n) d within =
    let is : i + n + 1 ≡ i + suc n = omega arith in
    let far = follows_far xs order i n d (omega (arith, within)) in
    let next = order (i + n) d (omega (arith, within)) in
    subst (λ (k : ℕ). PieceNotBehind (get_or xs i d) (get_or xs k d)) is (piece_trans (get_or xs i d) (get_or xs (i + n) d) (get_or xs (i + n + 1) d) far next)

pub pieces_follow : (xs : List Piece) (k : ℕ) (p q : Piece) → PiecesInOrder xs → At xs k p → Has (drop k xs) q → PieceNotBehind p q
pieces_follow xs k p q order at has =
    let there : At xs (k + has.0) q = undropped xs k (k + has.0) has.0 q refl has.1 in
    let one : get_or xs k p ≡ p = at_one xs k (get_or xs k p) p (at_read xs k p (at_within xs k p at)) at in
    let other : get_or xs (k + has.0) p ≡ q = at_one xs (k + has.0) (get_or xs (k + has.0) p) q (at_read xs (k + has.0) p (at_within xs (k + has.0) q there)) there in
    subst (λ (r : Piece). PieceNotBehind r q) one (subst (PieceNotBehind (get_or xs k p)) other (follows_far xs order k has.0 p (at_within xs (k + has.0) q there)))

pub pieces_above : (xs : List Piece) (k : ℕ) (p q : Piece) → PiecesInOrder xs → At xs k p → Has (drop k xs) q → p.span.least ≤ q.span.least
pieces_above xs k p q order at has = by (pieces_follow xs k p q order at has)
  where
    by : PieceNotBehind p q → p.span.least ≤ q.span.least
    by (inl less) = omega (arith, less)
    by (inr same) = omega (arith, same.0)
