-- Stores that take every place for one of their own, in tests.
use Rattle.std.proofs.Common.{◌≡◌, ℕ, ◌+◌, ◌^◌, ◌<◌, ◌≤◌, List, length, map, subst, arith}
use Rattle.std.specs.Prelude.{IsPermutation}
use Rattle.std.proofs.lemmas.List.Sorted.{IsPermutation-sym}
use Rattle.mcap_io.specs.Stores.{StoreState}
use Rattle.mcap_model.specs.Places.{Each}
use Rattle.mcap_model.proofs.Flat.{at_mapped}
use Rattle.merge_walk.specs.declared.pieces.Piece.{Piece}
use Rattle.merge_walk.specs.Stores.{StoresFit}
use Rattle.merge_walk.proofs.Ordered.{at_some}
use Rattle.merge_walk.proofs.OnTurn.{moved}

pub placed_fit : {T : Type 0} (state : T → StoreState) (stores : List T) (count : ℕ) (seen pieces ordered : List Piece) → ((x : T) → (state x).known ≡ 2 ^ 64) → count ≡ length stores → seen ≡ pieces
    → Each (λ p. (p.input < count) × (p.span.at + p.span.length ≤ 2 ^ 64)) seen → IsPermutation pieces ordered → StoresFit (map state stores) ordered
placed_fit state stores count seen pieces ordered known many same placed moves n p at =
    let there = moved ordered pieces p (IsPermutation-sym pieces ordered moves) (n, at) in
    let all = subst (λ (l : List Piece). Each (λ (q : Piece). (q.input < count) × (q.span.at + q.span.length ≤ 2 ^ 64)) l) same placed in
    let is = all there.0 p there.1 in
    let low = is.0 in
    let (x, at_x) = at_some stores p.input (omega (arith, low, many)) in
    let fits = is.1 in
    let length_is = known x in
    (state x, at_mapped state stores p.input x at_x, omega (arith, fits, length_is))
