-- Which pieces are still held when one is loaded.
use Rattle.std.proofs.Common.{◌≡◌, ◌⊎◌, ℕ, ◌<◌, ◌≤◌, Bool, true, false, ◌&&◌, List, ◌∷◌, ◌++◌, cond, refl, sym, subst, inl, inr, ◌∙◌, arith}
use Rattle.std.specs.Prelude.{◌==◌, ◌||◌, nat_lt, take}
use Rattle.std.specs.List.{flat_map}
use Rattle.std.proofs.lemmas.Bool.{ltb-true, ltb-false, eqb-true, eqb-false}
use Rattle.mcap_model.specs.Places.{Has}
use Rattle.mcap_model.proofs.Lists.{cut_flat}
use Rattle.mcap_model.proofs.Members.{has_second}
use Rattle.mcap_model.proofs.Places.{has_kept}
use Rattle.merge_walk.specs.declared.turns.Turn.{Turn}
use Rattle.merge_walk.specs.declared.pieces.Piece.{Piece}
use Rattle.merge_walk.specs.Pieces.{ends_before, bytes_left}
use Rattle.merge_walk.specs.Cursors.{TurnBeforePiece, PieceTurnNotBehind}
use Rattle.merge_walk.proofs.Ordered.{which}

pub has_flat : {X Y : Type 0} (f : X → List Y) (xs : List X) (x : X) (y : Y) → Has xs x → Has (f x) y → Has (flat_map f xs) y
has_flat {X} {Y} f xs x y has there =
    let (more, cut) = cut_flat f xs has.0 x has.1 in
    subst (λ (l : List Y). Has l y) (sym cut) (has_second (flat_map f (take has.0 xs)) (f x ++ flat_map f more) y (has_kept (f x) (flat_map f more) y there))

-- what comes before a piece does so with whatever doesn't come behind it
pub before_too : (t u : Turn) (p : Piece) → PieceTurnNotBehind t u → TurnBeforePiece u p → TurnBeforePiece t p
before_too t u p (inl one) (inl other) = inl (omega (arith, one, other))
before_too t u p (inl one) (inr (e, rest)) = inl (omega (arith, one, e))
before_too t u p (inr (e, rest)) (inl other) = inl (omega (arith, e, other))
before_too t u p (inr (e, inl one)) (inr (f, inl other)) = inr (omega (arith, e, f), inl (omega (arith, one, other)))
before_too t u p (inr (e, inl one)) (inr (f, inr (g, other))) = inr (omega (arith, e, f), inl (omega (arith, one, g)))
before_too t u p (inr (e, inr (g, one))) (inr (f, inl other)) = inr (omega (arith, e, f), inl (omega (arith, g, other)))
before_too t u p (inr (e, inr (g, one))) (inr (f, inr (h, other))) = inr (omega (arith, e, f), inr (omega (arith, g, h), omega (arith, one, other)))

-- the last message of a piece comes before all of another
abbrev pub EndsBefore : Piece → Piece → Type 0
EndsBefore q p = (q.span.greatest < p.span.least)
    ⊎ ((q.span.greatest ≡ p.span.least) × ((q.input < p.input) ⊎ ((q.input ≡ p.input) × (q.span.at < p.span.at))))

module _ (p q : Piece) where
  past : nat_lt q.span.greatest p.span.least ≡ false → (q.span.greatest == p.span.least) ≡ false → EndsBefore q p → ⊥
  past less same (inl ends) = let low = ltb-false q.span.greatest p.span.least less in omega (arith, low, ends)
  past less same (inr ends) = eqb-false q.span.greatest p.span.least same ends.0

  beyond : nat_lt q.span.greatest p.span.least ≡ false → nat_lt q.input p.input ≡ false → (q.input == p.input) ≡ false → EndsBefore q p → ⊥
  beyond less one same (inl ends) = let low = ltb-false q.span.greatest p.span.least less in omega (arith, low, ends)
  beyond less one same (inr (time, inl ends)) = let low = ltb-false q.input p.input one in omega (arith, low, ends)
  beyond less one same (inr (time, inr ends)) = eqb-false q.input p.input same ends.0

  behind : nat_lt q.span.greatest p.span.least ≡ false → nat_lt q.input p.input ≡ false → nat_lt q.span.at p.span.at ≡ false → EndsBefore q p → ⊥
  behind less one at (inl ends) = let low = ltb-false q.span.greatest p.span.least less in omega (arith, low, ends)
  behind less one at (inr (time, inl ends)) = let low = ltb-false q.input p.input one in omega (arith, low, ends)
  behind less one at (inr (time, inr ends)) = let low = ltb-false q.span.at p.span.at at in let less_at = ends.1 in omega (arith, low, less_at)

  pub none_left : EndsBefore q p → bytes_left p q ≡ 0
  none_left ends = by (nat_lt q.span.greatest p.span.least) (q.span.greatest == p.span.least) (nat_lt q.input p.input) (q.input == p.input) (nat_lt q.span.at p.span.at) refl refl refl refl refl
    where
      by : (a b c d e : Bool) → nat_lt q.span.greatest p.span.least ≡ a → (q.span.greatest == p.span.least) ≡ b → nat_lt q.input p.input ≡ c → (q.input == p.input) ≡ d → nat_lt q.span.at p.span.at ≡ e
          → cond (a || (b && (c || (d && e)))) 0 q.span.length ≡ 0
      by true b c d e a_is b_is c_is d_is e_is = refl
      by false true true d e a_is b_is c_is d_is e_is = refl
      by false true false true true a_is b_is c_is d_is e_is = refl
      by false false c d e a_is b_is c_is d_is e_is = absurd (past a_is b_is ends)
      by false true false false e a_is b_is c_is d_is e_is = absurd (beyond a_is c_is d_is ends)
      by false true false true false a_is b_is c_is d_is e_is = absurd (behind a_is c_is e_is ends)

  pub all_left : (EndsBefore q p → ⊥) → bytes_left p q ≡ q.span.length
  all_left stays = by (nat_lt q.span.greatest p.span.least) (q.span.greatest == p.span.least) (nat_lt q.input p.input) (q.input == p.input) (nat_lt q.span.at p.span.at) refl refl refl refl refl
    where
      by : (a b c d e : Bool) → nat_lt q.span.greatest p.span.least ≡ a → (q.span.greatest == p.span.least) ≡ b → nat_lt q.input p.input ≡ c → (q.input == p.input) ≡ d → nat_lt q.span.at p.span.at ≡ e
          → cond (a || (b && (c || (d && e)))) 0 q.span.length ≡ q.span.length
      by false false c d e a_is b_is c_is d_is e_is = refl
      by false true false false e a_is b_is c_is d_is e_is = refl
      by false true false true false a_is b_is c_is d_is e_is = refl
      by true b c d e a_is b_is c_is d_is e_is = absurd (stays (inl (ltb-true q.span.greatest p.span.least a_is)))
      by false true true d e a_is b_is c_is d_is e_is = absurd (stays (inr (eqb-true q.span.greatest p.span.least b_is, inl (ltb-true q.input p.input c_is))))
      by false true false true true a_is b_is c_is d_is e_is = absurd (stays (inr (eqb-true q.span.greatest p.span.least b_is, inr (eqb-true q.input p.input d_is, ltb-true q.span.at p.span.at e_is))))

-- a piece that ends before another has no message that doesn't come before it
pub ends_with_turn : (p q : Piece) (t : Turn) → EndsBefore q p → t.log_time ≤ q.span.greatest → t.input ≡ q.input → t.at ≡ q.span.at → TurnBeforePiece t p
ends_with_turn p q t (inl less) within input at = inl (omega (arith, less, within))
ends_with_turn p q t (inr (time, place)) within input at = elim (which t.log_time p.span.least) [
  | inl less ↦ inl less
  | inr (inl same) ↦ inr (same, places place)
  | inr (inr more) ↦ absurd (omega (arith, more, time, within))
]
  where
    places : (q.input < p.input) ⊎ ((q.input ≡ p.input) × (q.span.at < p.span.at)) → (t.input < p.input) ⊎ ((t.input ≡ p.input) × (t.at < p.span.at))
    places (inl less) = inl (omega (arith, less, input))
    places (inr (same, less)) = inr (input ∙ same, omega (arith, less, at))

-- a message at the greatest time of a piece that comes before another ends it before that
pub turn_ends : (p q : Piece) (t : Turn) → TurnBeforePiece t p → t.log_time ≡ q.span.greatest → t.input ≡ q.input → t.at ≡ q.span.at → EndsBefore q p
turn_ends p q t (inl less) time input at = inl (omega (arith, less, time))
turn_ends p q t (inr (same, inl less)) time input at = inr (sym time ∙ same, inl (omega (arith, less, input)))
turn_ends p q t (inr (same, inr (one, less))) time input at = inr (sym time ∙ same, inr (sym input ∙ one, omega (arith, less, at)))
