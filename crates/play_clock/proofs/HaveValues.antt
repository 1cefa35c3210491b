-- The values of lines: each has one.
use Rattle.std.proofs.Common.{◌≡◌, ◌⊎◌, ℕ, zero, suc, ◌-◌, ◌+◌, ◌<◌, ◌≤◌, Bool, true, false, List, [], ◌∷◌, ◌++◌, length, refl, sym, ap, subst, inl, inr, ◌∙◌, append_assoc, arith}
use Rattle.std.proofs.lemmas.List.{append-nil, length-append}
use Rattle.mcap_model.specs.Places.{At, Each}
use Rattle.mcap_model.proofs.Places.{at_none}
use Rattle.play_clock.specs.declared.line.Line.{Line}
use Rattle.play_clock.specs.Played.{pace_after, later, is_at, is_seek, IsTurn, IsValue, sought, begun, counted}
use Rattle.play_clock.specs.Laws.{LinesHaveValues}
use Rattle.play_clock.proofs.Values.{IsQuiet}
use Rattle.play_clock.proofs.Steps.{kind_or, quiet_more}

-- lines cut at their last turn
record LastTurn (lines : List Line) : Type 0 where
  pub earlier : List Line
  pub turn : Line
  pub between : List Line
  pub are : lines ≡ earlier ++ turn ∷ between
  pub is_turn : IsTurn earlier turn
  pub quiet : IsQuiet between

none_quiet : IsQuiet []
none_quiet n l at = absurd (at_none n l at)

-- where this is the last turn so far, and these are still to come
last_turn : (front : List Line) (turn : Line) (between rest : List Line) → IsTurn front turn → IsQuiet between → LastTurn (front ++ turn ∷ (between ++ rest))
last_turn front turn between [] is quiet = record {
  earlier = front;
  turn = turn;
  between = between;
  are = ap (λ (l : List Line). front ++ turn ∷ l) (append-nil between);
  is_turn = is;
  quiet = quiet;
}
last_turn front turn between (x ∷ rest) is quiet =
    by (is_at x.kind) refl (λ more. last_turn front turn (between ++ x ∷ []) rest is more) (λ turns. last_turn (front ++ turn ∷ between) x [] rest (inr turns) none_quiet)
  where
    by : (b : Bool) → is_at x.kind ≡ b → (IsQuiet (between ++ x ∷ []) → LastTurn (front ++ turn ∷ ((between ++ x ∷ []) ++ rest))) → (is_at x.kind ≡ false → LastTurn ((front ++ turn ∷ between) ++ x ∷ rest))
        → LastTurn (front ++ turn ∷ (between ++ x ∷ rest))
    by true at one other = subst (λ (l : List Line). LastTurn (front ++ turn ∷ l)) (append_assoc between (x ∷ []) rest) (one (quiet_more between x quiet at))
    by false turns one other = subst LastTurn (append_assoc front (turn ∷ between) (x ∷ rest)) (other turns)

some_value : (n first : ℕ) (before : List Line) (line : Line) → length before ≤ n → (value : ℕ) × IsValue first before line value
some_value n first [] line few = elim (kind_or line.kind) [
  | inl calm ↦ (first, begun [] line refl calm)
  | inr (time, is) ↦ (time, sought [] line time is)
]
some_value zero first (x ∷ xs) line few = absurd (omega (arith, few))
some_value (suc n) first (x ∷ xs) line few = elim (kind_or line.kind) [
  | inl calm ↦
      let cut : LastTurn (x ∷ xs) = last_turn [] x [] xs (inl refl) none_quiet in
      let size = length-append cut.earlier (cut.turn ∷ cut.between) in
      let same : length (x ∷ xs) ≡ length (cut.earlier ++ cut.turn ∷ cut.between) = ap (λ (l : List Line). length l) cut.are in
      let there = some_value n first cut.earlier cut.turn (omega (arith, few, size, same)) in (
        later (pace_after (cut.earlier ++ cut.turn ∷ [])) there.0 (line.moment - cut.turn.moment),
        counted (x ∷ xs) line cut.earlier cut.between cut.turn there.0 cut.are cut.is_turn cut.quiet calm there.1,
      )
  | inr (time, is) ↦ (time, sought (x ∷ xs) line time is)
]

pub lines_have_values : LinesHaveValues
lines_have_values first before line = some_value (length before) first before line (omega arith)
