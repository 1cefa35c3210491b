-- What the order of sorted keys says.
use Rattle.std.proofs.Common.{◌≡◌, ◌⊎◌, ℕ, zero, suc, ◌+◌, ◌<◌, ◌≤◌, Bool, true, false, List, [], ◌∷◌, length, get_or, refl, sym, ap, subst, ◌∙◌, inl, inr, cond, arith}
use Rattle.std.specs.Prelude.{◌==◌, nat_lt}
use Rattle.std.specs.declared.cmp.Ordering.TheVariants.{Less, Equal, Greater}
use Rattle.std.specs.Ordering.{nat_cmp, is_lt, ordering_then}
use Rattle.std.proofs.lemmas.Bool.{ltb-false, eqb-true, eqb-false}
use Rattle.std.proofs.lemmas.Bool.Decides.{leb_tells}
use Rattle.mcap_model.specs.Places.{At, Each}
use Rattle.mcap_model.proofs.Places.{at_one, at_within, at_read}
use Rattle.merge_walk.specs.declared.turns.Turn.{Turn}
use Rattle.merge_walk.specs.declared.cursors.Cursor.{Cursor}
use Rattle.merge_walk.specs.declared.pieces.Piece.{Piece}
use Rattle.merge_walk.specs.Pieces.{PieceNotBehind}
use Rattle.merge_walk.specs.Cursors.{turn_of, TurnBefore, TurnBeforePiece, HasLeft, IsNext, IsFirst, EarlierOf, PieceTurnNotBehind}

not_so : true ≡ false → ⊥
not_so e = cc

pub piece_not_less : (s r : Piece) → is_lt (ordering_then (ordering_then (nat_cmp s.span.least r.span.least) (nat_cmp s.input r.input)) (nat_cmp s.span.at r.span.at)) ≡ false → PieceNotBehind r s
piece_not_less s r = by (nat_lt s.span.least r.span.least) (s.span.least == r.span.least) (nat_lt s.input r.input) (s.input == r.input) (nat_lt s.span.at r.span.at) (s.span.at == r.span.at) refl refl refl refl refl
  where
    by : (l e m f n g : Bool) → nat_lt s.span.least r.span.least ≡ l → (s.span.least == r.span.least) ≡ e → nat_lt s.input r.input ≡ m → (s.input == r.input) ≡ f → nat_lt s.span.at r.span.at ≡ n
        → is_lt (ordering_then (ordering_then (cond l Less (cond e Equal Greater)) (cond m Less (cond f Equal Greater))) (cond n Less (cond g Equal Greater))) ≡ false → PieceNotBehind r s
    by true e m f n g l_is e_is m_is f_is n_is less = absurd (not_so less)
    by false false m f n g l_is e_is m_is f_is n_is less = inl (omega (arith, ltb-false s.span.least r.span.least l_is, eqb-false s.span.least r.span.least e_is))
    by false true true f n g l_is e_is m_is f_is n_is less = absurd (not_so less)
    by false true false false n g l_is e_is m_is f_is n_is less = inr (sym (eqb-true s.span.least r.span.least e_is), inl (omega (arith, ltb-false s.input r.input m_is, eqb-false s.input r.input f_is)))
    by false true false true true g l_is e_is m_is f_is n_is less = absurd (not_so less)
    by false true false true false g l_is e_is m_is f_is n_is less = inr (sym (eqb-true s.span.least r.span.least e_is), inr (sym (eqb-true s.input r.input f_is), ltb-false s.span.at r.span.at n_is))

-- ---- the next messages of pieces

pub which : (a b : ℕ) → (a < b) ⊎ ((a ≡ b) ⊎ (b < a))
which a b = elim (leb_tells a b) [
  | inl below ↦ elim (leb_tells b a) [
    | inl above ↦ inr (inl (let one = below.1 in let other = above.1 in omega (arith, one, other)))
    | inr less ↦ inl less.1
  ]
  | inr less ↦ inr (inr less.1)
]

-- ---- messages and whole pieces

pub piece_itself : (p : Piece) → PieceNotBehind p p
piece_itself p = inr (refl, inr (refl, omega arith))

pub piece_trans : (p q r : Piece) → PieceNotBehind p q → PieceNotBehind q r → PieceNotBehind p r
piece_trans p q r (inl one) (inl other) = inl (omega (arith, one, other))
piece_trans p q r (inl one) (inr (e, rest)) = inl (omega (arith, one, e))
piece_trans p q r (inr (e, rest)) (inl other) = inl (omega (arith, e, other))
piece_trans p q r (inr (e, inl one)) (inr (f, inl other)) = inr (e ∙ f, inl (omega (arith, one, other)))
piece_trans p q r (inr (e, inl one)) (inr (f, inr (g, other))) = inr (e ∙ f, inl (omega (arith, one, g)))
piece_trans p q r (inr (e, inr (g, one))) (inr (f, inl other)) = inr (e ∙ f, inl (omega (arith, g, other)))
piece_trans p q r (inr (e, inr (g, one))) (inr (f, inr (h, other))) = inr (e ∙ f, inr (g ∙ h, omega (arith, one, other)))

-- what comes before a piece comes before those that aren't in front of it
pub before_more : (t : Turn) (p q : Piece) → TurnBeforePiece t p → PieceNotBehind p q → TurnBeforePiece t q
before_more t p q (inl one) (inl other) = inl (omega (arith, one, other))
before_more t p q (inl one) (inr (e, rest)) = inl (omega (arith, one, e))
before_more t p q (inr (e, rest)) (inl other) = inl (omega (arith, e, other))
before_more t p q (inr (e, inl one)) (inr (f, inl other)) = inr (e ∙ f, inl (omega (arith, one, other)))
before_more t p q (inr (e, inl one)) (inr (f, inr (g, other))) = inr (e ∙ f, inl (omega (arith, one, g)))
before_more t p q (inr (e, inr (g, one))) (inr (f, inl other)) = inr (e ∙ f, inl (omega (arith, g, other)))
before_more t p q (inr (e, inr (g, one))) (inr (f, inr (h, other))) = inr (e ∙ f, inr (g ∙ h, omega (arith, one, other)))

-- it comes before each message of the piece
pub before_each : (t u : Turn) (p : Piece) → TurnBeforePiece t p → p.span.least ≤ u.log_time → u.input ≡ p.input → u.at ≡ p.span.at → TurnBefore t u
before_each t u p (inl less) least input at = inl (omega (arith, less, least))
before_each t u p (inr (time, place)) least input at = elim (which p.span.least u.log_time) [
  | inl less ↦ inl (omega (arith, time, less))
  | inr (inl same) ↦ inr (time ∙ same, behind place)
  | inr (inr more) ↦ absurd (omega (arith, more, least))
]
  where
    behind : (t.input < p.input) ⊎ ((t.input ≡ p.input) × (t.at < p.span.at)) → (t.input < u.input) ⊎ ((t.input ≡ u.input) × ((t.at < u.at) ⊎ ((t.at ≡ u.at) × (t.inner < u.inner))))
    behind (inl less) = inl (omega (arith, less, input))
    behind (inr (same, less)) = inr (same ∙ sym input, inl (omega (arith, less, at)))

-- what doesn't come before a piece wasn't logged before its least time
pub before_else : (t : Turn) (p : Piece) → (TurnBeforePiece t p → ⊥) → p.span.least ≤ t.log_time
before_else t p other = elim (which t.log_time p.span.least) [
  | inl less ↦ absurd (other (inl less))
  | inr (inl same) ↦ omega (arith, same)
  | inr (inr more) ↦ omega (arith, more)
]

-- ---- which of two messages comes first

pub not_behind_itself : (t : Turn) → PieceTurnNotBehind t t
not_behind_itself t = inr (refl, inr (refl, omega arith))

pub not_behind_trans : (t u v : Turn) → PieceTurnNotBehind t u → PieceTurnNotBehind u v → PieceTurnNotBehind t v
not_behind_trans t u v (inl one) (inl other) = inl (omega (arith, one, other))
not_behind_trans t u v (inl one) (inr (e, rest)) = inl (omega (arith, one, e))
not_behind_trans t u v (inr (e, rest)) (inl other) = inl (omega (arith, e, other))
not_behind_trans t u v (inr (e, inl one)) (inr (f, inl other)) = inr (e ∙ f, inl (omega (arith, one, other)))
not_behind_trans t u v (inr (e, inl one)) (inr (f, inr (g, other))) = inr (e ∙ f, inl (omega (arith, one, g)))
not_behind_trans t u v (inr (e, inr (g, one))) (inr (f, inl other)) = inr (e ∙ f, inl (omega (arith, g, other)))
not_behind_trans t u v (inr (e, inr (g, one))) (inr (f, inr (h, other))) = inr (e ∙ f, inr (g ∙ h, omega (arith, one, other)))

pub not_behind_else : (t u : Turn) → (PieceTurnNotBehind t u → ⊥) → PieceTurnNotBehind u t
not_behind_else t u other = elim (which t.log_time u.log_time) [
  | inl less ↦ absurd (other (inl less))
  | inr (inr more) ↦ inl more
  | inr (inl same) ↦ elim (which t.input u.input) [
    | inl less ↦ absurd (other (inr (same, inl less)))
    | inr (inr more) ↦ inr (sym same, inl more)
    | inr (inl one) ↦ elim (which t.at u.at) [
      | inl less ↦ absurd (other (inr (same, inr (one, omega (arith, less)))))
      | inr (inr more) ↦ inr (sym same, inr (sym one, omega (arith, more)))
      | inr (inl at) ↦ absurd (other (inr (same, inr (one, omega (arith, at)))))
    ]
  ]
]

-- a piece has one next message
pub next_is_one : (c : Cursor) (t u : Turn) → IsNext c t → IsNext c u → t ≡ u
next_is_one c t u (e, at_e, t_is) (f, at_f, u_is) = t_is ∙ ap (turn_of c.piece) (at_one c.heads.items c.given e f at_e at_f) ∙ sym u_is

-- ---- the first of some pieces

pub at_some : {X : Type 0} (xs : List X) (n : ℕ) → n < length xs → (x : X) × At xs n x
at_some [] n less = absurd (omega (arith, less))
at_some (x ∷ xs) zero less = (x, refl)
at_some (x ∷ xs) (suc n) less = at_some xs n (omega (arith, less))

pub next_of : (c : Cursor) → HasLeft c → (t : Turn) × IsNext c t
next_of c left = let (e, at) = at_some c.heads.items c.given left in (turn_of c.piece e, (e, at, refl))

-- its next message doesn't come behind those of the first pieces
abbrev pub FirstSoFar : List Cursor → ℕ → ℕ → Type 0
FirstSoFar cursors first i = (k : ℕ) (d : Cursor) (c : Cursor) (t : Turn) (u : Turn) → k < i → At cursors k d → At cursors first c → IsNext c t → IsNext d u → PieceTurnNotBehind t u

one_next : (cursors : List Cursor) (n : ℕ) (c d : Cursor) (t u : Turn) → At cursors n c → At cursors n d → IsNext c t → IsNext d u → t ≡ u
one_next cursors n c d t u at_c at_d is_t is_u = next_is_one d t u (subst (λ (x : Cursor). IsNext x t) (at_one cursors n c d at_c at_d) is_t) is_u

pub first_alone : (cursors : List Cursor) → FirstSoFar cursors 0 1
first_alone cursors k d c t u below at_d at_c is_t is_u =
    let same : t ≡ u = one_next cursors 0 c d t u at_c (subst (λ (n : ℕ). At cursors n d) (let zero_is : k ≡ 0 = omega (arith, below) in zero_is) at_d) is_t is_u in
    subst (PieceTurnNotBehind t) same (not_behind_itself t)

pub first_on : (cursors : List Cursor) (first i n : ℕ) → Each HasLeft cursors → first < i → i < length cursors → FirstSoFar cursors first i → EarlierOf cursors first i n → (n < i + 1) × FirstSoFar cursors n (i + 1)
first_on cursors first i n left before within was earlier =
    let (c, at_c) = at_some cursors first (omega (arith, before, within)) in
    let (d, at_d) = at_some cursors i within in
    let (t, is_t) = next_of c (left first c at_c) in
    let (u, is_u) = next_of d (left i d at_d) in
    by c d t u at_c at_d is_t is_u (earlier c d t u at_c at_d is_t is_u)
  where
    by : (c d : Cursor) (t u : Turn) → At cursors first c → At cursors i d → IsNext c t → IsNext d u → ((n ≡ first) × PieceTurnNotBehind t u) ⊎ ((n ≡ i) × PieceTurnNotBehind u t) → (n < i + 1) × FirstSoFar cursors n (i + 1)
    by c d t u at_c at_d is_t is_u (inl (same, behind)) = (
      omega (arith, same, before),
      λ k e f s v below at_e at_f is_s is_v.
          let there : At cursors first f = subst (λ (m : ℕ). At cursors m f) same at_f in
          elim (which k i) [
            | inl less ↦ was k e f s v less at_e there is_s is_v
            | inr (inr more) ↦ absurd (omega (arith, more, below))
            | inr (inl at_i) ↦
                let one : s ≡ t = one_next cursors first f c s t there at_c is_s is_t in
                let other : v ≡ u = one_next cursors i e d v u (subst (λ (m : ℕ). At cursors m e) at_i at_e) at_d is_v is_u in
                subst (λ (x : Turn). PieceTurnNotBehind x v) (sym one) (subst (PieceTurnNotBehind t) (sym other) behind)
          ],
    )
    by c d t u at_c at_d is_t is_u (inr (same, behind)) = (
      omega (arith, same),
      λ k e f s v below at_e at_f is_s is_v.
          let there : At cursors i f = subst (λ (m : ℕ). At cursors m f) same at_f in
          let one : s ≡ u = one_next cursors i f d s u there at_d is_s is_u in
          elim (which k i) [
            | inl less ↦ not_behind_trans s t v (subst (λ (x : Turn). PieceTurnNotBehind x t) (sym one) behind) (was k e c t v less at_e at_c is_t is_v)
            | inr (inr more) ↦ absurd (omega (arith, more, below))
            | inr (inl at_i) ↦
                let other : v ≡ s = one_next cursors i e f v s (subst (λ (m : ℕ). At cursors m e) at_i at_e) there is_v is_s in
                subst (PieceTurnNotBehind s) (sym other) (not_behind_itself s)
          ],
    )

pub first_is : (cursors : List Cursor) (first i : ℕ) → Each HasLeft cursors → first < i → i ≤ length cursors → length cursors ≤ i → FirstSoFar cursors first i → IsFirst cursors first
first_is cursors first i left before within all was =
    let (c, at_c) = at_some cursors first (omega (arith, before, within)) in
    let (t, is_t) = next_of c (left first c at_c) in
    (c, t, at_c, is_t, λ k d at_d u is_u. was k d c t u (let there = at_within cursors k d at_d in omega (arith, there, all)) at_d at_c is_t is_u)

-- ---- cursors that are read

pub read_is : (cursors : List Cursor) (n : ℕ) (x a : Cursor) → x ≡ get_or cursors n x → At cursors n a → x ≡ a
read_is cursors n x a is at = is ∙ at_one cursors n (get_or cursors n x) a (at_read cursors n x (at_within cursors n a at)) at

pub read_at : (cursors : List Cursor) (n : ℕ) (x : Cursor) → x ≡ get_or cursors n x → n < length cursors → At cursors n x
read_at cursors n x is less = subst (At cursors n) (sym is) (at_read cursors n x less)

pub same_next : (cursors : List Cursor) (n : ℕ) (x a : Cursor) (t : Turn) → x ≡ get_or cursors n x → At cursors n a → IsNext a t → IsNext x t
same_next cursors n x a t is at next = subst (λ (y : Cursor). IsNext y t) (sym (read_is cursors n x a is at)) next
