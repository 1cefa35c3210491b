-- The pieces of inputs whose spans fit, and how many bytes of them are held at one time.
use Rattle.std.proofs.Common.{◌≡◌, ℕ, zero, suc, ◌+◌, ◌<◌, ◌≤◌, Bool, true, false, List, [], ◌∷◌, ◌++◌, length, refl, sym, ap, subst, inl, inr, ◌∙◌, arith}
use Rattle.std.specs.Prelude.{◌==◌, ◌&&◌, nat_le, if◌then◌else◌, IsPermutation}
use Rattle.std.specs.List.{AllZip, sum_by}
use Rattle.std.proofs.lemmas.Bool.{eq-eqb, eqb-true}
use Rattle.std.proofs.lemmas.List.{length-take}
use Rattle.std.proofs.lemmas.List.Sums.{sum_by-cons, sum_by-append}
use Rattle.std.proofs.lemmas.List.Sorted.{IsPermutation-sym, sum_by-IsPermutation, Contains-permutation}
use Rattle.mcap_io.specs.Stores.{StoreState}
use Rattle.mcap_model.specs.Places.{At, Has, Each}
use Rattle.mcap_model.specs.Tops.{Top}
use Rattle.mcap_model.specs.Merged.{Sent, IsFrom}
use Rattle.mcap_model.proofs.Places.{at_none, at_one, at_kept}
use Rattle.mcap_model.proofs.Lists.{at_either, at_second}
use Rattle.mcap_model.proofs.NamedTopics.{zip_front, zip_back, unmapped, contained, has_there}
use Rattle.mcap_model.proofs.Flat.{at_mapped}
use Rattle.merge_walk.specs.declared.spans.Span.{Span}
use Rattle.merge_walk.specs.Spans.{spans_of}
use Rattle.merge_walk.specs.declared.pieces.Piece.{Piece}
use Rattle.merge_walk.specs.declared.walk.Walk.{Walk}
use Rattle.merge_walk.specs.Pieces.{pieces_with, PiecesInOrder, pieces_size, overlap_at, IsMostHeld}
use Rattle.merge_walk.specs.Stores.{StoresFit}
use Rattle.merge_walk.specs.Walks.{pieces_in, pieces_loaded, peak_of, PeakStands}
use Rattle.mcap_merge.specs.declared.input.Input.{Input}
use Rattle.mcap_merge.specs.Inputs.{HoldsInput, HoldInputs}
use Rattle.mcap_merge.specs.ReadInputs.{Read, read_tops}
use Rattle.mcap_merge.specs.ReadingSteps.{SpansFit}
use Rattle.mcap_merge.specs.Pieces.{pieces_from}
use Rattle.mcap_merge.specs.Overlap.{length_at, overlap, IsPeak, pieces_among, IsMostOf}
use Rattle.mcap_merge.proofs.Within.{spans_length, spans_apart}
use Rattle.mcap_merge.proofs.SpanTimes.{least_sent}

-- ---- where a piece is from

moved : {X : Type 0} (xs ys : List X) (x : X) → IsPermutation xs ys → Has xs x → Has ys x
moved xs ys x same has = has_there ys x (Contains-permutation xs ys x same (contained xs x has))

abbrev piece_of : ℕ → Span → Piece
piece_of input s = record { input = input; span = s }

-- it is that of a span of an input
record IsPieceOf (number : ℕ) (inputs : List Input) (p : Piece) : Type 0 where
  place : ℕ
  input : Input
  at : At inputs place input
  number_is : p.input ≡ number + place
  has : Has input.spans.items p.span

is_piece_of : (number : ℕ) (inputs : List Input) (n : ℕ) (p : Piece) → At (pieces_from number inputs) n p → IsPieceOf number inputs p
is_piece_of number [] n p at = absurd (at_none n p at)
is_piece_of number (i ∷ is) n p at = elim (at_either (pieces_with number i.spans.items) (pieces_from (suc number) is) n p at) [
  | inl first ↦
      let (s, here, same) = unmapped (piece_of number) i.spans.items n p first in
      record {
        place = 0;
        input = i;
        at = refl;
        number_is = let one : p.input ≡ number = sym (ap (λ (q : Piece). q.input) same) in omega (arith, one);
        has = (n, subst (At i.spans.items n) (ap (λ (q : Piece). q.span) same) here);
      }
  | inr (k, place, behind) ↦
      let of = is_piece_of (suc number) is k p behind in
      record { place = suc of.place; input = of.input; at = of.at; number_is = omega (arith, of.number_is); has = of.has }
]

-- a span of an input has its piece
piece_there : (number : ℕ) (inputs : List Input) (k : ℕ) (i : Input) (s : Span) → At inputs k i → Has i.spans.items s → Has (pieces_from number inputs) (piece_of (number + k) s)
piece_there number [] k i s at has = absurd (at_none k i at)
piece_there number (x ∷ xs) zero i s at has =
    let same : x ≡ i = at_one (x ∷ xs) zero x i refl at in
    let here : At x.spans.items has.0 s = subst (λ (y : Input). At y.spans.items has.0 s) (sym same) has.1 in
    let number_is : number ≡ number + 0 = omega arith in (
      has.0,
      at_kept (pieces_with number x.spans.items) (pieces_from (suc number) xs) has.0 (piece_of (number + 0) s)
          (subst (λ (n : ℕ). At (pieces_with number x.spans.items) has.0 (piece_of n s)) number_is (at_mapped (piece_of number) x.spans.items has.0 s here)),
    )
piece_there number (x ∷ xs) (suc k) i s at has =
    let there = piece_there (suc number) xs k i s at has in
    let number_is : suc number + k ≡ number + suc k = omega arith in (
      length (pieces_with number x.spans.items) + there.0,
      at_second (pieces_with number x.spans.items) (pieces_from (suc number) xs) there.0 (piece_of (number + suc k) s)
          (subst (λ (n : ℕ). At (pieces_from (suc number) xs) there.0 (piece_of n s)) number_is there.1),
    )

-- ---- within the stores

-- the pieces of inputs whose spans fit lie within the stores
pub stores_fit : (stores : List StoreState) (inputs : List Input) → AllZip SpansFit stores inputs → StoresFit stores (pieces_from 0 inputs)
stores_fit stores inputs fit n p at =
    let of = is_piece_of 0 inputs n p at in
    let (s, there, fits) = zip_back SpansFit stores inputs of.place of.input fit of.at in
    let number_is : of.place ≡ p.input = omega (arith, of.number_is) in
    (s, subst (λ (k : ℕ). At stores k s) number_is there, fits of.has.0 p.span of.has.1)

pub stores_fit_in : (stores : List StoreState) (inputs : List Input) (pieces : List Piece) → AllZip SpansFit stores inputs → IsPermutation (pieces_from 0 inputs) pieces → StoresFit stores pieces
stores_fit_in stores inputs pieces fit same n p at =
    let there = moved pieces (pieces_from 0 inputs) p (IsPermutation-sym (pieces_from 0 inputs) pieces same) (n, at) in
    stores_fit stores inputs fit there.0 p there.1

-- ---- how many bytes are asked for

-- what a piece counts of an input
abbrev counted_of : ℕ → Piece → ℕ
counted_of k p = if p.input == k then p.span.length else 0

number_other : (n k : ℕ) → (n ≡ k → ⊥) → (n == k) ≡ false
number_other n k apart = by (n == k) refl
  where
    by : (b : Bool) → (n == k) ≡ b → b ≡ false
    by true is = absurd (apart (eqb-true n k is))
    by false is = refl

same_number : (number k : ℕ) (spans : List Span) → (number == k) ≡ true → pieces_size k (pieces_with number spans) ≡ spans_length spans
same_number number k [] same = refl
same_number number k (s ∷ ss) same =
    let one : counted_of k (piece_of number s) ≡ s.length = ap (λ (b : Bool). if b then s.length else 0) same in
    omega (arith, one, same_number number k ss same, sum_by-cons (counted_of k) (piece_of number s) (pieces_with number ss), sum_by-cons (λ x. x.length) s ss)

other_number : (number k : ℕ) (spans : List Span) → (number == k) ≡ false → pieces_size k (pieces_with number spans) ≡ 0
other_number number k [] other = refl
other_number number k (s ∷ ss) other =
    let one : counted_of k (piece_of number s) ≡ 0 = ap (λ (b : Bool). if b then s.length else 0) other in
    omega (arith, one, other_number number k ss other, sum_by-cons (counted_of k) (piece_of number s) (pieces_with number ss))

-- the inputs from a number on have none of a lower one
none_lower : (number k : ℕ) (inputs : List Input) → k < number → pieces_size k (pieces_from number inputs) ≡ 0
none_lower number k [] lower = refl
none_lower number k (i ∷ is) lower =
    omega (arith, other_number number k i.spans.items (number_other number k (λ e. omega (arith, e, lower))), none_lower (suc number) k is (omega (arith, lower)), sum_by-append (counted_of k) (pieces_with number i.spans.items) (pieces_from (suc number) is))

bytes_from : (number k : ℕ) (inputs : List Input) (i : Input) → At inputs k i → pieces_size (number + k) (pieces_from number inputs) ≡ spans_length i.spans.items
bytes_from number k [] i at = absurd (at_none k i at)
bytes_from number zero (x ∷ xs) i at =
    let same : x ≡ i = at_one (x ∷ xs) zero x i refl at in
    let first : pieces_size (number + 0) (pieces_with number x.spans.items) ≡ spans_length x.spans.items = same_number number (number + 0) x.spans.items (eq-eqb number (number + 0) (omega arith)) in
    let rest : pieces_size (number + 0) (pieces_from (suc number) xs) ≡ 0 = none_lower (suc number) (number + 0) xs (omega arith) in
    omega (arith, first, rest, sum_by-append (counted_of (number + 0)) (pieces_with number x.spans.items) (pieces_from (suc number) xs), ap (λ (y : Input). spans_length y.spans.items) same)
bytes_from number (suc k) (x ∷ xs) i at =
    let number_is : suc number + k ≡ number + suc k = omega arith in
    let first : pieces_size (number + suc k) (pieces_with number x.spans.items) ≡ 0 = other_number number (number + suc k) x.spans.items (number_other number (number + suc k) (λ e. omega (arith, e))) in
    let rest : pieces_size (number + suc k) (pieces_from (suc number) xs) ≡ spans_length i.spans.items = subst (λ (n : ℕ). pieces_size n (pieces_from (suc number) xs) ≡ spans_length i.spans.items) number_is (bytes_from (suc number) k xs i at) in
    omega (arith, first, rest, sum_by-append (counted_of (number + suc k)) (pieces_with number x.spans.items) (pieces_from (suc number) xs))

-- of an input, the pieces together are no longer than its store
pub asked_sum : (reads : List Read) (stores : List StoreState) (inputs : List Input) (pieces : List Piece) → HoldInputs reads inputs → AllZip SpansFit stores inputs → IsPermutation (pieces_from 0 inputs) pieces → (k : ℕ) (s : StoreState) → At stores k s → pieces_size k pieces ≤ s.known
asked_sum reads stores inputs pieces hold fit same k s at =
    let (i, here, fits) = zip_front SpansFit stores inputs k s fit at in
    let (r, there, holds) = zip_back HoldsInput reads inputs k i hold here in
    let together : pieces_size k pieces ≡ spans_length i.spans.items =
    sum_by-IsPermutation (counted_of k) (pieces_from 0 inputs) pieces same ∙ subst (λ (n : ℕ). pieces_size n (pieces_from 0 inputs) ≡ spans_length i.spans.items) (zero_more k) (bytes_from 0 k inputs i here) in
    let within : Each (λ x. x.at + x.length ≤ s.known) (spans_of r.tops) = subst (λ (l : List Span). Each (λ x. x.at + x.length ≤ s.known) l) holds.spans_are fits in
    let size : spans_length i.spans.items ≡ spans_length (spans_of r.tops) = ap spans_length holds.spans_are in
    elim (spans_apart 8 s.known r.tops within) [
      | inl less ↦ omega (arith, together, size, less)
      | inr none ↦ omega (arith, together, size, none)
    ]
  where
    zero_more : (n : ℕ) → 0 + n ≡ n
    zero_more n = omega arith

-- ---- the peak

-- what a piece adds to the overlap at a time
abbrev share_at : ℕ → Piece → ℕ
share_at time p = if nat_le p.span.least time && nat_le time p.span.greatest then p.span.length else 0

-- the bytes of an input's pieces at a time
overlap_one : (time number : ℕ) (spans : List Span) → overlap_at time (pieces_with number spans) ≡ sum_by (length_at time) spans
overlap_one time number [] = refl
overlap_one time number (s ∷ ss) = omega (arith, overlap_one time number ss, sum_by-cons (share_at time) (piece_of number s) (pieces_with number ss), sum_by-cons (length_at time) s ss)

overlap_all : (time number : ℕ) (reads : List Read) (inputs : List Input) → HoldInputs reads inputs → overlap_at time (pieces_from number inputs) ≡ overlap time (read_tops reads)
overlap_all time number [] [] hold = refl
overlap_all time number [] (i ∷ is) hold = absurd hold
overlap_all time number (r ∷ rs) [] hold = absurd hold
overlap_all time number (r ∷ rs) (i ∷ is) hold =
    let holds = hold.0 in
    let one : sum_by (length_at time) i.spans.items ≡ sum_by (length_at time) (spans_of r.tops) = ap (sum_by (length_at time)) holds.spans_are in
    omega (
      arith,
      one,
      overlap_one time number i.spans.items,
      overlap_all time (suc number) rs is hold.1,
      sum_by-append (share_at time) (pieces_with number i.spans.items) (pieces_from (suc number) is),
      sum_by-cons (λ tops. sum_by (length_at time) (spans_of tops)) r.tops (read_tops rs),
    )

-- the piece of a span
span_piece : (reads : List Read) (inputs : List Input) (k : ℕ) (r : Read) (s : Span) → HoldInputs reads inputs → At reads k r → Has (spans_of r.tops) s → Has (pieces_from 0 inputs) (piece_of (0 + k) s)
span_piece reads inputs k r s hold at has =
    let (i, input, holds) = zip_front HoldsInput reads inputs k r hold at in
    piece_there 0 inputs k i s input (has.0, subst (λ (l : List Span). At l has.0 s) (sym holds.spans_are) has.1)

-- a message was logged at its least time
piece_sent : (reads : List Read) (inputs : List Input) (p : Piece) → HoldInputs reads inputs → Has (pieces_from 0 inputs) p → (m : Sent) × IsFrom (read_tops reads) m × (m.seen.message.log_time ≡ p.span.least)
piece_sent reads inputs p hold has =
    let of = is_piece_of 0 inputs has.0 p has.1 in
    let (r, there, holds) = zip_back HoldsInput reads inputs of.place of.input hold of.at in
    least_sent reads of.place r p.span there holds.scan (of.has.0, subst (λ (l : List Span). At l of.has.0 p.span) holds.spans_are of.has.1)

overlap_in : (time : ℕ) (reads : List Read) (inputs : List Input) (pieces : List Piece) → HoldInputs reads inputs → IsPermutation (pieces_from 0 inputs) pieces → overlap_at time pieces ≡ overlap time (read_tops reads)
overlap_in time reads inputs pieces hold same = sum_by-IsPermutation (share_at time) (pieces_from 0 inputs) pieces same ∙ overlap_all time 0 reads inputs hold

-- a walk that has loaded all pieces has the peak of the records
pub peak_is : (reads : List Read) (inputs : List Input) (w : Walk) → HoldInputs reads inputs → IsPermutation (pieces_from 0 inputs) (pieces_in w) → pieces_loaded w ≡ pieces_in w → PeakStands w → IsPeak (read_tops reads) (peak_of w)
peak_is reads inputs w hold same all stands = record {
  each = λ k tops at n s here.
      let (r, there, is) = unmapped (λ (x : Read). x.tops) reads k tops at in
      let found = moved (pieces_from 0 inputs) (pieces_in w) (piece_of (0 + k) s) same (span_piece reads inputs k r s hold there (n, subst (λ (l : List Top). At (spans_of l) n s) (sym is) here)) in
      subst (λ (l : List Piece). Each (λ p. p.span.length ≤ w.peak) l) all stands.each found.0 (piece_of (0 + k) s) found.1;
  most = elim stands.overlap [
    | inl none ↦ inl none
    | inr (p, has, less) ↦
        let (m, from, time) = piece_sent reads inputs p hold (moved (pieces_in w) (pieces_from 0 inputs) p (IsPermutation-sym (pieces_from 0 inputs) (pieces_in w) same) has) in
        let bytes = overlap_in p.span.least reads inputs (pieces_in w) hold same in
        inr (m, from, subst (λ (n : ℕ). w.peak ≤ overlap n (read_tops reads)) (sym time) (omega (arith, less, bytes)))
  ];
}

-- ---- the most that was held

same_pieces : (number : ℕ) (reads : List Read) (inputs : List Input) → HoldInputs reads inputs → pieces_from number inputs ≡ pieces_among number (read_tops reads)
same_pieces number [] [] hold = refl
same_pieces number [] (i ∷ is) hold = absurd hold
same_pieces number (r ∷ rs) [] hold = absurd hold
same_pieces number (r ∷ rs) (i ∷ is) hold =
    let holds = hold.0 in
    ap (λ (l : List Span). pieces_with number l ++ pieces_from (suc number) is) holds.spans_are
    ∙ ap (λ (l : List Piece). pieces_with number (spans_of r.tops) ++ l) (same_pieces (suc number) rs is hold.1)

-- of a walk that has loaded all pieces
pub most_is : (reads : List Read) (inputs : List Input) (w : Walk) → HoldInputs reads inputs → IsPermutation (pieces_from 0 inputs) (pieces_in w) → PiecesInOrder (pieces_in w) → pieces_loaded w ≡ pieces_in w → w.next ≤ length (pieces_in w) → IsMostHeld (pieces_in w) w.next (peak_of w)
    → IsMostOf (read_tops reads) (peak_of w)
most_is reads inputs w hold same order all within most =
    let size = ap length all ∙ refl in
    let next : w.next ≡ length (pieces_in w) = omega (arith, within, size, length-take w.next (pieces_in w)) in
    record {
      pieces = pieces_in w;
      same = subst (λ (l : List Piece). IsPermutation l (pieces_in w)) (same_pieces 0 reads inputs hold) same;
      order = order;
      most = subst (λ (n : ℕ). IsMostHeld (pieces_in w) n (peak_of w)) next most;
    }
