-- A store that tells isn't found changed.
use Rattle.std.proofs.Common.{◌≡◌, ℕ, suc, ◌+◌, Bool, true, false, eqb, ◌&&◌, List, [], ◌∷◌, get_or, refl, sym, ap, subst, inl, inr, ◌∙◌, arith}
use Rattle.std.specs.Prelude.{AllPairs, IsPermutation}
use Rattle.std.proofs.lemmas.Bool.{both_ways, and_from, and_parts, eqb-true, eq-eqb}
use Rattle.std.proofs.lemmas.Map.Keys.{IsDistinct-IsPermutation, IsDistinct-from_apart, apart_from_distinct}
use Rattle.mcap_io.specs.Stores.{StoreState}
use Rattle.mcap_model.specs.Places.{At, Has}
use Rattle.mcap_model.proofs.Places.{at_one}
use Rattle.mcap_model.proofs.Lists.{pairs_at, pairs_from}
use Rattle.mcap_model.proofs.NamedTopics.{unmapped}
use Rattle.mcap_model.proofs.PlacesApart.{pairs_joined, none_pairs}
use Rattle.merge_walk.specs.declared.spans.Span.{Span}
use Rattle.merge_walk.specs.declared.pieces.Piece.{Piece}
use Rattle.merge_walk.specs.declared.walk.Walk.{Walk}
use Rattle.merge_walk.specs.declared.turns.Turn.{Turn}
use Rattle.merge_walk.specs.declared.turns.WalkRefused.TheVariants as walks
use Rattle.mcap_scan.specs.Heads.{heads_in}
use Rattle.merge_walk.specs.Heads.{FitsSpan}
use Rattle.merge_walk.specs.Cursors.{turn_of}
use Rattle.merge_walk.specs.Pieces.{pieces_with, BeginTogether}
use Rattle.merge_walk.specs.Stores.{files_of}
use Rattle.merge_walk.specs.Walks.{pieces_in, IsWalkRefused}
use Rattle.merge_walk.specs.WalkLaws.{BeginApart}
use Rattle.mcap_merge.specs.declared.input.Input.{Input}
use Rattle.mcap_merge.specs.Inputs.{HoldInputs}
use Rattle.mcap_merge.specs.ReadInputs.{Read}
use Rattle.mcap_merge.specs.Pieces.{pieces_from}
use Rattle.mcap_merge.specs.Turns.{IsOther, IsChanged}
use Rattle.mcap_merge.proofs.Dropped.{undropped}
use Rattle.mcap_merge.proofs.Sources.{held_message}
use Rattle.mcap_merge.proofs.ToldSpans.{good_tops, SpanBefore, spans_rise}
use Rattle.mcap_merge.proofs.ToldTurns.{Listed, TellsAt, piece_at, piece_of, piece_told, record_is}

-- ---- pieces begin apart

abbrev AreApart : Piece → Piece → Type 0
AreApart p q = BeginTogether p q → ⊥

with_apart : (number : ℕ) (spans : List Span) → AllPairs SpanBefore spans → AllPairs AreApart (pieces_with number spans)
with_apart number spans rise = pairs_from AreApart (pieces_with number spans) (λ i j p q less at_p at_q together.
    let (s, at_s, one) = unmapped (piece_at number) spans i p at_p in
    let (r, at_r, other) = unmapped (piece_at number) spans j q at_q in
    let before = pairs_at SpanBefore spans rise i j s r less at_s at_r in
    let same = ap (λ (x : Piece). x.span.at) one ∙ together.1 ∙ sym (ap (λ (x : Piece). x.span.at) other) in
    let first = before.1 in
    omega (arith, first, same))

pieces_apart : (number : ℕ) (reads : List Read) (inputs : List Input) → HoldInputs reads inputs → AllPairs AreApart (pieces_from number inputs)
pieces_apart number [] [] hold = none_pairs AreApart
pieces_apart number [] (i ∷ is) hold = absurd hold
pieces_apart number (r ∷ rs) [] hold = absurd hold
pieces_apart number (r ∷ rs) (i ∷ is) hold =
    let holds = hold.0 in
    let rise : AllPairs SpanBefore i.spans.items = subst (AllPairs SpanBefore) (sym holds.spans_are) (spans_rise 8 r.tops (good_tops r.tops holds.good)) in
    pairs_joined AreApart (pieces_with number i.spans.items) (pieces_from (suc number) is) (with_apart number i.spans.items rise) (pieces_apart (suc number) rs is hold.1) (λ p q has_p has_q together.
    let (s, at_s, same) = unmapped (piece_at number) i.spans.items has_p.0 p has_p.1 in
    let mine : number ≡ p.input = ap (λ (x : Piece). x.input) same in
    let of = piece_of (suc number) is q has_q in
    let input = together.0 in
    omega (arith, mine, of.is, input))

abbrev same_place : Piece → Piece → Bool
same_place p q = eqb p.input q.input && eqb p.span.at q.span.at

flips : (p q : Piece) → same_place p q ≡ same_place q p
flips p q = ap (λ (b : Bool). b && eqb p.span.at q.span.at) (turned p.input q.input) ∙ ap (λ (b : Bool). eqb q.input p.input && b) (turned p.span.at q.span.at)
  where
    turned : (n m : ℕ) → eqb n m ≡ eqb m n
    turned n m = by (eqb n m) (eqb m n) refl refl
      where
        by : (x y : Bool) → eqb n m ≡ x → eqb m n ≡ y → eqb n m ≡ eqb m n
        by true y one other = one ∙ sym (eq-eqb m n (sym (eqb-true n m one)))
        by false true one other = absurd (both_ways (eqb n m) one (eq-eqb n m (sym (eqb-true m n other))))
        by false false one other = one ∙ sym other

not_same : (p q : Piece) → AreApart p q → same_place p q ≡ false
not_same p q apart = by (same_place p q) refl
  where
    by : (b : Bool) → same_place p q ≡ b → same_place p q ≡ false
    by true is = let (input, at) = and_parts (eqb p.input q.input) (eqb p.span.at q.span.at) is in absurd (apart (eqb-true p.input q.input input, eqb-true p.span.at q.span.at at))
    by false is = is

begin_apart : (olds news : List Piece) → AllPairs AreApart olds → IsPermutation olds news → BeginApart news
begin_apart olds news apart same i j p q less at_p at_q together =
    let olds_differ = IsDistinct-from_apart same_place olds (λ k l d below within. not_same (get_or olds k d) (get_or olds l d) (apart k l d below within)) in
    let news_differ = IsDistinct-IsPermutation same_place flips olds news same olds_differ in
    let all : AllPairs (λ x y. same_place x y ≡ false) news = λ k l d below within. apart_from_distinct same_place news k l d news_differ below within in
    both_ways (same_place p q) (pairs_at (λ x y. same_place x y ≡ false) news all i j p q less at_p at_q)
    (and_from (eqb p.input q.input) (eqb p.span.at q.span.at) (eq-eqb p.input q.input together.0) (eq-eqb p.span.at q.span.at together.1))

-- ---- nothing is changed

walk_stays : (stores : List StoreState) (reads : List Read) (inputs : List Input) (w : Walk) (input offset : ℕ) → TellsAt stores input → Listed stores reads inputs (pieces_in w) → IsWalkRefused (files_of stores) w (walks.Changed input offset) → ⊥
walk_stays stores reads inputs w input offset tell listed (p, has, input_is, offset_is, cause) = elim cause [
  | inl changed ↦
      let (bytes, are, unfit) = changed in
      let told_is = are.told_is in
      let there : Has (pieces_in w) p = (w.next + has.0, undropped w.pieces.items w.next (w.next + has.0) has.0 p refl has.1) in
      let (file, at_file, fits) = piece_told stores reads inputs (pieces_in w) listed p (subst (TellsAt stores) input_is tell) there in
      unfit (subst (FitsSpan p.span) (sym (told_is file at_file)) fits)
  | inr second ↦
      let (i, j, q, less, at_q, at_p, together) = second in
      begin_apart (pieces_from 0 inputs) (pieces_in w) (pieces_apart 0 reads inputs listed.hold) listed.same i j q p less at_q at_p together
]

-- the record of a turn is one of the input's messages, whose channel is marked
none_other : (stores : List StoreState) (reads : List Read) (inputs : List Input) (pieces : List Piece) (input offset : ℕ) → TellsAt stores input → Listed stores reads inputs pieces → IsOther (files_of stores) pieces inputs input offset → ⊥
none_other stores reads inputs pieces input offset tell listed other =
    let (e, at_e, from) = unmapped (turn_of other.text.piece) (heads_in other.text.bytes) other.has.0 other.turn other.has.1 in
    let of : input ≡ other.text.piece.input = other.input_is ∙ sym (ap (λ (t : Turn). t.input) from) in
    let is = record_is stores reads inputs pieces listed other.text.piece other.text other.turn other.top (subst (TellsAt stores) of tell) other.among other.of other.has other.there in
    let m = is.message in
    let held = held_message reads inputs m listed.hold is.from in
    let same : held.input ≡ other.held = at_one inputs m.input held.input other.held held.here (subst (λ (n : ℕ). At inputs n other.held) is.is.input other.at) in
    let used = held.holds.used_are in
    let all = used.all in
    let marked = subst (λ (i : Input). At i.used.items m.seen.channel true) same (all m.seen held.has) in
    let none = other.none in
    none m.seen.channel m.seen.message is.shows.layout marked

pub told_stays : (stores : List StoreState) (reads : List Read) (inputs : List Input) (walk : Walk) (input offset : ℕ) → TellsAt stores input → Listed stores reads inputs (pieces_in walk) → IsChanged (files_of stores) walk inputs input offset → ⊥
told_stays stores reads inputs walk input offset tell listed (inl (w, same, refused)) = walk_stays stores reads inputs w input offset tell (subst (Listed stores reads inputs) (sym same) listed) refused
told_stays stores reads inputs walk input offset tell listed (inr other) = none_other stores reads inputs (pieces_in walk) input offset tell listed other
