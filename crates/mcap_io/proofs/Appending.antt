-- A walk over bytes that are cut into pieces, each of which is appended.
use Rattle.std.proofs.Common.{◌≡◌, ℕ, ◌+◌, ◌-◌, ◌<◌, ◌≤◌, List, [], ◌∷◌, ◌++◌, length, take, drop, Option, Some, None, Err, refl, sym, ap, subst, ◌∙◌, append_assoc, append-nil, length-append, arith}
use Rattle.std.specs.Prelude.{All}
use Rattle.std.specs.List.{concat}
use Rattle.std.proofs.Math.Seq.{take-append_seam, drop-append_seam, get_or-append_seam}
use Rattle.std.proofs.lemmas.List.Folds.{concat-append}
use Rattle.mcap_io.specs.declared.outside.AppendRefused.{AppendRefused}
use Rattle.mcap_io.specs.declared.outside.AppendRefused.TheVariants as append_refusals
use Rattle.mcap_io.specs.declared.outside.EachRefused.{EachRefused}
use Rattle.mcap_io.specs.Outside.{Adds}
use Rattle.mcap_io.specs.OutsideCalls.{AppendLeaves}
use Rattle.mcap_io.specs.Appending.{BeginsAt, EndsAt, IsPieceAt, FallsIn, EachLeaves}
use Rattle.mcap_io.proofs.Calls.{adds-adds}

-- so many first bytes are whole pieces
pub record Walked (pieces : List (List ℕ)) (at : ℕ) : Type 0 where
  pub before : List (List ℕ)
  pub behind : List (List ℕ)
  pub cut : pieces ≡ before ++ behind
  pub place : at ≡ length (concat before)

abbrev pub walked-none : (pieces : List (List ℕ)) → Walked pieces 0
walked-none pieces = record { before = []; behind = pieces; cut = refl; place = refl }

pub concat-cut : (pieces before behind : List (List ℕ)) → pieces ≡ before ++ behind → concat pieces ≡ concat before ++ concat behind
concat-cut pieces before behind cut = ap concat cut ∙ concat-append before behind

-- a piece begins where bytes are left
pub one-behind : (pieces before behind : List (List ℕ)) (at : ℕ) → pieces ≡ before ++ behind → at ≡ length (concat before) → at < length (concat pieces) → (piece : List ℕ) × (rest : List (List ℕ)) × (behind ≡ piece ∷ rest)
one-behind pieces before [] at cut place less =
    let all = ap (λ (l : List ℕ). length l) (concat-cut pieces before [] cut ∙ append-nil (concat before)) in
    absurd (omega (arith, all, place, less))
one-behind pieces before (piece ∷ behind) at cut place less = (piece, behind, refl)

abbrev pub begins : (pieces : List (List ℕ)) (at : ℕ) → Walked pieces at → at < length (concat pieces) → BeginsAt pieces at
begins pieces at walked less =
    let one = one-behind pieces walked.before walked.behind at walked.cut walked.place less in
    record {
      before = walked.before;
      piece = one.0;
      behind = one.1;
      cut = walked.cut ∙ ap (λ (l : List (List ℕ)). walked.before ++ l) one.2;
      place = walked.place;
    }

-- the pieces up to and with that one
pub with-it : (pieces : List (List ℕ)) (at : ℕ) (b : BeginsAt pieces at) → concat (b.before ++ b.piece ∷ []) ≡ concat b.before ++ b.piece
with-it pieces at b = concat-append b.before (b.piece ∷ []) ∙ ap (λ (l : List ℕ). concat b.before ++ l) (append-nil b.piece)

-- the walk is behind it then
abbrev pub walked-more : (pieces : List (List ℕ)) (at end : ℕ) (b : BeginsAt pieces at) → end ≡ at + length b.piece → Walked pieces end
walked-more pieces at end b there =
    let place = b.place in
    record {
      before = b.before ++ b.piece ∷ [];
      behind = b.behind;
      cut = b.cut ∙ sym (append_assoc b.before (b.piece ∷ []) b.behind);
      place = omega (arith, there, place, ap (λ (l : List ℕ). length l) (with-it pieces at b), length-append (concat b.before) b.piece);
    }

pub end-of : (pieces : List (List ℕ)) (at end : ℕ) (b : BeginsAt pieces at) → EndsAt pieces at end → end ≡ at + length b.piece
end-of pieces at end b ends = ends b.before b.piece b.behind b.cut b.place

-- it ends within the bytes
pub ends-within : (pieces : List (List ℕ)) (at end : ℕ) (b : BeginsAt pieces at) → EndsAt pieces at end → (at ≤ end) × (end ≤ length (concat pieces))
ends-within pieces at end b ends =
    let place = b.place in
    let there = end-of pieces at end b ends in
    let whole = ap (λ (l : List ℕ). length l) (concat-cut pieces b.before (b.piece ∷ b.behind) b.cut) in
    (omega (arith, there), omega (arith, there, place, whole, length-append (concat b.before) (b.piece ++ concat b.behind), length-append b.piece (concat b.behind)))

-- a walk stays within the bytes
pub walked-within : (pieces : List (List ℕ)) (at : ℕ) → Walked pieces at → at ≤ length (concat pieces)
walked-within pieces at walked =
    let place = walked.place in
    let whole = ap (λ (l : List ℕ). length l) (concat-cut pieces walked.before walked.behind walked.cut) in
    omega (arith, place, whole, length-append (concat walked.before) (concat walked.behind))

-- no piece is empty
pub some-there : (pieces : List (List ℕ)) (at : ℕ) (b : BeginsAt pieces at) → All (λ (p : List ℕ). 0 < length p) pieces → 0 < length b.piece
some-there pieces at b some =
    let each = subst (λ (l : List (List ℕ)). All (λ (p : List ℕ). 0 < length p) l) b.cut some in
    let among : length b.before < length (b.before ++ b.piece ∷ b.behind) = omega (arith, length-append b.before (b.piece ∷ b.behind)) in
    subst (λ (p : List ℕ). 0 < length p) (get_or-append_seam b.before b.piece b.behind []) (each (length b.before) [] among)

-- the bytes from its begin to its end are the piece
pub piece-there : (pieces : List (List ℕ)) (bytes : List ℕ) (at end : ℕ) → EndsAt pieces at end → bytes ≡ concat pieces → IsPieceAt pieces at (take (end - at) (drop at bytes)) end
piece-there pieces bytes at end ends same before piece behind cut place =
    let there = ends before piece behind cut place in
    let count : end - at ≡ length piece = omega (arith, there) in (
      ap (λ (n : ℕ). take n (drop at bytes)) count
          ∙ ap (λ (l : List ℕ). take (length piece) (drop at l)) (same ∙ concat-cut pieces before (piece ∷ behind) cut)
          ∙ ap (λ (n : ℕ). take (length piece) (drop n (concat before ++ (piece ++ concat behind)))) place
          ∙ ap (λ (l : List ℕ). take (length piece) l) (drop-append_seam (concat before) (piece ++ concat behind))
          ∙ take-append_seam piece (concat behind),
      there,
    )

-- where no bytes are left, all were walked over
none-left : (xs ys : List ℕ) → length ys ≡ 0 → xs ++ ys ≡ xs
none-left xs [] none = append-nil xs
none-left xs (y ∷ ys) none = absurd (omega (arith, none))

pub walked-all : (pieces : List (List ℕ)) (at len : ℕ) (walked : Walked pieces at) → len ≤ at → len ≡ length (concat pieces) → concat pieces ≡ concat walked.before
walked-all pieces at len walked none same =
    let whole = concat-cut pieces walked.before walked.behind walked.cut in
    let place = walked.place in
    let sizes = ap (λ (l : List ℕ). length l) whole in
    let behind : length (concat walked.behind) ≡ 0 = omega (arith, none, same, place, sizes, length-append (concat walked.before) (concat walked.behind)) in
    whole ∙ none-left (concat walked.before) (concat walked.behind) behind

-- and so no piece is left
none-behind : (pieces before behind : List (List ℕ)) → pieces ≡ before ++ behind → All (λ (p : List ℕ). 0 < length p) pieces → length (concat behind) ≡ 0 → before ++ behind ≡ before
none-behind pieces before [] cut some none = append-nil before
none-behind pieces before (piece ∷ behind) cut some none =
    let b : BeginsAt pieces (length (concat before)) = record { before = before; piece = piece; behind = behind; cut = cut; place = refl } in
    absurd (omega (arith, some-there pieces (length (concat before)) b some, none, length-append piece (concat behind)))

pub all-walked : (pieces : List (List ℕ)) (at len : ℕ) (walked : Walked pieces at) → len ≤ at → len ≡ length (concat pieces) → All (λ (p : List ℕ). 0 < length p) pieces → pieces ≡ walked.before
all-walked pieces at len walked none same some =
    let place = walked.place in
    let sizes = ap (λ (l : List ℕ). length l) (concat-cut pieces walked.before walked.behind walked.cut) in
    let behind : length (concat walked.behind) ≡ 0 = omega (arith, none, same, place, sizes, length-append (concat walked.before) (concat walked.behind)) in
    walked.cut ∙ none-behind pieces walked.before walked.behind walked.cut some behind

-- ---- what was appended

-- all pieces that were walked over stand there
pub record Added (old now : Option (List ℕ)) (pieces : List (List ℕ)) (at : ℕ) : Type 0 where
  pub walked : Walked pieces at
  pub adds : Adds old now (concat walked.before)

abbrev pub added-none : (old : Option (List ℕ)) (pieces : List (List ℕ)) → Added old old pieces 0
added-none old pieces = record {
  walked = walked-none pieces;
  adds = λ before told. told ∙ ap Some (sym (append-nil before));
}

-- where a piece begins, what it is, and where it ends
abbrev pub begins-here : (pieces : List (List ℕ)) (at len : ℕ) → Walked pieces at → at < len → len ≡ length (concat pieces) → BeginsAt pieces at
begins-here pieces at len walked less same = begins pieces at walked (omega (arith, less, same))

abbrev pub added-more : (old mid new : Option (List ℕ)) (pieces : List (List ℕ)) (bytes : List ℕ) (at end len : ℕ) → Added old mid pieces at → at < len → len ≡ length (concat pieces) → IsPieceAt pieces at bytes end → Adds mid new bytes → Added old new pieces end
added-more old mid new pieces bytes at end len so_far less same found adds =
    let b = begins-here pieces at len so_far.walked less same in
    let it = found b.before b.piece b.behind b.cut b.place in
    record {
      walked = walked-more pieces at end b it.1;
      adds = subst (λ (l : List ℕ). Adds old new l) (ap (λ (l : List ℕ). concat b.before ++ l) it.0 ∙ sym (with-it pieces at b)) (adds-adds old mid new (concat b.before) bytes so_far.adds adds);
    }

pub added-all : (old now : Option (List ℕ)) (pieces : List (List ℕ)) (at len : ℕ) → Added old now pieces at → len ≤ at → len ≡ length (concat pieces) → Adds old now (concat pieces)
added-all old now pieces at len so_far none same =
    subst (λ (l : List ℕ). Adds old now l) (sym (walked-all pieces at len so_far.walked none same)) so_far.adds

pub each-leaves : (old mid new : Option (List ℕ)) (pieces : List (List ℕ)) (bytes : List ℕ) (at end len : ℕ) (why : AppendRefused) → Added old mid pieces at → at < len → len ≡ length (concat pieces) → IsPieceAt pieces at bytes end → AppendLeaves mid new bytes why
    → EachLeaves old new pieces (record { whole = at; why = why })
each-leaves old mid new pieces bytes at end len why so_far less same found leaves =
    let b = begins-here pieces at len so_far.walked less same in
    record {
      at = b;
      between = mid;
      front = so_far.adds;
      leaves = subst (λ (l : List ℕ). AppendLeaves mid new l why) (found b.before b.piece b.behind b.cut b.place).0 leaves;
    }

-- ---- where a failure fell

pub falls-in : (pieces : List (List ℕ)) (taken at end len : ℕ) → Walked pieces at → at < len → len ≡ length (concat pieces) → EndsAt pieces at end → at ≤ taken → taken ≤ end → FallsIn pieces taken (record { whole = at; why = append_refusals.Failed (taken - at) })
falls-in pieces taken at end len walked less same ends from to =
    let b = begins-here pieces at len walked less same in
    let there = end-of pieces at end b ends in
    record {
      at = b;
      of_it = taken - at;
      why_is = refl;
      within = omega (arith, there, to);
      all = omega (arith, from);
    }

-- ---- a store that tells nothing

told-none : {A : Type 0} (before : List ℕ) → None ≡ Some before → A
told-none before told = absurd (cc)

-- what it leaves where it failed so
pub falls-leaves : (pieces : List (List ℕ)) (taken : ℕ) (refused : EachRefused) → FallsIn pieces taken refused → EachLeaves None None pieces refused
falls-leaves pieces taken refused falls = record {
  at = falls.at;
  between = None;
  front = λ before told. told-none before told;
  leaves = subst (λ (w : AppendRefused). AppendLeaves None None falls.at.piece w) (sym falls.why_is) (falls.within, λ before told. told-none before told);
}
