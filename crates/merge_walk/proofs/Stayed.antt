-- What stores are from call to call.
use Rattle.std.proofs.Common.{◌≡◌, ℕ, zero, suc, ◌+◌, ◌<◌, ◌≤◌, Bool, eqb, List, [], ◌∷◌, length, map, set, drop, cond, refl, sym, ap, subst, ◌∙◌, inl, inr, Option, Some, Result, Ok, Err, arith}
use Rattle.std.proofs.lemmas.Bool.{eq-eqb}
use Rattle.std.proofs.lemmas.List.{map-set}
use Rattle.std.proofs.lemmas.List.Sums.{sum_by-cons}
use Rattle.mcap_io.specs.Outside.{RisesOnce}
use Rattle.mcap_io.specs.Stores.{StoreState}
use Rattle.mcap_io.specs.StoreAnswers.{StoreStays}
use Rattle.mcap_model.specs.Places.{At}
use Rattle.mcap_model.proofs.Places.{at_none, at_one, at_within, at_set, at_set_same}
use Rattle.mcap_model.proofs.Flat.{at_mapped}
use Rattle.mcap_model.proofs.NamedTopics.{zip_front, zip_back, unmapped}
use Rattle.mcap_model.specs.declared.refusals.ReadingRefused.{ReadingRefused}
use Rattle.mcap_model.specs.declared.refusals.ReadingRefused.TheVariants as readings
use Rattle.merge_walk.specs.Parts.{IsOf, LoadsFrom}
use Rattle.merge_walk.specs.declared.turns.WalkRefused.{WalkRefused}
use Rattle.merge_walk.specs.declared.turns.WalkRefused.TheVariants as refusals
use Rattle.merge_walk.specs.declared.pieces.Piece.{Piece}
use Rattle.merge_walk.specs.declared.walk.Walk.{Walk}
use Rattle.merge_walk.specs.Pieces.{InputBytes, AreBytesOf, pieces_size}
use Rattle.merge_walk.specs.Stores.{files_of, StoresFit, StoresStay, CountStands, AllCountsStand, OneRose, AskedWithin, unasked, none_left, UnloadedCounts, RefusedCounts, CountsAfter, AskedAfter, LeavesStores, PieceCause, ReadsPiece}
use Rattle.merge_walk.proofs.Places.{drop_head}

-- ---- what they tell

pub stay_so : (xs : List StoreState) → StoresStay xs xs
stay_so [] = tt
stay_so (x ∷ xs) = (record { bytes = refl; known = refl }, stay_so xs)

pub stay_on : (a b c : List StoreState) → StoresStay a b → StoresStay b c → StoresStay a c
stay_on [] [] [] one other = tt
stay_on [] [] (z ∷ zs) one other = absurd other
stay_on [] (y ∷ ys) c one other = absurd one
stay_on (x ∷ xs) [] c one other = absurd one
stay_on (x ∷ xs) (y ∷ ys) [] one other = absurd other
stay_on (x ∷ xs) (y ∷ ys) (z ∷ zs) one other = (
  record { bytes = other.0.bytes ∙ one.0.bytes; known = other.0.known ∙ one.0.known },
  stay_on xs ys zs one.1 other.1,
)

pub fit_on : (olds news : List StoreState) (pieces : List Piece) → StoresFit olds pieces → StoresStay olds news → StoresFit news pieces
fit_on olds news pieces fit stay n p at =
    let (s, at_s, within) = fit n p at in
    let (t, at_t, same) = zip_front StoreStays olds news p.input s stay at_s in
    let known = same.known in
    (t, at_t, omega (arith, within, known))

-- they tell the same
pub files_stay : (olds news : List StoreState) → StoresStay olds news → files_of news ≡ files_of olds
files_stay [] [] stay = refl
files_stay [] (y ∷ ys) stay = absurd stay
files_stay (x ∷ xs) [] stay = absurd stay
files_stay (x ∷ xs) (y ∷ ys) stay =
    ap (λ (b : Option (List ℕ)). b ∷ files_of ys) stay.0.bytes ∙ ap (λ (l : InputBytes). x.bytes ∷ l) (files_stay xs ys stay.1)

-- ---- their counts

pub counts_so : (xs : List StoreState) → AllCountsStand xs xs
counts_so [] = tt
counts_so (x ∷ xs) = (refl, counts_so xs)

pub counts_on : (a b c : List StoreState) → AllCountsStand a b → AllCountsStand b c → AllCountsStand a c
counts_on [] [] [] one other = tt
counts_on [] [] (z ∷ zs) one other = absurd other
counts_on [] (y ∷ ys) c one other = absurd one
counts_on (x ∷ xs) [] c one other = absurd one
counts_on (x ∷ xs) (y ∷ ys) [] one other = absurd other
counts_on (x ∷ xs) (y ∷ ys) (z ∷ zs) one other = (other.0 ∙ one.0, counts_on xs ys zs one.1 other.1)

one_rose_on : (a b c : List StoreState) (place faults : ℕ) → AllCountsStand a b → OneRose b c place faults → OneRose a c place faults
one_rose_on a b c place faults one rose =
    let (s, at_s, same) = zip_back CountStands a b place rose.old one rose.old_at in
    record {
      old = s;
      new = rose.new;
      old_at = at_s;
      new_at = rose.new_at;
      rises = subst (λ (n : ℕ). RisesOnce n rose.new.faults) same rose.rises;
      faults_is = rose.faults_is;
      others = λ n was is other at_was at_is.
          let (mid, at_mid, stands) = zip_front CountStands a b n was one at_was in
          rose.others n mid is other at_mid at_is ∙ stands;
    }

-- ---- what they were asked for

pub asked_so : (xs : List StoreState) (w : ℕ → ℕ) → AskedWithin xs xs w w
asked_so xs w k old new at_old at_new =
    let same : old ≡ new = at_one xs k old new at_old at_new in
    let asked : old.asked ≡ new.asked = ap (λ (s : StoreState). s.asked) same in
    omega (arith, asked)

asked_on : (a b c : List StoreState) (f g h : ℕ → ℕ) → StoresStay a b → AskedWithin a b f g → AskedWithin b c g h → AskedWithin a c f h
asked_on a b c f g h stay one other k old new at_old at_new =
    let (mid, at_mid, same) = zip_front StoreStays a b k old stay at_old in
    let first = one k old mid at_old at_mid in
    let last = other k mid new at_mid at_new in
    omega (arith, first, last)

asked_less : (a b : List StoreState) (f g : ℕ → ℕ) → AskedWithin a b f g → AskedWithin a b f none_left
asked_less a b f g within k old new at_old at_new =
    let all = within k old new at_old at_new in
    omega (arith, all)

-- ---- calls one behind the other

pub leaves_on : {X : Type 0} (a b c : List StoreState) (start mid new : Walk) (done : Unit {0}) (result : Result X WalkRefused) → LeavesStores a b start mid (Ok done) → LeavesStores b c mid new result → LeavesStores a c start new result
leaves_on {X} a b c start mid new done result one other = record {
  stay = stay_on a b c one.stay other.stay;
  counts = counts result other.counts;
  asked = asked result other.asked;
}
  where
    refused : (why : WalkRefused) → RefusedCounts b c why → RefusedCounts a c why
    refused (refusals.Changed input offset) stand = counts_on a b c one.counts stand
    refused (refusals.Refused input (readings.Fault faults)) rose = one_rose_on a b c input faults one.counts rose
    refused (refusals.Refused input (readings.Grammar offset rule)) none = absurd none
    refused (refusals.Refused input (readings.Compressed offset name)) none = absurd none
    refused (refusals.Refused input (readings.Limit offset)) none = absurd none
    refused (refusals.Refused input readings.Memory) stand = counts_on a b c one.counts stand

    counts : (r : Result X WalkRefused) → CountsAfter b c r → CountsAfter a c r
    counts (Ok it) stand = counts_on a b c one.counts stand
    counts (Err why) stand = refused why stand

    asked : (r : Result X WalkRefused) → AskedAfter b c mid new r → AskedAfter a c start new r
    asked (Ok it) within = asked_on a b c (unasked start) (unasked mid) (unasked new) one.stay one.asked within
    asked (Err why) within = asked_on a b c (unasked start) (unasked mid) none_left one.stay one.asked within

-- nothing was read
pub leaves_so : {X : Type 0} (xs : List StoreState) (old new : Walk) (it : X) → new.next ≡ old.next → new.pieces ≡ old.pieces → LeavesStores xs xs old new (Ok it)
leaves_so xs old new it next pieces = record {
  stay = stay_so xs;
  counts = counts_so xs;
  asked = subst (AskedWithin xs xs (unasked old)) (sym (ap (λ (n : ℕ). λ (k : ℕ). pieces_size k (drop n new.pieces.items)) next ∙ ap (λ v. λ (k : ℕ). pieces_size k (drop old.next v.items)) pieces)) (asked_so xs (unasked old));
}

pub leaves_changed : {X : Type 0} (xs : List StoreState) (old new : Walk) (input offset : ℕ) → LeavesStores {X = X} xs xs old new (Err (refusals.Changed input offset))
leaves_changed xs old new input offset = record {
  stay = stay_so xs;
  counts = counts_so xs;
  asked = asked_less xs xs (unasked old) (unasked old) (asked_so xs (unasked old));
}

-- ---- one piece is read

set_stays : (stores : List StoreState) (i : ℕ) (x y : StoreState) → At stores i x → StoreStays x y → StoresStay stores (set stores i y)
set_stays [] i x y at stays = absurd (at_none i x at)
set_stays (z ∷ zs) zero x y at stays =
    let same : z ≡ x = at_one (z ∷ zs) zero z x refl at in
    (subst (λ (w : StoreState). StoreStays w y) (sym same) stays, stay_so zs)
set_stays (z ∷ zs) (suc i) x y at stays = (record { bytes = refl; known = refl }, set_stays zs i x y at stays)

set_stands : (stores : List StoreState) (i : ℕ) (x y : StoreState) → At stores i x → CountStands x y → AllCountsStand stores (set stores i y)
set_stands [] i x y at stands = absurd (at_none i x at)
set_stands (z ∷ zs) zero x y at stands =
    let same : z ≡ x = at_one (z ∷ zs) zero z x refl at in
    (subst (λ (w : StoreState). CountStands w y) (sym same) stands, counts_so zs)
set_stands (z ∷ zs) (suc i) x y at stands = (refl, set_stands zs i x y at stands)

-- how many bytes the next piece has of an input
abbrev piece_share : ℕ → Piece → ℕ
piece_share k p = cond (eqb p.input k) p.span.length 0

unasked_falls : (w : Walk) (p : Piece) (k : ℕ) → At w.pieces.items w.next p → unasked w k ≡ piece_share k p + pieces_size k (drop (suc w.next) w.pieces.items)
unasked_falls w p k at =
    ap (pieces_size k) (drop_head w.pieces.items w.next p at)
    ∙ sum_by-cons (piece_share k) p (drop (suc w.next) w.pieces.items)

share_of : (p : Piece) (k : ℕ) → p.input ≡ k → piece_share k p ≡ p.span.length
share_of p k same = ap (λ (b : Bool). cond b p.span.length 0) (eq-eqb p.input k same)

-- where it is refused for what was loaded, memory lacked
abbrev pub LacksOnly : WalkRefused → Type 0
LacksOnly why = (input : ℕ) (reading : ReadingRefused) → why ≡ refusals.Refused input reading → reading ≡ readings.Memory

module _ (olds news : List StoreState) (old : Walk) (p : Piece) (at : At old.pieces.items old.next p) where
  abbrev rest : ℕ → ℕ
  rest k = pieces_size k (drop (suc old.next) old.pieces.items)

  read_asked : (result : Result Unit WalkRefused) → ReadsPiece olds news p result → AskedWithin olds news (unasked old) rest
  read_asked result reads k was is at_was at_is =
      let falls = unasked_falls old p k at in
      let asked = reads.asked in
      elim (at_set olds p.input k is reads.new (subst (λ (l : List StoreState). At l k is) reads.sets at_is)) [
        | inl here ↦
            let size = share_of p k (sym here.0) in
            let first : was ≡ reads.old = at_one olds k was reads.old at_was (subst (λ (n : ℕ). At olds n reads.old) (sym here.0) reads.at) in
            let before : was.asked ≡ reads.old.asked = ap (λ (s : StoreState). s.asked) first in
            let after : is.asked ≡ reads.new.asked = ap (λ (s : StoreState). s.asked) here.1 in
            omega (arith, falls, asked, size, before, after)
        | inr other ↦
            let same : is.asked ≡ was.asked = ap (λ (s : StoreState). s.asked) (at_one olds k is was other.1 at_was) in
            omega (arith, falls, same)
      ]

  read_stay : (result : Result Unit WalkRefused) → ReadsPiece olds news p result → StoresStay olds news
  read_stay result reads = subst (StoresStay olds) (sym reads.sets) (set_stays olds p.input reads.old reads.new reads.at reads.stays)

  stand : (result : Result Unit WalkRefused) (reads : ReadsPiece olds news p result) → reads.new.faults ≡ reads.old.faults → AllCountsStand olds news
  stand result reads same = subst (AllCountsStand olds) (sym reads.sets) (set_stands olds p.input reads.old reads.new reads.at same)

  -- the piece isn't loaded
  pub read_refused : {X : Type 0} (new : Walk) (why : WalkRefused) → ReadsPiece olds news p (Err why) → LeavesStores {X = X} olds news old new (Err why)
  read_refused new why reads = record {
    stay = read_stay (Err why) reads;
    counts = by why reads;
    asked = asked_less olds news (unasked old) rest (read_asked (Err why) reads);
  }
    where
      unloaded : (input : ℕ) (y : ReadingRefused) → ReadsPiece olds news p (Err (refusals.Refused input y)) → UnloadedCounts olds news p.input y
      unloaded input (readings.Fault faults) it =
          let (rises, same) = it.cause.1 in
          record {
            old = it.old;
            new = it.new;
            old_at = it.at;
            new_at = subst (λ (l : List StoreState). At l p.input it.new) (sym it.sets) (at_set_same olds p.input it.new (at_within olds p.input it.old it.at));
            rises = rises;
            faults_is = same;
            others = λ n was is other at_was at_is. elim (at_set olds p.input n is it.new (subst (λ (l : List StoreState). At l n is) it.sets at_is)) [
              | inl here ↦ absurd (other here.0)
              | inr there ↦ ap (λ (s : StoreState). s.faults) (at_one olds n is was there.1 at_was)
            ];
          }
      unloaded input (readings.Grammar offset rule) it = absurd it.cause.1
      unloaded input (readings.Compressed offset name) it = absurd it.cause.1
      unloaded input (readings.Limit offset) it = absurd it.cause.1
      unloaded input readings.Memory it = stand (Err (refusals.Refused input readings.Memory)) it it.cause.1

      by : (y : WalkRefused) → ReadsPiece olds news p (Err y) → RefusedCounts olds news y
      by (refusals.Changed input offset) it = absurd it.cause
      by (refusals.Refused input reading) it = let same = it.cause.0 in subst (λ (n : ℕ). UnloadedCounts olds news n reading) (sym same) (unloaded input reading it)

  -- it is, and what follows is refused
  pub read_then : {X : Type 0} (new : Walk) (done : Unit {0}) (why : WalkRefused) → ReadsPiece olds news p (Ok done) → LacksOnly why → LeavesStores {X = X} olds news old new (Err why)
  read_then new done why reads lacks = record {
    stay = read_stay (Ok done) reads;
    counts = by why lacks;
    asked = asked_less olds news (unasked old) rest (read_asked (Ok done) reads);
  }
    where
      by : (y : WalkRefused) → LacksOnly y → RefusedCounts olds news y
      by (refusals.Changed input offset) only = stand (Ok done) reads reads.cause
      by (refusals.Refused input reading) only = subst (UnloadedCounts olds news input) (sym (only input reading refl)) (stand (Ok done) reads reads.cause)

  -- it is, and all goes well
  pub read_well : {X : Type 0} (new : Walk) (done : Unit {0}) (it : X) → ReadsPiece olds news p (Ok done) → new.next ≡ old.next + 1 → new.pieces ≡ old.pieces → LeavesStores olds news old new (Ok it)
  read_well new done it reads next pieces = record {
    stay = read_stay (Ok done) reads;
    counts = stand (Ok done) reads reads.cause;
    asked = subst (AskedWithin olds news (unasked old)) (sym is) (read_asked (Ok done) reads);
  }
    where
      behind : new.next ≡ suc old.next
      behind = omega (arith, next)

      is : unasked new ≡ rest
      is = ap (λ (n : ℕ). λ (k : ℕ). pieces_size k (drop n new.pieces.items)) behind ∙ ap (λ v. λ (k : ℕ). pieces_size k (drop (suc old.next) v.items)) pieces

-- ---- the store of a piece

module _ {T : Type 0} (state : T → StoreState) where
  -- it is there, and has answered its length
  pub store_of : (stores : List T) (pieces : List Piece) (k : ℕ) (p : Piece) → StoresFit (map state stores) pieces → At pieces k p → (x : T) × At stores p.input x × (p.span.at + p.span.length ≤ (state x).known)
  store_of stores pieces k p fit at =
      let (s, at_s, within) = fit k p at in
      let (x, at_x, is) = unmapped state stores p.input s at_s in
      (x, at_x, subst (λ (t : StoreState). p.span.at + p.span.length ≤ t.known) (sym is) within)

  pub store_there : (stores : List T) (pieces : List Piece) (k : ℕ) (p : Piece) → StoresFit (map state stores) pieces → At pieces k p → p.input < length stores
  store_there stores pieces k p fit at = let found = store_of stores pieces k p fit at in at_within stores p.input found.0 found.1

  -- what it tells
  told_at : (stores : List T) (i : ℕ) (x : T) (file : List ℕ) → At stores i x → At (files_of (map state stores)) i (Some file) → (state x).bytes ≡ Some file
  told_at stores i x file at told = at_one (files_of (map state stores)) i (state x).bytes (Some file) (at_mapped (λ (s : StoreState). s.bytes) (map state stores) i (state x) (at_mapped state stores i x at)) told

  -- the bytes that it gave are those of the piece
  pub bytes_loaded : (stores : List T) (p : Piece) (x : T) (bytes : List ℕ) → At stores p.input x → IsOf (state x).bytes (record { input = p.input; offset = p.span.at; length = p.span.length }) bytes → AreBytesOf (files_of (map state stores)) p bytes
  bytes_loaded stores p x bytes at is = record {
    size = is.size;
    told_is = λ file told. is.told_is file (told_at stores p.input x file at told);
  }

  -- it was read, and no other
  pub reads_piece : (stores : List T) (p : Piece) (x y : T) (found : Result Unit ReadingRefused) (result : Result Unit WalkRefused) → At stores p.input x → LoadsFrom (state x) (state y) p.span.length found → PieceCause p (state x).faults (state y).faults result
      → ReadsPiece (map state stores) (map state (set stores p.input y)) p result
  reads_piece stores p x y found result at reads cause = record {
    old = state x;
    new = state y;
    at = at_mapped state stores p.input x at;
    sets = map-set state stores p.input y;
    stays = record { bytes = reads.bytes; known = reads.known };
    asked = reads.asked;
    cause = cause;
  }
