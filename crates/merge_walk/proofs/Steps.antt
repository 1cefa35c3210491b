-- What the loading of a piece comes to.
use Rattle.std.proofs.Common.{◌≡◌, ℕ, ◌+◌, ◌≤◌, List, [], ◌∷◌, ◌++◌, zero, suc, refl, sym, ap, subst, inl, inr, ◌∙◌, Ok, Err, arith}
use Rattle.std.proofs.lemmas.Option.{same_Some}
use Rattle.mcap_io.specs.Stores.{StoreState}
use Rattle.mcap_model.specs.Places.{At, Has}
use Rattle.mcap_model.proofs.Places.{at_none, has_last}
use Rattle.merge_walk.specs.declared.window.Loaded.{Loaded}
use Rattle.merge_walk.specs.Parts.{loaded_part, IsPartLoaded}
use Rattle.merge_walk.specs.Windows.{loaded_in}
use Rattle.mcap_model.specs.declared.refusals.ReadingRefused.{ReadingRefused}
use Rattle.mcap_model.specs.declared.refusals.ReadingRefused.TheVariants as readings
use Rattle.merge_walk.specs.declared.turns.WalkRefused.{WalkRefused}
use Rattle.merge_walk.specs.declared.turns.WalkRefused.TheVariants as refusals
use Rattle.merge_walk.specs.declared.pieces.Piece.{Piece}
use Rattle.merge_walk.specs.declared.walk.Walk.{Walk}
use Rattle.merge_walk.specs.Pieces.{InputBytes, AreBytesOf}
use Rattle.merge_walk.specs.Cursors.{MakesCursor}
use Rattle.merge_walk.specs.Stores.{StoresFit, LeavesStores, ReadsPiece}
use Rattle.merge_walk.specs.Walks.{pieces_ahead, StandsBehindSome, LoadsPiece, IsWalkRefused}
use Rattle.merge_walk.proofs.Fitting.{part_loaded}
use Rattle.merge_walk.proofs.Places.{dropped}
use Rattle.merge_walk.proofs.Stayed.{leaves_changed, read_then}
use Rattle.merge_walk.proofs.Walked.{loaded_twice}

pub next_ahead : (w : Walk) (p : Piece) → At w.pieces.items w.next p → Has (pieces_ahead w) p
next_ahead w p at = (0, dropped w.pieces.items w.next w.next 0 p (omega arith) at)

pub fit_one : (stores : List StoreState) (pieces : List Piece) (k : ℕ) (p : Piece) → StoresFit stores pieces → At pieces k p → StoresFit stores (p ∷ [])
fit_one stores pieces k p fit at zero q at_q = subst (λ (r : Piece). (s : StoreState) × At stores r.input s × (r.span.at + r.span.length ≤ s.known)) (same_Some p q at_q) (fit k p at)
fit_one stores pieces k p fit at (suc n) q at_q = absurd (at_none n q at_q)

-- ---- the piece is loaded already

pub twice_refused : (files : InputBytes) (w : Walk) (p : Piece) (why : WalkRefused) → StandsBehindSome files w → At w.pieces.items w.next p → IsPartLoaded (loaded_in w.window) p.input p.span.at → why ≡ refusals.Changed p.input p.span.offset → IsWalkRefused files w why
twice_refused files w p why stands at loaded is = subst (IsWalkRefused files w) (sym is) (p, next_ahead w p at, refl, refl, inr (loaded_twice files w p stands at loaded))

pub twice_leaves : {X : Type 0} (xs : List StoreState) (old new : Walk) (input offset : ℕ) (why : WalkRefused) → why ≡ refusals.Changed input offset → LeavesStores {X = X} xs xs old new (Err why)
twice_leaves {X} xs old new input offset why is = subst (λ (y : WalkRefused). LeavesStores {X = X} xs xs old new (Err y)) (sym is) (leaves_changed xs old new input offset)

-- ---- its bytes aren't loaded

pub piece_refused : (files : InputBytes) (w : Walk) (olds news : List StoreState) (p : Piece) (why : WalkRefused) → ReadsPiece olds news p (Err why) → IsWalkRefused files w why
piece_refused files w olds news p (refusals.Changed input offset) reads = absurd reads.cause
piece_refused files w olds news p (refusals.Refused input why) reads = tt

-- ---- they are

pub part_there : (files : InputBytes) (p : Piece) (old new : List Loaded) (done : Unit {0}) → LoadsPiece files p old new (Ok done) → IsPartLoaded new p.input p.span.at
part_there files p old new done (bytes, are, is) =
    let part = loaded_part p.input p.span.at bytes in
    (part, subst (λ (l : List Loaded). Has l part) (sym is) (has_last old part []), (refl, refl))

-- the bytes that the window gives are those of the piece
pub record PartIs (files : InputBytes) (p : Piece) (old new : List Loaded) (found : List ℕ) : Type 0 where
  pub are : AreBytesOf files p found
  pub is : new ≡ old ++ loaded_part p.input p.span.at found ∷ []

pub part_is : (files : InputBytes) (p : Piece) (old new : List Loaded) (done : Unit {0}) (found : List ℕ) → (IsPartLoaded old p.input p.span.at → ⊥) → LoadsPiece files p old new (Ok done) → Has new (loaded_part p.input p.span.at found) → PartIs files p old new found
part_is files p old new done found unloaded (bytes, are, is) has =
    let same : found ≡ bytes = part_loaded old p.input p.span.at bytes found unloaded (subst (λ (l : List Loaded). Has l (loaded_part p.input p.span.at found)) is has) in
    record {
      are = subst (AreBytesOf files p) (sym same) are;
      is = is ∙ ap (λ (b : List ℕ). old ++ loaded_part p.input p.span.at b ∷ []) (sym same);
    }

-- ---- no cursor is made of them

pub cursor_refused : (files : InputBytes) (w : Walk) (p : Piece) (bytes : List ℕ) (why : WalkRefused) → At w.pieces.items w.next p → AreBytesOf files p bytes → MakesCursor p bytes (Err why) → IsWalkRefused files w why
cursor_refused files w p bytes (refusals.Changed input offset) at are makes = (p, next_ahead w p at, makes.0, makes.1, inl (bytes, are, makes.2))
cursor_refused files w p bytes (refusals.Refused input why) at are makes = tt

pub cursor_leaves : {X : Type 0} (olds news : List StoreState) (old new : Walk) (p : Piece) (bytes : List ℕ) (done : Unit {0}) (why : WalkRefused) → At old.pieces.items old.next p → ReadsPiece olds news p (Ok done) → MakesCursor p bytes (Err why) → LeavesStores {X = X} olds news old new (Err why)
cursor_leaves {X} olds news old new p bytes done why at reads makes = read_then olds news old p at new done why reads (λ input reading is. let lacks = subst (λ (y : WalkRefused). MakesCursor p bytes (Err y)) is makes in lacks.1)

pub memory_leaves : {X : Type 0} (olds news : List StoreState) (old new : Walk) (p : Piece) (done : Unit {0}) → At old.pieces.items old.next p → ReadsPiece olds news p (Ok done) → LeavesStores {X = X} olds news old new (Err (refusals.Refused p.input readings.Memory))
memory_leaves olds news old new p done at reads = read_then olds news old p at new done (refusals.Refused p.input readings.Memory) reads only
  where
    only : (input : ℕ) (reading : ReadingRefused) → refusals.Refused p.input readings.Memory ≡ refusals.Refused input reading → reading ≡ readings.Memory
    only input reading e = cc
