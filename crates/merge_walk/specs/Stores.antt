-- What a walk asks of stores, and leaves of them.
use Rattle.std.specs.Prelude.{◌≡◌, ℕ, ◌+◌, ◌≤◌, List, drop, map, set, Result, Ok, Err}
use Rattle.std.specs.List.{AllZip}
use Rattle.mcap_io.specs.Outside.{RisesOnce}
use Rattle.mcap_io.specs.Stores.{StoreState}
use Rattle.mcap_io.specs.StoreAnswers.{StoreStays}
use Rattle.mcap_model.specs.Places.{At, Each}
use Rattle.mcap_model.specs.declared.refusals.ReadingRefused.{ReadingRefused}
use Rattle.mcap_model.specs.declared.refusals.ReadingRefused.TheVariants as readings
use Rattle.merge_walk.specs.Parts.{PartCause}
use Rattle.merge_walk.specs.declared.turns.WalkRefused.{WalkRefused}
use Rattle.merge_walk.specs.declared.turns.WalkRefused.TheVariants as refusals
use Rattle.merge_walk.specs.declared.pieces.Piece.{Piece}
use Rattle.merge_walk.specs.declared.walk.Walk.{Walk}
use Rattle.merge_walk.specs.Pieces.{InputBytes, pieces_size}

-- what stores tell
abbrev pub files_of : List StoreState → InputBytes
files_of stores = map (λ s. s.bytes) stores

-- each piece lies within the length that its store has answered
abbrev pub StoresFit : List StoreState → List Piece → Type 0
StoresFit stores pieces =
    Each (λ p. (s : StoreState) × At stores p.input s × (p.span.at + p.span.length ≤ s.known)) pieces

-- stores tell the same bytes and the same length
abbrev pub StoresStay : List StoreState → List StoreState → Type 0
StoresStay olds news = AllZip StoreStays olds news

-- the count of a store stands
abbrev pub CountStands : StoreState → StoreState → Type 0
CountStands old new = new.faults ≡ old.faults

-- those of all stores stand
abbrev pub AllCountsStand : List StoreState → List StoreState → Type 0
AllCountsStand olds news = AllZip CountStands olds news

-- the count of the one at that place has risen by one, to this, and those of the others stand
pub record OneRose (olds news : List StoreState) (place faults : ℕ) : Type 0 where
  pub old : StoreState
  pub new : StoreState
  pub old_at : At olds place old
  pub new_at : At news place new
  pub rises : RisesOnce old.faults new.faults
  pub faults_is : faults ≡ new.faults
  pub others : (n : ℕ) (was is : StoreState) → (n ≡ place → ⊥) → At olds n was → At news n is → CountStands was is

-- Each store, by its number, was asked for no more than so many bytes, but for those that it may still be asked for.
abbrev pub AskedWithin : List StoreState → List StoreState → (ℕ → ℕ) → (ℕ → ℕ) → Type 0
AskedWithin olds news before after =
    (k : ℕ) (old new : StoreState) → At olds k old → At news k new → new.asked + after k ≤ old.asked + before k

-- how many bytes of an input a walk may still ask for: those of the pieces that weren't loaded
abbrev pub unasked : Walk → ℕ → ℕ
unasked w input = pieces_size input (drop w.next w.pieces.items)

abbrev pub none_left : ℕ → ℕ
none_left input = 0

-- The counts where a piece of the input of that number isn't loaded. Only faults and a want of memory are refused so.
abbrev pub UnloadedCounts : List StoreState → List StoreState → ℕ → ReadingRefused → Type 0
UnloadedCounts olds news input (readings.Fault faults) = OneRose olds news input faults
UnloadedCounts olds news input (readings.Grammar offset rule) = ⊥
UnloadedCounts olds news input (readings.Compressed offset name) = ⊥
UnloadedCounts olds news input (readings.Limit offset) = ⊥
UnloadedCounts olds news input readings.Memory = AllCountsStand olds news

-- the counts where a call is refused
abbrev pub RefusedCounts : List StoreState → List StoreState → WalkRefused → Type 0
RefusedCounts olds news (refusals.Changed input offset) = AllCountsStand olds news
RefusedCounts olds news (refusals.Refused input why) = UnloadedCounts olds news input why

abbrev pub CountsAfter : {X : Type 0} → List StoreState → List StoreState → Result X WalkRefused → Type 0
CountsAfter olds news (Ok it) = AllCountsStand olds news
CountsAfter olds news (Err why) = RefusedCounts olds news why

-- what was asked for were pieces that are loaded now, or, where the call was refused, some that weren't before
abbrev pub AskedAfter : {X : Type 0} → List StoreState → List StoreState → Walk → Walk → Result X WalkRefused → Type 0
AskedAfter olds news old new (Ok it) = AskedWithin olds news (unasked old) (unasked new)
AskedAfter olds news old new (Err why) = AskedWithin olds news (unasked old) none_left

-- what a call leaves of the stores
pub record LeavesStores {X : Type 0} (olds news : List StoreState) (old new : Walk) (result : Result X WalkRefused)
    : Type 0 where
  pub stay : StoresStay olds news
  pub counts : CountsAfter olds news result
  pub asked : AskedAfter olds news old new result

-- ---- one piece

-- the count of its store, where the piece is loaded, or isn't
abbrev pub PieceCause : Piece → ℕ → ℕ → Result Unit WalkRefused → Type 0
PieceCause p before now (Ok it) = now ≡ before
PieceCause p before now (Err (refusals.Changed input offset)) = ⊥
PieceCause p before now (Err (refusals.Refused input why)) = (input ≡ p.input) × PartCause before now (Err why)

-- the store of a piece is read, and no other
pub record ReadsPiece (olds news : List StoreState) (p : Piece) (result : Result Unit WalkRefused) : Type 0 where
  pub old : StoreState
  pub new : StoreState
  pub at : At olds p.input old
  pub sets : news ≡ set olds p.input new
  pub stays : StoreStays old new
  pub asked : new.asked ≤ old.asked + p.span.length
  pub cause : PieceCause p old.faults new.faults result
