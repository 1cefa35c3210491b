-- Pieces of inputs, their order, and how many bytes they have.
use Rattle.std.specs.Prelude.{◌≡◌, ◌⊎◌, ℕ, ◌+◌, ◌<◌, ◌≤◌, ◌==◌, ◌&&◌, ◌||◌, Bool, nat_le, nat_lt, List, length, take, drop, map, Option, Some, if◌then◌else◌, slice_index_or}
use Rattle.std.specs.List.{sum_by}
use Rattle.mcap_model.specs.Places.{At, Has}
use Rattle.merge_walk.specs.declared.spans.Span.{Span}
use Rattle.merge_walk.specs.declared.pieces.Piece.{Piece}

-- the bytes of each input, where it tells them
abbrev pub InputBytes : Type 0
InputBytes = List (Option (List ℕ))

-- the pieces of an input
abbrev pub pieces_with : ℕ → List Span → List Piece
pieces_with input spans = map (λ s. record { input = input; span = s }) spans

-- a piece isn't loaded behind another: by least time, input, and where it begins
abbrev pub PieceNotBehind : Piece → Piece → Type 0
PieceNotBehind p q = (p.span.least < q.span.least)
    ⊎ ((p.span.least ≡ q.span.least) × ((p.input < q.input) ⊎ ((p.input ≡ q.input) × (p.span.at ≤ q.span.at))))

-- none comes behind the next
abbrev pub PiecesInOrder : List Piece → Type 0
PiecesInOrder pieces = (k : ℕ) (d : Piece) → k + 1 < length pieces
    → PieceNotBehind (slice_index_or pieces k d) (slice_index_or pieces (k + 1) d)

-- these are as many bytes as a piece has; where its input tells, they stand in it there
pub record AreBytesOf (files : InputBytes) (p : Piece) (bytes : List ℕ) : Type 0 where
  pub size : length bytes ≡ p.span.length
  pub told_is : (file : List ℕ) → At files p.input (Some file) → bytes ≡ take p.span.length (drop p.span.at file)

-- two pieces begin at one place of one input
abbrev pub BeginTogether : Piece → Piece → Type 0
BeginTogether p q = (p.input ≡ q.input) × (p.span.at ≡ q.span.at)

-- so does another that stands in front of this one
abbrev pub IsSecond : List Piece → Piece → Type 0
IsSecond pieces p = (i j : ℕ) × (q : Piece) × (i < j) × At pieces i q × At pieces j p × BeginTogether q p

-- how many bytes pieces have of an input
abbrev pub pieces_size : ℕ → List Piece → ℕ
pieces_size input pieces = sum_by (λ p. if p.input == input then p.span.length else 0) pieces

-- how many bytes those have in whose times a time lies
abbrev pub overlap_at : ℕ → List Piece → ℕ
overlap_at time pieces =
    sum_by (λ p. if nat_le p.span.least time && nat_le time p.span.greatest then p.span.length else 0) pieces

-- so many bytes are no more than pieces overlap at the least time of one of them, or none
abbrev pub IsInOverlap : List Piece → ℕ → Type 0
IsInOverlap pieces n = (n ≡ 0) ⊎ ((p : Piece) × Has pieces p × (n ≤ overlap_at p.span.least pieces))

-- ---- what is held at one time

-- all messages of a piece come before all of another one, as far as their spans tell
abbrev pub ends_before : Piece → Piece → Bool
ends_before q p = nat_lt q.span.greatest p.span.least
    || ((q.span.greatest == p.span.least)
    && (nat_lt q.input p.input || ((q.input == p.input) && nat_lt q.span.at p.span.at)))

-- the bytes of a piece that are still held when another is loaded: none where it ends before that one
abbrev pub bytes_left : Piece → Piece → ℕ
bytes_left p q = if ends_before q p then 0 else q.span.length

-- the bytes that are held when the piece at a place is loaded: its own, and those of the pieces in front of it which are left
abbrev pub held_with : List Piece → ℕ → Piece → ℕ
held_with pieces k p = sum_by (bytes_left p) (take (k + 1) pieces)

-- so many bytes are the most that are held when one of the first pieces is loaded; 0 where there is none
pub record IsMostHeld (pieces : List Piece) (count n : ℕ) : Type 0 where
  pub each : (k : ℕ) (p : Piece) → k < count → At pieces k p → held_with pieces k p ≤ n
  pub one : (n ≡ 0) ⊎ ((k : ℕ) × (p : Piece) × (k < count) × At pieces k p × (n ≡ held_with pieces k p))
