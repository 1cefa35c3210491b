-- How many bytes of chunks and messages are needed at one time.
use Rattle.std.specs.Prelude.{◌≡◌, ◌⊎◌, ℕ, suc, ◌≤◌, ◌&&◌, nat_le, List, [], ◌∷◌, ◌++◌, length, if◌then◌else◌, IsPermutation}
use Rattle.std.specs.List.{sum_by}
use Rattle.mcap_model.specs.Places.{Each}
use Rattle.mcap_model.specs.Tops.{Top}
use Rattle.mcap_model.specs.Merged.{Sent, IsFrom}
use Rattle.merge_walk.specs.declared.spans.Span.{Span}
use Rattle.merge_walk.specs.declared.pieces.Piece.{Piece}
use Rattle.merge_walk.specs.Spans.{spans_of}
use Rattle.merge_walk.specs.Pieces.{pieces_with, PiecesInOrder, IsMostHeld}

-- the length of a span in whose times a time lies: of a chunk's records, or of a Message of the top level
abbrev pub length_at : ℕ → Span → ℕ
length_at time s = if nat_le s.least time && nat_le time s.greatest then s.length else 0

-- the lengths together of those of all inputs
abbrev pub overlap : ℕ → List (List Top) → ℕ
overlap time inputs = sum_by (λ tops. sum_by (length_at time) (spans_of tops)) inputs

-- A number that may be the most bytes that were held at one time: at least those of each chunk with a message and of each Message
-- of the top level, and no more than overlap at the time of some message; 0 where there is none.
pub record IsPeak (inputs : List (List Top)) (peak : ℕ) : Type 0 where
  pub each : Each (λ tops. Each (λ s. s.length ≤ peak) (spans_of tops)) inputs
  pub most : (peak ≡ 0) ⊎ ((m : Sent) × IsFrom inputs m × (peak ≤ overlap m.seen.message.log_time inputs))

-- the pieces of all inputs, of which the first has that number: their chunks with a message, and their Messages of the top level
abbrev pub pieces_among : ℕ → List (List Top) → List Piece
pieces_among number [] = []
pieces_among number (tops ∷ others) = pieces_with number (spans_of tops) ++ pieces_among (suc number) others

-- The most bytes that were held at one time. Pieces are loaded by their least times, of which the first input goes first, and in
-- it what stands first; while one is loaded, those are held that were loaded before it and of which a message doesn't come
-- before all of its own.
pub record IsMostOf (inputs : List (List Top)) (peak : ℕ) : Type 0 where
  pub pieces : List Piece
  pub same : IsPermutation (pieces_among 0 inputs) pieces
  pub order : PiecesInOrder pieces
  pub most : IsMostHeld pieces (length pieces) peak
