-- Loaded pieces, and how far their messages were given.
use Rattle.std.specs.Prelude.{◌≡◌, ◌⊎◌, ◌↔◌, ℕ, ◌<◌, ◌≤◌, List, [], drop, map, length, Option, Some, None, Result, Ok, Err, Bool, false, IsTrue, IsPermutation}
use Rattle.mcap_model.specs.Places.{At, Each}
use Rattle.mcap_model.specs.declared.refusals.ReadingRefused.TheVariants as readings
use Rattle.merge_walk.specs.declared.turns.Turn.{Turn}
use Rattle.merge_walk.specs.declared.turns.WalkRefused.{WalkRefused}
use Rattle.merge_walk.specs.declared.turns.WalkRefused.TheVariants as refusals
use Rattle.mcap_scan.specs.declared.message_heads.MessageHead.{MessageHead}
use Rattle.merge_walk.specs.declared.pieces.Piece.{Piece}
use Rattle.merge_walk.specs.declared.cursors.Cursor.{Cursor}
use Rattle.mcap_scan.specs.Heads.{heads_in}
use Rattle.merge_walk.specs.Heads.{AreInSpan, HeadsRise, FitsSpan}

-- a message of a piece, with its turn
abbrev pub turn_of : Piece → MessageHead → Turn
turn_of p e = record { log_time = e.time; input = p.input; offset = p.span.offset; at = p.span.at; inner = e.offset }

-- a message comes before another: by log time, input, piece and place in the piece
abbrev pub TurnBefore : Turn → Turn → Type 0
TurnBefore t u = (t.log_time < u.log_time)
    ⊎ ((t.log_time ≡ u.log_time) × ((t.input < u.input)
    ⊎ ((t.input ≡ u.input) × ((t.at < u.at) ⊎ ((t.at ≡ u.at) × (t.inner < u.inner))))))

-- a message comes before all of another piece, none of which was logged before its least time
abbrev pub TurnBeforePiece : Turn → Piece → Type 0
TurnBeforePiece t p = (t.log_time < p.span.least)
    ⊎ ((t.log_time ≡ p.span.least) × ((t.input < p.input) ⊎ ((t.input ≡ p.input) × (t.at < p.span.at))))

-- the turns that are left in a piece
abbrev pub turns_left : Cursor → List Turn
turns_left c = map (turn_of c.piece) (drop c.given c.heads.items)

-- a message of one piece doesn't come behind that of another: their places inside aren't looked at
abbrev pub PieceTurnNotBehind : Turn → Turn → Type 0
PieceTurnNotBehind t u = (t.log_time < u.log_time)
    ⊎ ((t.log_time ≡ u.log_time) × ((t.input < u.input) ⊎ ((t.input ≡ u.input) × (t.at ≤ u.at))))

-- one is left
abbrev pub HasLeft : Cursor → Type 0
HasLeft c = c.given < length c.heads.items

-- this message is the next of a piece
abbrev pub IsNext : Cursor → Turn → Type 0
IsNext c t = (e : MessageHead) × At c.heads.items c.given e × (t ≡ turn_of c.piece e)

-- of the pieces at two places this is one whose next message doesn't come behind that of the other
abbrev pub EarlierOf : List Cursor → ℕ → ℕ → ℕ → Type 0
EarlierOf cursors first i n = (c d : Cursor) (t u : Turn) → At cursors first c → At cursors i d → IsNext c t
    → IsNext d u → ((n ≡ first) × PieceTurnNotBehind t u) ⊎ ((n ≡ i) × PieceTurnNotBehind u t)

-- the piece at that place has a next message which doesn't come behind that of any other
abbrev pub IsFirst : List Cursor → ℕ → Type 0
IsFirst cursors i = (c : Cursor) × (t : Turn) × At cursors i c × IsNext c t
    × Each (λ d. (u : Turn) → IsNext d u → PieceTurnNotBehind t u) cursors

abbrev pub FindsFirstCursor : List Cursor → Option ℕ → Type 0
FindsFirstCursor cursors (Some i) = IsFirst cursors i
FindsFirstCursor cursors None = cursors ≡ []

-- whether there is a next message of the piece at that place, and it comes before all of another piece
abbrev pub TellsBefore : List Cursor → Option ℕ → Piece → Bool → Type 0
TellsBefore cursors (Some i) p before =
    (c : Cursor) × (t : Turn) × At cursors i c × IsNext c t × (IsTrue before ↔ TurnBeforePiece t p)
TellsBefore cursors None p before = before ≡ false

-- nothing was given of a piece with these bytes: its messages are those of the bytes, in their order, as many as the span's and
-- within it
pub record IsFreshCursor (p : Piece) (bytes : List ℕ) (c : Cursor) : Type 0 where
  pub piece : c.piece ≡ p
  pub given : c.given ≡ 0
  pub some : 0 < length c.heads.items
  pub many : length c.heads.items ≡ p.span.messages
  pub same : IsPermutation (heads_in bytes) c.heads.items
  pub rise : HeadsRise c.heads.items
  pub within : AreInSpan p.span c.heads.items

-- bytes that can't be those of the piece's span are refused as changed
abbrev pub MakesCursor : Piece → List ℕ → Result Cursor WalkRefused → Type 0
MakesCursor p bytes (Ok c) = IsFreshCursor p bytes c
MakesCursor p bytes (Err (refusals.Changed input offset)) =
    (input ≡ p.input) × (offset ≡ p.span.offset) × (FitsSpan p.span bytes → ⊥)
MakesCursor p bytes (Err (refusals.Refused input why)) = (input ≡ p.input) × (why ≡ readings.Memory)
