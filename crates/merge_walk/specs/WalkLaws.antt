-- When a walk finds a piece changed.
use Rattle.std.specs.Prelude.{◌≡◌, ℕ, ◌<◌, List, length, take, drop, Some}
use Rattle.mcap_model.specs.Places.{At, Each}
use Rattle.mcap_model.specs.Tops.{records_in}
use Rattle.merge_walk.specs.declared.spans.Span.{Span}
use Rattle.merge_walk.specs.Times.{times_of}
use Rattle.merge_walk.specs.Surveys.{TimesSpan}
use Rattle.merge_walk.specs.declared.turns.WalkRefused.TheVariants as refusals
use Rattle.merge_walk.specs.declared.pieces.Piece.{Piece}
use Rattle.merge_walk.specs.declared.walk.Walk.{Walk}
use Rattle.merge_walk.specs.Heads.{FitsSpan}
use Rattle.merge_walk.specs.Pieces.{InputBytes, BeginTogether}
use Rattle.merge_walk.specs.Walks.{pieces_in, IsWalkRefused}

-- bytes whose messages were logged when a span says, and are as many, can be those of the span
abbrev pub SurveyedBytesFit : Type 0
SurveyedBytesFit = (span : Span) (bytes : List ℕ)
    → TimesSpan (times_of (records_in bytes)) span.least span.greatest span.in_order
    → span.messages ≡ length (times_of (records_in bytes)) → FitsSpan span bytes

-- the input tells, and the bytes that stand there can be those of the piece's span
abbrev pub IsPieceTold : InputBytes → Piece → Type 0
IsPieceTold files p =
    (file : List ℕ) × At files p.input (Some file) × FitsSpan p.span (take p.span.length (drop p.span.at file))

-- no two begin at one place
abbrev pub BeginApart : List Piece → Type 0
BeginApart pieces = (i j : ℕ) (p q : Piece) → i < j → At pieces i p → At pieces j q → BeginTogether p q → ⊥

-- where all pieces are told and begin at different places, none is found changed
abbrev pub ToldPiecesStay : Type 0
ToldPiecesStay = (files : InputBytes) (w : Walk) (input offset : ℕ) → Each (IsPieceTold files) (pieces_in w)
    → BeginApart (pieces_in w) → IsWalkRefused files w (refusals.Changed input offset) → ⊥
