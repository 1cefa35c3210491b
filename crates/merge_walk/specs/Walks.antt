-- What a walk has given, and what is left.
use Rattle.std.specs.Prelude.{◌≡◌, ◌⊎◌, ℕ, ◌+◌, ◌≤◌, List, [], ◌∷◌, ◌++◌, length, map, take, drop, set, max, AllPairs, true, Option, Some, None, Result, Ok, Err, IsPermutation}
use Rattle.std.specs.List.{AllZip, flat_map, remove, sum_by}
use Rattle.mcap_model.specs.Places.{At, Has, Each}
use Rattle.mcap_model.specs.Tops.{Top, spelled, records_in}
use Rattle.mcap_scan.specs.Heads.{heads_in}
use Rattle.mcap_scan.specs.HeadTimes.{time_in, is_headed}
use Rattle.merge_walk.specs.declared.window.Loaded.{Loaded}
use Rattle.merge_walk.specs.Parts.{loaded_part, bytes_in, IsPartAt, IsPartLoaded}
use Rattle.merge_walk.specs.Windows.{loaded_in}
use Rattle.merge_walk.specs.declared.turns.Turn.{Turn}
use Rattle.merge_walk.specs.declared.turns.WalkRefused.{WalkRefused}
use Rattle.merge_walk.specs.declared.turns.WalkRefused.TheVariants as refusals
use Rattle.merge_walk.specs.declared.pieces.Piece.{Piece}
use Rattle.merge_walk.specs.declared.cursors.Cursor.{Cursor}
use Rattle.merge_walk.specs.declared.walk.Walk.{Walk}
use Rattle.merge_walk.specs.SpanHeads.{times_in}
use Rattle.merge_walk.specs.Heads.{AreInSpan, FitsSpan}
use Rattle.merge_walk.specs.Pieces.{InputBytes, PiecesInOrder, AreBytesOf, BeginTogether, IsSecond, IsInOverlap, IsMostHeld}
use Rattle.merge_walk.specs.Cursors.{turn_of, turns_left, TurnBefore, TurnBeforePiece, HasLeft, IsNext, IsFirst, IsFreshCursor}

-- ---- what a walk is seen as

-- its pieces, in the order in which they are loaded
abbrev pub pieces_in : Walk → List Piece
pieces_in w = w.pieces.items

-- those that were loaded
abbrev pub pieces_loaded : Walk → List Piece
pieces_loaded w = take w.next w.pieces.items

-- those that weren't yet
abbrev pub pieces_ahead : Walk → List Piece
pieces_ahead w = drop w.next w.pieces.items

abbrev pub peak_of : Walk → ℕ
peak_of w = w.peak

-- ---- what was loaded

-- a piece with the bytes that were loaded for it
pub record Text : Type 0 where
  pub piece : Piece
  pub bytes : List ℕ

abbrev pub piece_text : Piece → List ℕ → Text
piece_text p bytes = record { piece = p; bytes = bytes }

-- the turns of its messages, as they stand
abbrev pub turns_in : Text → List Turn
turns_in x = map (turn_of x.piece) (heads_in x.bytes)

-- those of all
abbrev pub turns_of : List Text → List Turn
turns_of texts = flat_map turns_in texts

-- the text is of that piece, and can be that of its span
pub record IsTextOf (files : InputBytes) (p : Piece) (x : Text) : Type 0 where
  pub piece : x.piece ≡ p
  pub bytes : AreBytesOf files p x.bytes
  pub fits : FitsSpan p.span x.bytes

-- the window holds the text, and nothing else that begins there
abbrev pub HoldsText : Walk → Text → Type 0
HoldsText w x = IsPartLoaded (loaded_in w.window) x.piece.input x.piece.span.at
    × Each (λ l. IsPartAt x.piece.input x.piece.span.at l → l.bytes ≡ x.bytes) (loaded_in w.window)

-- the record of a turn: it stands among those of the text, at the turn's place
pub record IsMessageAt (x : Text) (t : Turn) (r : Top) : Type 0 where
  pub front : List Top
  pub back : List Top
  pub stands : records_in x.bytes ≡ front ++ r ∷ back
  pub place : t.inner ≡ length (spelled front)
  pub kind : is_headed r ≡ true
  pub time : t.log_time ≡ time_in r.content

-- ---- what was given

-- those that were given rise, each queue does, and whatever was given comes before what is left
pub record QueuesStand (given : List Turn) (queues : List (List Turn)) : Type 0 where
  pub rise : AllPairs TurnBefore given
  pub each : Each (AllPairs TurnBefore) queues
  pub past : (g u : Turn) (q : List Turn) → Has given g → Has queues q → Has q u → TurnBefore g u

-- just these messages are given or left
pub record GivenOrLeft (messages given : List Turn) (queues : List (List Turn)) : Type 0 where
  pub are : (g : Turn) → Has given g → Has messages g
  pub left : (q : List Turn) (u : Turn) → Has queues q → Has q u → Has messages u
  pub all : (u : Turn) → Has messages u → Has given u ⊎ ((q : List Turn) × Has queues q × Has q u)

-- the pieces of two cursors begin at different places
abbrev pub Apart : Cursor → Cursor → Type 0
Apart c d = BeginTogether c.piece d.piece → ⊥

-- each piece has a message left but for that of the turn which was given last
abbrev pub LeftButLast : Walk → Type 0
LeftButLast w = (k : ℕ) (c : Cursor) → At w.cursors.items k c → (k ≡ w.last → ⊥) → HasLeft c

abbrev pub AllLeft : Walk → Type 0
AllLeft w = Each HasLeft w.cursors.items

-- the bytes of a cursor's piece, which is one of those that were loaded
pub record IsHeldAs (loaded : List Piece) (texts : List Text) (c : Cursor) (l : Loaded) : Type 0 where
  pub begins : IsPartAt c.piece.input c.piece.span.at l
  pub size : length l.bytes ≡ c.piece.span.length
  pub same : IsPermutation (heads_in l.bytes) c.heads.items
  pub within : AreInSpan c.piece.span c.heads.items
  pub there : Has loaded c.piece
  pub text : Has texts (piece_text c.piece l.bytes)

-- the most bytes that were loaded at one time
pub record PeakStands (w : Walk) : Type 0 where
  pub each : Each (λ p. p.span.length ≤ w.peak) (pieces_loaded w)
  pub now : bytes_in (loaded_in w.window) ≤ w.peak
  pub overlap : IsInOverlap w.pieces.items w.peak

-- all messages of a text were given
abbrev pub WasGiven : List Turn → Text → Type 0
WasGiven given x = (t : Turn) → Has (turns_in x) t → Has given t

-- what counts nothing for a text that was given whole counts no more of the pieces that were loaded than of those that are held
abbrev pub HoldsUngiven : Walk → List Text → List Turn → Type 0
HoldsUngiven w texts given = (f : Piece → ℕ) → Each (λ x. WasGiven given x → f x.piece ≡ 0) texts
    → sum_by f (pieces_loaded w) ≤ sum_by (λ c. f c.piece) w.cursors.items

-- whatever bytes stand there for a piece, one of their messages was logged at its greatest time
abbrev pub ReachesEnd : InputBytes → Piece → Type 0
ReachesEnd files p =
    (bytes : List ℕ) → AreBytesOf files p bytes → Has (times_in (heads_in bytes)) p.span.greatest

-- The first pieces were loaded with these texts, and these turns were given of them: in their order, each before whatever is
-- left, and before all of each piece that wasn't loaded yet.
pub record WalkStands (files : InputBytes) (w : Walk) (texts : List Text) (given : List Turn) : Type 0 where
  pub next : w.next ≤ length w.pieces.items
  pub taken : AllZip (IsTextOf files) (pieces_loaded w) texts
  pub order : PiecesInOrder w.pieces.items
  pub queues : QueuesStand given (map turns_left w.cursors.items)
  pub all : GivenOrLeft (turns_of texts) given (map turns_left w.cursors.items)
  pub apart : (i j : ℕ) (c d : Cursor) → (i ≡ j → ⊥) → At w.cursors.items i c → At w.cursors.items j d → Apart c d
  pub early : (g : Turn) (p : Piece) → Has given g → Has (pieces_ahead w) p → TurnBeforePiece g p
  pub left : LeftButLast w
  pub held : AllZip (IsHeldAs (pieces_loaded w) texts) w.cursors.items (loaded_in w.window)
  pub few : (f : Piece → ℕ) → sum_by (λ c. f c.piece) w.cursors.items ≤ sum_by f (pieces_loaded w)
  pub many : HoldsUngiven w texts given
  pub peak : PeakStands w
  pub most : Each (ReachesEnd files) w.pieces.items → IsMostHeld w.pieces.items w.next w.peak

-- it stands so behind some turns
abbrev pub StandsBehindSome : InputBytes → Walk → Type 0
StandsBehindSome files w = (texts : List Text) × (given : List Turn) × WalkStands files w texts given

-- ---- steps

-- no message that is next comes before all of the next piece
abbrev pub NextIsDue : Walk → Type 0
NextIsDue w = (p : Piece) → At w.pieces.items w.next p
    → Each (λ c. (t : Turn) → IsNext c t → TurnBeforePiece t p → ⊥) w.cursors.items

-- the next piece is loaded
pub record LoadsNext (files : InputBytes) (old new : Walk) : Type 0 where
  pub piece : Piece
  pub at : At old.pieces.items old.next piece
  pub unloaded : IsPartLoaded (loaded_in old.window) piece.input piece.span.at → ⊥
  pub bytes : List ℕ
  pub are : AreBytesOf files piece bytes
  pub cursor : Cursor
  pub fresh : IsFreshCursor piece bytes cursor
  pub pieces : new.pieces ≡ old.pieces
  pub cursors : new.cursors.items ≡ old.cursors.items ++ cursor ∷ []
  pub next : new.next ≡ old.next + 1
  pub loaded : loaded_in new.window ≡ loaded_in old.window ++ loaded_part piece.input piece.span.at bytes ∷ []
  pub peak : new.peak ≡ max old.peak (bytes_in (loaded_in new.window))

-- the bytes of a piece are loaded
abbrev pub LoadsPiece : InputBytes → Piece → List Loaded → List Loaded → Result Unit WalkRefused → Type 0
LoadsPiece files p old new (Ok it) =
    (bytes : List ℕ) × AreBytesOf files p bytes × (new ≡ old ++ loaded_part p.input p.span.at bytes ∷ [])
LoadsPiece files p old new (Err why) = Unit {0}

-- A piece that wasn't loaded yet is changed: bytes were loaded for it which can't be those of its span; or another begins
-- at its place.
abbrev pub IsWalkRefused : InputBytes → Walk → WalkRefused → Type 0
IsWalkRefused files w (refusals.Changed input offset) = (p : Piece) × Has (pieces_ahead w) p × (input ≡ p.input)
    × (offset ≡ p.span.offset)
    × (((bytes : List ℕ) × AreBytesOf files p bytes × (FitsSpan p.span bytes → ⊥)) ⊎ IsSecond w.pieces.items p)
IsWalkRefused files w (refusals.Refused input why) = Unit {0}

abbrev pub StepsOn : InputBytes → Walk → Walk → Result Unit WalkRefused → Type 0
StepsOn files old new (Ok it) = LoadsNext files old new
StepsOn files old new (Err why) = IsWalkRefused files old why

-- the piece of the last turn goes
pub record LastGoes (old new : Walk) : Type 0 where
  pub cursor : Cursor
  pub at : At old.cursors.items old.last cursor
  pub over : length cursor.heads.items ≤ cursor.given
  pub cursors : new.cursors.items ≡ remove old.cursors.items old.last
  pub loaded : loaded_in new.window ≡ remove (loaded_in old.window) old.last

-- nothing goes
pub record NoneGoes (old new : Walk) : Type 0 where
  pub cursors : new.cursors.items ≡ old.cursors.items
  pub loaded : loaded_in new.window ≡ loaded_in old.window

-- the piece at that place goes, where it has nothing left
pub record LetsPieceGo (old new : Walk) : Type 0 where
  pub pieces : new.pieces ≡ old.pieces
  pub next : new.next ≡ old.next
  pub peak : new.peak ≡ old.peak
  pub goes : NoneGoes old new ⊎ LastGoes old new
  pub left : AllLeft new

-- the piece has the next message, which comes before all of those that aren't loaded; or nothing is left
abbrev pub DueIs : Walk → Option ℕ → Type 0
DueIs w (Some i) = IsFirst w.cursors.items i
    × (PiecesInOrder w.pieces.items → (c : Cursor) (t : Turn) (p : Piece) → At w.cursors.items i c → IsNext c t
    → Has (pieces_ahead w) p → TurnBeforePiece t p)
DueIs w None = (w.cursors.items ≡ []) × (length w.pieces.items ≤ w.next)

-- from one walk to another some pieces are loaded
abbrev pub StandsFrom : InputBytes → Walk → Walk → Type 0
StandsFrom files start now = (texts : List Text) (given : List Turn) → WalkStands files start texts given
    → (more : List Text) × WalkStands files now (texts ++ more) given

pub record FindsDue (files : InputBytes) (old new : Walk) (found : Option ℕ) : Type 0 where
  pub pieces : new.pieces ≡ old.pieces
  pub left : AllLeft new
  pub due : DueIs new found
  pub stands : StandsFrom files old new

abbrev pub FindsOrRefuses : InputBytes → Walk → Walk → Result (Option ℕ) WalkRefused → Type 0
FindsOrRefuses files old new (Ok found) = FindsDue files old new found
FindsOrRefuses files old new (Err why) = IsWalkRefused files old why

-- the first message of the piece at that place is given
pub record GivesNext (old new : Walk) (i : ℕ) (t : Turn) : Type 0 where
  pub pieces : new.pieces ≡ old.pieces
  pub next : new.next ≡ old.next
  pub peak : new.peak ≡ old.peak
  pub loaded : loaded_in new.window ≡ loaded_in old.window
  pub last : new.last ≡ i
  pub old_cursor : Cursor
  pub cursor : Cursor
  pub at : At old.cursors.items i old_cursor
  pub cursors : new.cursors.items ≡ set old.cursors.items i cursor
  pub is : IsNext old_cursor t
  pub piece : cursor.piece ≡ old_cursor.piece
  pub heads : cursor.heads ≡ old_cursor.heads
  pub given : cursor.given ≡ old_cursor.given + 1

-- ---- what a call gives

-- all pieces have texts, and just the turns of these were given, in their order
pub record AllGiven (files : InputBytes) (pieces : List Piece) (texts : List Text) (given : List Turn) : Type 0 where
  pub texts_are : AllZip (IsTextOf files) pieces texts
  pub rise : AllPairs TurnBefore given
  pub are : (t : Turn) → Has given t → Has (turns_of texts) t
  pub all : (t : Turn) → Has (turns_of texts) t → Has given t

-- the turn is that of a message of a text which is held
pub record IsOfHeld (w : Walk) (texts : List Text) (t : Turn) : Type 0 where
  pub text : Text
  pub among : Has texts text
  pub held : HoldsText w text
  pub has : Has (turns_in text) t

-- the message that is next is given; or all pieces were loaded, and none is left
abbrev pub GivesTurn : InputBytes → Walk → List Text → List Turn → Option Turn → Type 0
GivesTurn files w texts given (Some t) = WalkStands files w texts (given ++ t ∷ []) × IsOfHeld w texts t
GivesTurn files w texts given None =
    WalkStands files w texts given × AllGiven files w.pieces.items texts given × (pieces_loaded w ≡ w.pieces.items)

-- one turn more is given, of the texts so far and of those that are loaded for it; or none is left
pub record Advances (files : InputBytes) (old new : Walk) (next : Option Turn) : Type 0 where
  pub pieces : new.pieces ≡ old.pieces
  pub stands : (texts : List Text) (given : List Turn) → WalkStands files old texts given
      → (more : List Text) × GivesTurn files new (texts ++ more) given next

abbrev pub AdvancesOrRefuses : InputBytes → Walk → Walk → Result (Option Turn) WalkRefused → Type 0
AdvancesOrRefuses files old new (Ok next) = Advances files old new next
AdvancesOrRefuses files old new (Err why) = IsWalkRefused files old why
