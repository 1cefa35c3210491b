-- A walk over whole steps.
use Rattle.std.proofs.Common.{◌≡◌, ℕ, ◌+◌, ◌-◌, ◌<◌, ◌≤◌, List, [], ◌∷◌, ◌++◌, length, map, refl, sym, ap, subst, inl, inr, ◌∙◌, append-nil, append_assoc, Option, Some, None, arith}
use Rattle.std.specs.List.{AllZip}
use Rattle.std.proofs.Math.ListN.{drop_of_length-le}
use Rattle.mcap_model.specs.Places.{At, Has}
use Rattle.mcap_model.proofs.Places.{at_none, at_one, at_within}
use Rattle.mcap_model.proofs.Lists.{has_taken}
use Rattle.mcap_model.proofs.NamedTopics.{zip_back, take_past}
use Rattle.merge_walk.specs.Parts.{IsPartLoaded}
use Rattle.merge_walk.specs.Windows.{loaded_in}
use Rattle.merge_walk.specs.declared.turns.Turn.{Turn}
use Rattle.merge_walk.specs.declared.turns.WalkRefused.{WalkRefused}
use Rattle.merge_walk.specs.declared.turns.WalkRefused.TheVariants as refusals
use Rattle.merge_walk.specs.declared.pieces.Piece.{Piece}
use Rattle.merge_walk.specs.declared.cursors.Cursor.{Cursor}
use Rattle.merge_walk.specs.declared.walk.Walk.{Walk}
use Rattle.merge_walk.specs.Pieces.{InputBytes, PiecesInOrder, IsSecond}
use Rattle.merge_walk.specs.Cursors.{turns_left, TurnBeforePiece, PieceTurnNotBehind, IsNext, IsFirst, FindsFirstCursor}
use Rattle.merge_walk.specs.Walks.{pieces_loaded, pieces_ahead, Text, piece_text, turns_of, IsTextOf, GivenOrLeft, AllLeft, IsHeldAs, WalkStands, StandsBehindSome, NextIsDue, LoadsNext, IsWalkRefused, LetsPieceGo, DueIs, StandsFrom, FindsDue, GivesNext, Advances}
use Rattle.merge_walk.proofs.Places.{dropped, undropped}
use Rattle.merge_walk.proofs.Held.{before_too}
use Rattle.merge_walk.proofs.Ordered.{before_more, next_is_one}
use Rattle.merge_walk.proofs.Queues.{all_given}
use Rattle.merge_walk.proofs.OnTurn.{pieces_follow}
use Rattle.merge_walk.proofs.Loading.{walk_loads}
use Rattle.merge_walk.proofs.Going.{walk_lets_go}
use Rattle.merge_walk.proofs.Giving.{walk_gives, given_is_held}

-- ---- which message is due

-- the next message comes before the pieces that aren't loaded
due_before : (w : Walk) (i : ℕ) (c : Cursor) (s : Turn) (next : Piece) → PiecesInOrder w.pieces.items → At w.cursors.items i c → IsNext c s → At w.pieces.items w.next next → TurnBeforePiece s next
    → (d : Cursor) (t : Turn) (p : Piece) → At w.cursors.items i d → IsNext d t → Has (pieces_ahead w) p → TurnBeforePiece t p
due_before w i c s next order at is_s at_next below d t p at_d is has =
    let same : d ≡ c = at_one w.cursors.items i d c at_d at in
    let one : s ≡ t = next_is_one c s t is_s (subst (λ (x : Cursor). IsNext x t) same is) in
    before_more t next p (subst (λ (x : Turn). TurnBeforePiece x next) one below) (pieces_follow w.pieces.items w.next next p order at_next has)

-- the pieces that aren't loaded come later
pub due_some : (w : Walk) (i : ℕ) (c : Cursor) (s : Turn) (next : Piece) → IsFirst w.cursors.items i → At w.cursors.items i c → IsNext c s → At w.pieces.items w.next next → TurnBeforePiece s next → DueIs w (Some i)
due_some w i c s next first at is at_next below = (first, λ order. due_before w i c s next order at is at_next below)

-- all are loaded
pub due_end : (w : Walk) (found : Option ℕ) → FindsFirstCursor w.cursors.items found → w.next ≡ length w.pieces.items → DueIs w found
due_end w None none over = (none, omega (arith, over))
due_end w (Some i) first over = (first, λ order c t p at is has. absurd (at_none has.0 p (subst (λ (l : List Piece). At l has.0 p) (drop_of_length-le w.pieces.items (omega (arith, over))) has.1)))

pub due_within : (w : Walk) (i : ℕ) → DueIs w (Some i) → i < length w.cursors.items
due_within w i due = let (c, t, at, next, others) = due.0 in at_within w.cursors.items i c at

-- no message comes before the next piece, as the first doesn't
pub next_is_due : (w : Walk) (i : ℕ) (c : Cursor) (s : Turn) (next : Piece) → IsFirst w.cursors.items i → At w.cursors.items i c → IsNext c s → At w.pieces.items w.next next → (TurnBeforePiece s next → ⊥) → NextIsDue w
next_is_due w i c s next first at is_s at_next stays p at_p k d at_d u is_u before =
    let (f, t, at_f, is_t, others) = first in
    let same : f ≡ c = at_one w.cursors.items i f c at_f at in
    let one : t ≡ s = next_is_one c t s (subst (λ (x : Cursor). IsNext x t) same is_t) is_s in
    let piece : p ≡ next = at_one w.pieces.items w.next p next at_p at_next in
    stays (subst (TurnBeforePiece s) piece (before_too s u p (subst (λ (x : Turn). PieceTurnNotBehind x u) one (others k d at_d u is_u)) before))

pub none_is_due : (w : Walk) → w.cursors.items ≡ [] → NextIsDue w
none_is_due w none p at_p k d at_d u is_u = absurd (at_none k d (subst (λ (l : List Cursor). At l k d) none at_d))

-- ---- steps one behind the other

pub from_itself : (files : InputBytes) (w : Walk) → StandsFrom files w w
from_itself files w texts given stands = ([], subst (λ (l : List Text). WalkStands files w l given) (sym (append-nil texts)) stands)

pub one_more_loaded : (files : InputBytes) (start old new : Walk) → StandsFrom files start old → LoadsNext files old new → AllLeft old → NextIsDue old → StandsFrom files start new
one_more_loaded files start old new was loads left due texts given stands =
    let (more, now) = was texts given stands in
    let x : Text = piece_text loads.piece loads.bytes in
    (more ++ x ∷ [], subst (λ (l : List Text). WalkStands files new l given) (append_assoc texts more (x ∷ [])) (walk_loads files old new (texts ++ more) given now loads left due))

pub stands_now : (files : InputBytes) (start now : Walk) → StandsFrom files start now → StandsBehindSome files start → StandsBehindSome files now
stands_now files start now from (texts, given, stands) = let (more, there) = from texts given stands in (texts ++ more, given, there)

pub gone_stands : (files : InputBytes) (old new : Walk) → LetsPieceGo old new → StandsBehindSome files old → StandsBehindSome files new
gone_stands files old new lets (texts, given, stands) = (texts, given, walk_lets_go files old new texts given stands lets)

-- a refusal later on is one of the start
pub refused_from : (files : InputBytes) (start now : Walk) (why : WalkRefused) → now.pieces ≡ start.pieces → start.next ≤ now.next → IsWalkRefused files now why → IsWalkRefused files start why
refused_from files start now (refusals.Changed input offset) pieces later (p, has, input_is, offset_is, cause) =
    let same : now.pieces.items ≡ start.pieces.items = ap (λ v. v.items) pieces in
    let there : At now.pieces.items (now.next + has.0) p = undropped now.pieces.items now.next (now.next + has.0) has.0 p refl has.1 in
    let at : At start.pieces.items (now.next + has.0) p = subst (λ (l : List Piece). At l (now.next + has.0) p) same there in (
      p,
      (now.next + has.0 - start.next, dropped start.pieces.items start.next (now.next + has.0) (now.next + has.0 - start.next) p (omega (arith, later)) at),
      input_is,
      offset_is,
      elim cause [
        | inl changed ↦ inl changed
        | inr second ↦ inr (subst (λ (l : List Piece). IsSecond l p) same second)
      ],
    )
refused_from files start now (refusals.Refused input why) pieces later it = tt

-- a piece that is loaded already stands in front
pub loaded_twice : (files : InputBytes) (w : Walk) (p : Piece) → StandsBehindSome files w → At w.pieces.items w.next p → IsPartLoaded (loaded_in w.window) p.input p.span.at → IsSecond w.pieces.items p
loaded_twice files w p (texts, given, stands) at (l, has, begins) =
    let (c, at_c, held) = zip_back (IsHeldAs (pieces_loaded w) texts) w.cursors.items (loaded_in w.window) has.0 l stands.held has.1 in
    let (k, in_front) = held.there in
    let (below, at_k) = has_taken w.pieces.items w.next k c.piece in_front in
    let mine = held.begins in
    (k, w.next, c.piece, below, at_k, at, (sym mine.0 ∙ begins.0, sym mine.1 ∙ begins.1))

-- ---- calls

pub advance_gives : (files : InputBytes) (old mid due new : Walk) (i : ℕ) (t : Turn) → LetsPieceGo old mid → FindsDue files mid due (Some i) → GivesNext due new i t → Advances files old new (Some t)
advance_gives files old mid due new i t lets finds gives = record {
  pieces = gives.pieces ∙ finds.pieces ∙ lets.pieces;
  stands = λ texts given stands.
      let gone = walk_lets_go files old mid texts given stands lets in
      let all = finds.stands in
      let (more, there) = all texts given gone in
      let (first, before) = finds.due in
      let early = λ (p : Piece) (has : Has (pieces_ahead due) p). before there.order gives.old_cursor t p gives.at gives.is has in
      (more, (walk_gives files due new (texts ++ more) given i t there finds.left gives first early, given_is_held files due new (texts ++ more) given i t there finds.left gives first early));
}

pub advance_ends : (files : InputBytes) (old mid new : Walk) → LetsPieceGo old mid → FindsDue files mid new None → Advances files old new None
advance_ends files old mid new lets finds = record {
  pieces = finds.pieces ∙ lets.pieces;
  stands = λ texts given stands.
      let gone = walk_lets_go files old mid texts given stands lets in
      let all = finds.stands in
      let (more, there) = all texts given gone in
      let (none, over) = finds.due in
      let nothing : GivenOrLeft (turns_of (texts ++ more)) given [] = subst (λ (l : List Cursor). GivenOrLeft (turns_of (texts ++ more)) given (map turns_left l)) none there.all in
      let whole : pieces_loaded new ≡ new.pieces.items = take_past new.next new.pieces.items over in (
        more,
        (
          there,
          record {
            texts_are = subst (λ (l : List Piece). AllZip (IsTextOf files) l (texts ++ more)) whole there.taken;
            rise = there.queues.rise;
            are = nothing.are;
            all = all_given (turns_of (texts ++ more)) given nothing;
          },
          whole,
        ),
      );
}
