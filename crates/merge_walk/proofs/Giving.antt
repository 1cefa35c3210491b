-- How a walk stands when a message is given.
use Rattle.std.proofs.Common.{◌≡◌, ℕ, suc, ◌<◌, ◌≤◌, List, [], ◌∷◌, ◌++◌, length, take, drop, map, set, refl, sym, ap, subst, inl, inr, ◌∙◌, arith}
use Rattle.std.specs.Prelude.{IsPermutation}
use Rattle.std.specs.List.{AllZip, sum_by}
use Rattle.std.proofs.lemmas.List.{map-set}
use Rattle.std.proofs.lemmas.List.Sorted.{IsPermutation-sym}
use Rattle.mcap_model.specs.Places.{At, Has, Each}
use Rattle.mcap_model.proofs.Places.{at_one, at_more, at_set, has_kept}
use Rattle.mcap_model.proofs.Flat.{at_mapped}
use Rattle.mcap_model.proofs.NamedTopics.{unmapped, zip_front, zip_back}
use Rattle.merge_walk.specs.declared.window.Loaded.{Loaded}
use Rattle.merge_walk.specs.Parts.{bytes_in, IsPartAt}
use Rattle.merge_walk.specs.Windows.{loaded_in}
use Rattle.merge_walk.specs.declared.turns.Turn.{Turn}
use Rattle.merge_walk.specs.declared.pieces.Piece.{Piece}
use Rattle.merge_walk.specs.declared.cursors.Cursor.{Cursor}
use Rattle.merge_walk.specs.declared.walk.Walk.{Walk}
use Rattle.mcap_scan.specs.Heads.{heads_in}
use Rattle.merge_walk.specs.Heads.{AreInSpan}
use Rattle.merge_walk.specs.Pieces.{InputBytes, PiecesInOrder, BeginTogether, IsInOverlap, IsMostHeld}
use Rattle.merge_walk.specs.Cursors.{turn_of, turns_left, TurnBefore, TurnBeforePiece, PieceTurnNotBehind, IsNext, IsFirst}
use Rattle.merge_walk.specs.Walks.{pieces_loaded, pieces_ahead, Text, piece_text, turns_of, IsTextOf, QueuesStand, GivenOrLeft, LeftButLast, AllLeft, IsHeldAs, PeakStands, HoldsUngiven, ReachesEnd, WalkStands, GivesNext, IsOfHeld}
use Rattle.merge_walk.proofs.Places.{undropped, drop_head}
use Rattle.merge_walk.proofs.Ordered.{which, next_is_one}
use Rattle.merge_walk.proofs.Queues.{HeadIsFirst, queues_on, all_on}
use Rattle.merge_walk.proofs.Summed.{sum_set}
use Rattle.merge_walk.proofs.OnTurn.{mapped_moved}
use Rattle.merge_walk.proofs.Zipped.{zip_set}

strictly : (t u : Turn) → PieceTurnNotBehind t u → ((t.input ≡ u.input) × (t.at ≡ u.at) → ⊥) → TurnBefore t u
strictly t u (inl less) differ = inl less
strictly t u (inr (e, inl less)) differ = inr (e, inl less)
strictly t u (inr (e, inr (f, at))) differ = inr (e, inr (f, inl (below t.at u.at at (λ same. differ (f, same)))))
  where
    below : (n m : ℕ) → n ≤ m → (n ≡ m → ⊥) → n < m
    below n m some other = omega (arith, some, other)

-- the first that is left is the next
head_next : (d : Cursor) (u : Turn) (q : List Turn) → turns_left d ≡ u ∷ q → IsNext d u
head_next d u q is =
    let (e, at, same) = unmapped (turn_of d.piece) (drop d.given d.heads.items) 0 u (subst (λ (l : List Turn). At l 0 u) (sym is) refl) in
    (e, undropped d.heads.items d.given d.given 0 e (omega arith) at, sym same)

module _ (files : InputBytes) (old new : Walk) (texts : List Text) (given : List Turn) (i : ℕ) (t : Turn) (stands : WalkStands files old texts given) (left : AllLeft old) (gives : GivesNext old new i t) (first : IsFirst old.cursors.items i)
    (early : (p : Piece) → Has (pieces_ahead old) p → TurnBeforePiece t p) where
  abbrev c : Cursor
  c = gives.old_cursor

  abbrev rest : List Turn
  rest = turns_left gives.cursor

  split : turns_left c ≡ t ∷ rest
  split =
      let e = gives.is.0 in
      let one_more = gives.given in
      let behind : suc c.given ≡ gives.cursor.given = omega (arith, one_more) in
      ap (map (turn_of c.piece)) (drop_head c.heads.items c.given e gives.is.1)
      ∙ ap (λ (x : Turn). x ∷ map (turn_of c.piece) (drop (suc c.given) c.heads.items)) (sym gives.is.2)
      ∙ ap (λ (n : ℕ). t ∷ map (turn_of c.piece) (drop n c.heads.items)) behind
      ∙ ap (λ v. t ∷ map (turn_of c.piece) (drop gives.cursor.given v.items)) (sym gives.heads)
      ∙ ap (λ (p : Piece). t ∷ map (turn_of p) (drop gives.cursor.given gives.cursor.heads.items)) (sym gives.piece)

  not_behind : (j : ℕ) (d : Cursor) (u : Turn) → At old.cursors.items j d → IsNext d u → PieceTurnNotBehind t u
  not_behind j d u at is =
      let (f, s, at_f, next, others) = first in
      let here : f ≡ c = at_one old.cursors.items i f c at_f gives.at in
      let same : s ≡ t = next_is_one c s t (subst (λ (x : Cursor). IsNext x s) here next) gives.is in
      subst (λ (x : Turn). PieceTurnNotBehind x u) same (others j d at u is)

  head : HeadIsFirst (map turns_left old.cursors.items) i t rest
  head = record {
    at = subst (λ (q : List Turn). At (map turns_left old.cursors.items) i q) split (at_mapped turns_left old.cursors.items i c gives.at);
    first = λ j u q other at.
        let (d, at_d, is) = unmapped turns_left old.cursors.items j (u ∷ q) at in
        let next = head_next d u q is in
        let mine = gives.is in
        strictly t u (not_behind j d u at_d next) (λ same.
        stands.apart i j c d (λ e. other (sym e)) gives.at at_d
        (sym (ap (λ (x : Turn). x.input) mine.2) ∙ same.0 ∙ ap (λ (x : Turn). x.input) next.2, sym (ap (λ (x : Turn). x.at) mine.2) ∙ same.1 ∙ ap (λ (x : Turn). x.at) next.2));
  }

  pieces_are : new.pieces.items ≡ old.pieces.items
  pieces_are = ap (λ v. v.items) gives.pieces

  maps_set : map turns_left new.cursors.items ≡ set (map turns_left old.cursors.items) i rest
  maps_set = ap (map turns_left) gives.cursors ∙ map-set turns_left old.cursors.items i gives.cursor

  was_piece : (j : ℕ) (d : Cursor) → At new.cursors.items j d → (e : Cursor) × At old.cursors.items j e × (d.piece ≡ e.piece)
  was_piece j d at = elim (at_set old.cursors.items i j d gives.cursor (subst (λ (l : List Cursor). At l j d) gives.cursors at)) [
    | inl here ↦ (c, subst (λ (n : ℕ). At old.cursors.items n c) (sym here.0) gives.at, ap (λ (x : Cursor). x.piece) here.1 ∙ gives.piece)
    | inr other ↦ (d, other.1, refl)
  ]

  loaded_are : pieces_loaded new ≡ pieces_loaded old
  loaded_are = ap (take new.next) pieces_are ∙ ap (λ (n : ℕ). take n old.pieces.items) gives.next

  held_as : (l : Loaded) → IsHeldAs (pieces_loaded old) texts c l → IsHeldAs (pieces_loaded old) texts gives.cursor l
  held_as l held =
      let is = gives.piece in
      let heads : gives.cursor.heads.items ≡ c.heads.items = ap (λ v. v.items) gives.heads in
      record {
        begins = subst (λ (p : Piece). IsPartAt p.input p.span.at l) (sym is) held.begins;
        size = held.size ∙ sym (ap (λ (p : Piece). p.span.length) is);
        same = subst (IsPermutation (heads_in l.bytes)) (sym heads) held.same;
        within = subst (λ (p : Piece). AreInSpan p.span gives.cursor.heads.items) (sym is) (subst (AreInSpan c.piece.span) (sym heads) held.within);
        there = subst (Has (pieces_loaded old)) (sym is) held.there;
        text = subst (λ (p : Piece). Has texts (piece_text p l.bytes)) (sym is) held.text;
      }

  given_left : LeftButLast new
  given_left k d at other = elim (at_set old.cursors.items i k d gives.cursor (subst (λ (l : List Cursor). At l k d) gives.cursors at)) [
    | inl here ↦ absurd (other (here.0 ∙ sym gives.last))
    | inr there ↦ left k d there.1
  ]

  held_still : AllZip (IsHeldAs (pieces_loaded new) texts) new.cursors.items (loaded_in new.window)
  held_still =
      subst (λ (ps : List Piece). AllZip (IsHeldAs ps texts) new.cursors.items (loaded_in new.window)) (sym loaded_are)
      (subst (λ (cs : List Cursor). AllZip (IsHeldAs (pieces_loaded old) texts) cs (loaded_in new.window)) (sym gives.cursors)
      (subst (AllZip (IsHeldAs (pieces_loaded old) texts) (set old.cursors.items i gives.cursor)) (sym gives.loaded)
      (zip_set (IsHeldAs (pieces_loaded old) texts) old.cursors.items (loaded_in old.window) i c gives.cursor gives.at held_as stands.held)))

  few_still : (f : Piece → ℕ) → sum_by (λ (d : Cursor). f d.piece) new.cursors.items ≤ sum_by f (pieces_loaded new)
  few_still f =
      let was = stands.few f in
      let one = ap (sum_by (λ (d : Cursor). f d.piece)) gives.cursors in
      let other = sum_set (λ (d : Cursor). f d.piece) old.cursors.items i c gives.cursor gives.at (ap f gives.piece) in
      let all = ap (sum_by f) loaded_are in
      omega (arith, was, one, other, all)

  many_still : HoldsUngiven new texts (given ++ t ∷ [])
  many_still f over =
      let was = stands.many f (λ n x at all. over n x at (λ u has. has_kept given (t ∷ []) u (all u has))) in
      let one = ap (sum_by (λ (d : Cursor). f d.piece)) gives.cursors in
      let other = sum_set (λ (d : Cursor). f d.piece) old.cursors.items i c gives.cursor gives.at (ap f gives.piece) in
      let all = ap (sum_by f) loaded_are in
      omega (arith, was, one, other, all)

  most_still : Each (ReachesEnd files) new.pieces.items → IsMostHeld new.pieces.items new.next new.peak
  most_still reach =
      subst (λ (l : List Piece). IsMostHeld l new.next new.peak) (sym pieces_are)
      (subst (λ (n : ℕ). IsMostHeld old.pieces.items n new.peak) (sym gives.next)
      (subst (IsMostHeld old.pieces.items old.next) (sym gives.peak) (stands.most (subst (Each (ReachesEnd files)) pieces_are reach))))

  peak_still : PeakStands new
  peak_still =
      let was = stands.peak in
      let is = gives.peak in
      record {
        each = λ n p at. (let fits = was.each n p (subst (λ (l : List Piece). At l n p) loaded_are at) in omega (arith, fits, is));
        now = (let fits = was.now in let same = ap bytes_in gives.loaded in omega (arith, fits, same, is));
        overlap = subst (IsInOverlap new.pieces.items) (sym is) (subst (λ (l : List Piece). IsInOverlap l old.peak) (sym pieces_are) was.overlap);
      }

  pub walk_gives : WalkStands files new texts (given ++ t ∷ [])
  walk_gives =
      let next = gives.next in
      record {
        next = (let within = stands.next in omega (arith, next, within, ap length pieces_are));
        taken = subst (λ (l : List Piece). AllZip (IsTextOf files) l texts) (sym loaded_are) stands.taken;
        order = subst PiecesInOrder (sym pieces_are) stands.order;
        queues = subst (QueuesStand (given ++ t ∷ [])) (sym maps_set) (queues_on given (map turns_left old.cursors.items) i t rest stands.queues head);
        all = subst (GivenOrLeft (turns_of texts) (given ++ t ∷ [])) (sym maps_set) (all_on given (map turns_left old.cursors.items) i t rest (turns_of texts) stands.all head);
        apart = λ j k d e other at_d at_e.
            let (x, at_x, is_x) = was_piece j d at_d in
            let (y, at_y, is_y) = was_piece k e at_e in
            λ same. stands.apart j k x y other at_x at_y
            (sym (ap (λ (p : Piece). p.input) is_x) ∙ same.0 ∙ ap (λ (p : Piece). p.input) is_y, sym (ap (λ (p : Piece). p.span.at) is_x) ∙ same.1 ∙ ap (λ (p : Piece). p.span.at) is_y);
        early = λ g p has_g has_p.
            let there : Has (pieces_ahead old) p = (has_p.0, subst (λ (l : List Piece). At l has_p.0 p) (ap (drop new.next) pieces_are ∙ ap (λ (n : ℕ). drop n old.pieces.items) next) has_p.1) in
            elim (at_more given t has_g.0 g has_g.1) [
              | inl before ↦ stands.early g p (has_g.0, before) there
              | inr last ↦ subst (λ (x : Turn). TurnBeforePiece x p) (sym last.1) (early p there)
            ];
        left = given_left;
        held = held_still;
        few = few_still;
        many = many_still;
        peak = peak_still;
        most = most_still;
      }

  -- ---- its message is held

  pub given_is_held : IsOfHeld new texts t
  given_is_held =
      let (l, at_l, held) = zip_front (IsHeldAs (pieces_loaded old) texts) old.cursors.items (loaded_in old.window) i c stands.held gives.at in
      let begins = held.begins in
      let e = gives.is.0 in
      let there : Has (map (turn_of c.piece) c.heads.items) t = (c.given, subst (At (map (turn_of c.piece) c.heads.items) c.given) (sym gives.is.2) (at_mapped (turn_of c.piece) c.heads.items c.given e gives.is.1)) in
      record {
        text = piece_text c.piece l.bytes;
        among = held.text;
        held = (
          (l, (i, subst (λ (m : List Loaded). At m i l) (sym gives.loaded) at_l), begins),
          λ n m at_m other.
              let at_n : At (loaded_in old.window) n m = subst (λ (ls : List Loaded). At ls n m) gives.loaded at_m in
              let (d, at_d, held_d) = zip_back (IsHeldAs (pieces_loaded old) texts) old.cursors.items (loaded_in old.window) n m stands.held at_n in
              let theirs = held_d.begins in
              let together : BeginTogether c.piece d.piece = (sym other.0 ∙ theirs.0, sym other.1 ∙ theirs.1) in
              elim (which i n) [
                | inl less ↦ absurd (stands.apart i n c d (λ e. omega (arith, e, less)) gives.at at_d together)
                | inr (inl same) ↦ ap (λ (x : Loaded). x.bytes) (at_one (loaded_in old.window) n m l at_n (subst (λ (k : ℕ). At (loaded_in old.window) k l) same at_l))
                | inr (inr more) ↦ absurd (stands.apart i n c d (λ e. omega (arith, e, more)) gives.at at_d together)
              ],
        );
        has = mapped_moved c.piece c.heads.items (heads_in l.bytes) t (IsPermutation-sym (heads_in l.bytes) c.heads.items held.same) there;
      }
