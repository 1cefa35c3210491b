-- How a walk stands when a piece is loaded.
use Rattle.std.proofs.Common.{◌≡◌, ◌⊎◌, ℕ, suc, ◌+◌, ◌-◌, ◌≤◌, List, [], ◌∷◌, ◌++◌, length, take, drop, map, refl, sym, ap, subst, inl, inr, ◌∙◌, append-nil, arith}
use Rattle.std.specs.Prelude.{AllPairs}
use Rattle.std.specs.List.{AllZip, sum_by}
use Rattle.std.proofs.lemmas.Grind.{flat_map-append}
use Rattle.std.proofs.lemmas.List.{map-append}
use Rattle.std.proofs.lemmas.List.Sorted.{IsPermutation-sym, length_permutation}
use Rattle.std.proofs.lemmas.List.Sums.{sum_by-take-le, sum_by_push}
use Rattle.std.proofs.Math.Nat.{max-eq_left, max-eq_right, le-max_left, le-max_right}
use Rattle.mcap_model.specs.Places.{At, Has, Each}
use Rattle.mcap_model.proofs.Places.{at_none, at_one, at_within, at_kept, at_more, has_kept, has_last}
use Rattle.mcap_model.proofs.Flat.{at_mapped}
use Rattle.mcap_model.proofs.Lists.{pairs_from, has_taken}
use Rattle.mcap_model.proofs.NamedTopics.{unmapped, zip_front, zip_back}
use Rattle.mcap_model.proofs.OneMore.{taken_more, zip_push}
use Rattle.merge_walk.specs.declared.window.Loaded.{Loaded}
use Rattle.merge_walk.specs.Parts.{loaded_part, bytes_in}
use Rattle.merge_walk.specs.Windows.{loaded_in}
use Rattle.merge_walk.specs.declared.turns.Turn.{Turn}
use Rattle.mcap_scan.specs.declared.message_heads.MessageHead.{MessageHead}
use Rattle.merge_walk.specs.declared.pieces.Piece.{Piece}
use Rattle.merge_walk.specs.declared.cursors.Cursor.{Cursor}
use Rattle.merge_walk.specs.declared.walk.Walk.{Walk}
use Rattle.mcap_scan.specs.Heads.{heads_in}
use Rattle.merge_walk.specs.Heads.{AreInSpan}
use Rattle.merge_walk.specs.Pieces.{InputBytes, PiecesInOrder, BeginTogether, overlap_at, IsInOverlap, bytes_left, held_with, IsMostHeld}
use Rattle.merge_walk.specs.Cursors.{turn_of, turns_left, TurnBefore, HasLeft, IsFreshCursor}
use Rattle.merge_walk.specs.Walks.{pieces_loaded, pieces_ahead, Text, piece_text, turns_in, turns_of, IsTextOf, QueuesStand, GivenOrLeft, Apart, AllLeft, IsHeldAs, PeakStands, WasGiven, HoldsUngiven, ReachesEnd, WalkStands, NextIsDue, LoadsNext}
use Rattle.merge_walk.proofs.Places.{dropped, undropped}
use Rattle.merge_walk.proofs.Held.{EndsBefore, none_left, all_left, ends_with_turn, turn_ends}
use Rattle.merge_walk.proofs.Ordered.{which, before_each, before_else, at_some}
use Rattle.merge_walk.proofs.Queues.{queues_more, all_more}
use Rattle.merge_walk.proofs.Summed.{sums_same, sums_zipped, share_at, share_within}
use Rattle.merge_walk.proofs.OnTurn.{turns_rise, fresh_left, moved, mapped_moved, pieces_above}
use Rattle.merge_walk.proofs.Zipped.{zip_to}

-- ---- nothing was given

pub walk_begins : (files : InputBytes) (w : Walk) → PiecesInOrder w.pieces.items → w.next ≡ 0 → w.cursors.items ≡ [] → loaded_in w.window ≡ [] → w.peak ≡ 0 → WalkStands files w [] []
walk_begins files w order first none empty peak =
    let nothing_loaded : pieces_loaded w ≡ [] = ap (λ (n : ℕ). take n w.pieces.items) first in
    record {
      next = omega (arith, first);
      taken = subst (λ (l : List Piece). AllZip (IsTextOf files) l []) (sym nothing_loaded) tt;
      order = order;
      queues = subst (λ (l : List Cursor). QueuesStand [] (map turns_left l)) (sym none) (record {
        rise = pairs_from TurnBefore [] (λ i j x y less at other. absurd (at_none i x at));
        each = λ n q at. absurd (at_none n q at);
        past = λ g u q has_g has_q has_u. absurd (at_none has_g.0 g has_g.1);
      });
      all = subst (λ (l : List Cursor). GivenOrLeft [] [] (map turns_left l)) (sym none) (record {
        are = λ g has. absurd (at_none has.0 g has.1);
        left = λ q u has_q has_u. absurd (at_none has_q.0 q has_q.1);
        all = λ u has. absurd (at_none has.0 u has.1);
      });
      apart = λ i j c d other at_c at_d. absurd (at_none i c (subst (λ (l : List Cursor). At l i c) none at_c));
      early = λ g p has. absurd (at_none has.0 g has.1);
      left = λ k c at other. absurd (at_none k c (subst (λ (l : List Cursor). At l k c) none at));
      held = subst (λ (l : List Cursor). AllZip (IsHeldAs (pieces_loaded w) []) l (loaded_in w.window)) (sym none) (subst (AllZip (IsHeldAs (pieces_loaded w) []) []) (sym empty) tt);
      few = λ f. subst (λ (l : List Cursor). sum_by (λ (c : Cursor). f c.piece) l ≤ sum_by f (pieces_loaded w)) (sym none) (omega arith);
      many = λ f over. subst (λ (l : List Piece). sum_by f l ≤ sum_by (λ (c : Cursor). f c.piece) w.cursors.items) (sym nothing_loaded) (omega arith);
      most = λ reach. record { each = λ k p below at. absurd (omega (arith, below, first)); one = inl peak };
      peak = record {
        each = λ n p at. absurd (at_none n p (subst (λ (l : List Piece). At l n p) nothing_loaded at));
        now = subst (λ (l : List Loaded). bytes_in l ≤ w.peak) (sym empty) (omega arith);
        overlap = inl peak;
      };
    }

-- ---- a piece more

fresh_some : (p : Piece) (bytes : List ℕ) (c : Cursor) → IsFreshCursor p bytes c → heads_in bytes ≡ [] → ⊥
fresh_some p bytes c fresh none =
    let (e, at) = at_some c.heads.items 0 fresh.some in
    let there = moved c.heads.items (heads_in bytes) e (IsPermutation-sym (heads_in bytes) c.heads.items fresh.same) (0, at) in
    at_none there.0 e (subst (λ (l : List MessageHead). At l there.0 e) none there.1)

pub left_more : (files : InputBytes) (old new : Walk) → AllLeft old → LoadsNext files old new → AllLeft new
left_more files old new left loads n c at = elim (at_more old.cursors.items loads.cursor n c (subst (λ (l : List Cursor). At l n c) loads.cursors at)) [
  | inl before ↦ left n c before
  | inr last ↦
      let fresh = loads.fresh in
      let some = fresh.some in
      let none = fresh.given in
      subst HasLeft (sym last.1) (omega (arith, some, none))
]

module _ (files : InputBytes) (old new : Walk) (texts : List Text) (given : List Turn) (stands : WalkStands files old texts given) (loads : LoadsNext files old new) (left : AllLeft old) (due : NextIsDue old) where
  abbrev piece : Piece
  piece = loads.piece

  abbrev text : Text
  text = piece_text loads.piece loads.bytes

  pieces : new.pieces.items ≡ old.pieces.items
  pieces = ap (λ v. v.items) loads.pieces

  loaded_is : pieces_loaded new ≡ pieces_loaded old ++ piece ∷ []
  loaded_is = ap (take new.next) pieces ∙ ap (λ (n : ℕ). take n old.pieces.items) loads.next ∙ taken_more old.pieces.items old.next loads.piece loads.at

  left_is : turns_left loads.cursor ≡ map (turn_of loads.piece) loads.cursor.heads.items
  left_is = fresh_left loads.piece loads.bytes loads.cursor loads.fresh

  behind : (g u : Turn) → Has given g → Has (turns_left loads.cursor) u → TurnBefore g u
  behind g u has_g has_u =
      let (e, at, is) = unmapped (turn_of loads.piece) loads.cursor.heads.items has_u.0 u (subst (λ (l : List Turn). At l has_u.0 u) left_is has_u.1) in
      let within = loads.fresh.within has_u.0 e at in
      let early = stands.early g loads.piece has_g (0, dropped old.pieces.items old.next old.next 0 loads.piece (omega arith) loads.at) in
      let time : u.log_time ≡ e.time = sym (ap (λ (x : Turn). x.log_time) is) in
      before_each g u loads.piece early (let low = within.0 in omega (arith, low, time)) (sym (ap (λ (x : Turn). x.input) is)) (sym (ap (λ (x : Turn). x.at) is))

  maps : map turns_left new.cursors.items ≡ map turns_left old.cursors.items ++ turns_left loads.cursor ∷ []
  maps = ap (map turns_left) loads.cursors ∙ map-append turns_left old.cursors.items (loads.cursor ∷ [])

  joined : turns_of (texts ++ text ∷ []) ≡ turns_of texts ++ turns_in text
  joined = flat_map-append turns_in texts (text ∷ []) ∙ ap (λ (l : List Turn). turns_of texts ++ l) (append-nil (turns_in text))

  later : (p : Piece) → Has (pieces_ahead new) p → Has (pieces_ahead old) p
  later p has =
      let there : At (drop new.next old.pieces.items) has.0 p = subst (λ (l : List Piece). At (drop new.next l) has.0 p) pieces has.1 in
      let at : At old.pieces.items (new.next + has.0) p = undropped old.pieces.items new.next (new.next + has.0) has.0 p refl there in
      let next = loads.next in
      (suc has.0, dropped old.pieces.items old.next (new.next + has.0) (suc has.0) p (omega (arith, next)) at)

  -- no other piece that is loaded begins there
  apart_from : (i : ℕ) (c : Cursor) → At old.cursors.items i c → BeginTogether c.piece piece → ⊥
  apart_from i c at same =
      let (l, at_l, held) = zip_front (IsHeldAs (pieces_loaded old) texts) old.cursors.items (loaded_in old.window) i c stands.held at in
      let begins = held.begins in
      loads.unloaded (l, (i, at_l), (begins.0 ∙ same.0, begins.1 ∙ same.1))

  differ : (i j : ℕ) (c d : Cursor) → (i ≡ j → ⊥) → At new.cursors.items i c → At new.cursors.items j d → Apart c d
  differ i j c d other at_c at_d = both
      (at_more old.cursors.items loads.cursor i c (subst (λ (l : List Cursor). At l i c) loads.cursors at_c))
      (at_more old.cursors.items loads.cursor j d (subst (λ (l : List Cursor). At l j d) loads.cursors at_d))
    where
      is_new : (e : Cursor) → e ≡ loads.cursor → e.piece ≡ loads.piece
      is_new e same = ap (λ (x : Cursor). x.piece) same ∙ loads.fresh.piece

      both : At old.cursors.items i c ⊎ ((i ≡ length old.cursors.items) × (c ≡ loads.cursor)) → At old.cursors.items j d ⊎ ((j ≡ length old.cursors.items) × (d ≡ loads.cursor)) → Apart c d
      both (inl one) (inl two) = stands.apart i j c d other one two
      both (inl one) (inr two) = λ (same : BeginTogether c.piece d.piece).
          let is = is_new d two.1 in
          apart_from i c one (same.0 ∙ ap (λ (p : Piece). p.input) is, same.1 ∙ ap (λ (p : Piece). p.span.at) is)
      both (inr one) (inl two) = λ (same : BeginTogether c.piece d.piece).
          let is = is_new c one.1 in
          apart_from j d two (sym same.0 ∙ ap (λ (p : Piece). p.input) is, sym same.1 ∙ ap (λ (p : Piece). p.span.at) is)
      both (inr one) (inr two) = absurd (other (one.0 ∙ sym two.0))

  -- ---- what is held

  abbrev part : Loaded
  part = loaded_part loads.piece.input loads.piece.span.at loads.bytes

  still_held : (c : Cursor) (l : Loaded) → IsHeldAs (pieces_loaded old) texts c l → IsHeldAs (pieces_loaded new) (texts ++ text ∷ []) c l
  still_held c l held = record {
    begins = held.begins;
    size = held.size;
    same = held.same;
    within = held.within;
    there = subst (λ (ps : List Piece). Has ps c.piece) (sym loaded_is) (has_kept (pieces_loaded old) (piece ∷ []) c.piece held.there);
    text = has_kept texts (text ∷ []) (piece_text c.piece l.bytes) held.text;
  }

  held_new : IsHeldAs (pieces_loaded new) (texts ++ text ∷ []) loads.cursor part
  held_new =
      let is = loads.fresh.piece in
      record {
        begins = (sym (ap (λ (p : Piece). p.input) is), sym (ap (λ (p : Piece). p.span.at) is));
        size = loads.are.size ∙ sym (ap (λ (p : Piece). p.span.length) is);
        same = loads.fresh.same;
        within = subst (λ (p : Piece). AreInSpan p.span loads.cursor.heads.items) (sym is) loads.fresh.within;
        there = subst (λ (p : Piece). Has (pieces_loaded new) p) (sym is) (subst (λ (ps : List Piece). Has ps piece) (sym loaded_is) (has_last (pieces_loaded old) piece []));
        text = subst (λ (p : Piece). Has (texts ++ text ∷ []) (piece_text p loads.bytes)) (sym is) (has_last texts text []);
      }

  held_all : AllZip (IsHeldAs (pieces_loaded new) (texts ++ text ∷ [])) new.cursors.items (loaded_in new.window)
  held_all =
      subst (λ (cs : List Cursor). AllZip (IsHeldAs (pieces_loaded new) (texts ++ text ∷ [])) cs (loaded_in new.window)) (sym loads.cursors)
      (subst (AllZip (IsHeldAs (pieces_loaded new) (texts ++ text ∷ [])) (old.cursors.items ++ loads.cursor ∷ [])) (sym loads.loaded)
      (zip_push (IsHeldAs (pieces_loaded new) (texts ++ text ∷ [])) old.cursors.items (loaded_in old.window) loads.cursor part
      (zip_to (IsHeldAs (pieces_loaded old) texts) (IsHeldAs (pieces_loaded new) (texts ++ text ∷ [])) still_held old.cursors.items (loaded_in old.window) stands.held)
      held_new))

  few_new : (f : Piece → ℕ) → sum_by (λ (c : Cursor). f c.piece) new.cursors.items ≤ sum_by f (pieces_loaded new)
  few_new f =
      let was = stands.few f in
      let same : f loads.cursor.piece ≡ f piece = ap f loads.fresh.piece in
      let one : sum_by (λ (c : Cursor). f c.piece) new.cursors.items ≡ sum_by (λ (c : Cursor). f c.piece) old.cursors.items + f loads.cursor.piece =
      ap (sum_by (λ (c : Cursor). f c.piece)) loads.cursors ∙ sum_by_push (λ (c : Cursor). f c.piece) old.cursors.items loads.cursor in
      let other : sum_by f (pieces_loaded new) ≡ sum_by f (pieces_loaded old) + f piece = ap (sum_by f) loaded_is ∙ sum_by_push f (pieces_loaded old) piece in
      omega (arith, was, same, one, other)

  -- ---- the peak

  abbrev held_bytes : ℕ
  held_bytes = bytes_in (loaded_in new.window)

  -- each piece that is loaded holds the least time of this one
  over_old : (i : ℕ) (c : Cursor) → At old.cursors.items i c → (c.piece.span.least ≤ piece.span.least) × (piece.span.least ≤ c.piece.span.greatest)
  over_old i c at =
      let (l, at_l, held) = zip_front (IsHeldAs (pieces_loaded old) texts) old.cursors.items (loaded_in old.window) i c stands.held at in
      let (k, in_front) = held.there in
      let (below, at_k) = has_taken old.pieces.items old.next k c.piece in_front in
      let low = pieces_above old.pieces.items k c.piece piece stands.order at_k (old.next - k, dropped old.pieces.items k old.next (old.next - k) piece (omega (arith, below)) loads.at) in
      let (e, at_e) = at_some c.heads.items c.given (left i c at) in
      let first = before_else (turn_of c.piece e) piece (due piece loads.at i c at (turn_of c.piece e) (e, at_e, refl)) in
      let last = (held.within c.given e at_e).1 in
      (low, omega (arith, first, last))

  over_new : (loads.cursor.piece.span.least ≤ piece.span.least) × (piece.span.least ≤ loads.cursor.piece.span.greatest)
  over_new =
      let (e, at_e) = at_some loads.cursor.heads.items 0 loads.fresh.some in
      let within = loads.fresh.within 0 e at_e in
      let one = within.0 in
      let other = within.1 in
      let is = loads.fresh.piece in
      let least : loads.cursor.piece.span.least ≡ piece.span.least = ap (λ (p : Piece). p.span.least) is in
      let greatest : loads.cursor.piece.span.greatest ≡ piece.span.greatest = ap (λ (p : Piece). p.span.greatest) is in
      (omega (arith, least), omega (arith, greatest, one, other))

  over : (i : ℕ) (c : Cursor) → At new.cursors.items i c → c.piece.span.length ≡ share_at piece.span.least c.piece
  over i c at = elim (at_more old.cursors.items loads.cursor i c (subst (λ (l : List Cursor). At l i c) loads.cursors at)) [
    | inl before ↦ let both = over_old i c before in sym (share_within piece.span.least c.piece both.0 both.1)
    | inr last ↦ subst (λ (d : Cursor). d.piece.span.length ≡ share_at piece.span.least d.piece) (sym last.1) (sym (share_within piece.span.least loads.cursor.piece over_new.0 over_new.1))
  ]

  overlaps : held_bytes ≤ overlap_at piece.span.least new.pieces.items
  overlaps =
      let sizes : held_bytes ≡ sum_by (λ (c : Cursor). c.piece.span.length) new.cursors.items =
      sums_zipped (IsHeldAs (pieces_loaded new) (texts ++ text ∷ [])) (λ (c : Cursor). c.piece.span.length) (λ (l : Loaded). length l.bytes) new.cursors.items (loaded_in new.window) (λ c l held. held.size) held_all in
      let shares = sums_same (λ (c : Cursor). c.piece.span.length) (λ (c : Cursor). share_at piece.span.least c.piece) new.cursors.items over in
      let few = few_new (share_at piece.span.least) in
      let all = sum_by-take-le (share_at piece.span.least) new.pieces.items new.next in
      omega (arith, sizes, shares, few, all)

  -- none of those that are held ends before this one
  stays_old : (i : ℕ) (c : Cursor) → At old.cursors.items i c → EndsBefore c.piece piece → ⊥
  stays_old i c at ends =
      let (l, at_l, held) = zip_front (IsHeldAs (pieces_loaded old) texts) old.cursors.items (loaded_in old.window) i c stands.held at in
      let (e, at_e) = at_some c.heads.items c.given (left i c at) in
      due piece loads.at i c at (turn_of c.piece e) (e, at_e, refl) (ends_with_turn piece c.piece (turn_of c.piece e) ends (held.within c.given e at_e).1 refl refl)

  stays_new : EndsBefore loads.cursor.piece piece → ⊥
  stays_new ends = by (subst (λ (q : Piece). EndsBefore q piece) loads.fresh.piece ends)
    where
      spans : piece.span.least ≤ piece.span.greatest
      spans = subst (λ (q : Piece). piece.span.least ≤ q.span.greatest) loads.fresh.piece over_new.1

      by : EndsBefore piece piece → ⊥
      by (inl less) = omega (arith, less, spans)
      by (inr (time, inl less)) = omega (arith, less)
      by (inr (time, inr less)) = let at = less.1 in omega (arith, at)

  all_held : (i : ℕ) (c : Cursor) → At new.cursors.items i c → c.piece.span.length ≡ bytes_left piece c.piece
  all_held i c at = sym (all_left piece c.piece (elim (at_more old.cursors.items loads.cursor i c (subst (λ (l : List Cursor). At l i c) loads.cursors at)) [
    | inl before ↦ stays_old i c before
    | inr last ↦ subst (λ (d : Cursor). EndsBefore d.piece piece → ⊥) (sym last.1) stays_new
  ]))

  many_new : HoldsUngiven new (texts ++ text ∷ []) given
  many_new f over =
      let was = stands.many f (λ n x at. over n x (at_kept texts (text ∷ []) n x at)) in
      let same : f loads.cursor.piece ≡ f piece = ap f loads.fresh.piece in
      let one : sum_by (λ (c : Cursor). f c.piece) new.cursors.items ≡ sum_by (λ (c : Cursor). f c.piece) old.cursors.items + f loads.cursor.piece =
      ap (sum_by (λ (c : Cursor). f c.piece)) loads.cursors ∙ sum_by_push (λ (c : Cursor). f c.piece) old.cursors.items loads.cursor in
      let other : sum_by f (pieces_loaded new) ≡ sum_by f (pieces_loaded old) + f piece = ap (sum_by f) loaded_is ∙ sum_by_push f (pieces_loaded old) piece in
      omega (arith, was, same, one, other)

  taken_new : AllZip (IsTextOf files) (pieces_loaded new) (texts ++ text ∷ [])
  taken_new =
      let fresh = loads.fresh in
      subst (λ (l : List Piece). AllZip (IsTextOf files) l (texts ++ text ∷ [])) (sym loaded_is)
      (zip_push (IsTextOf files) (pieces_loaded old) texts loads.piece text stands.taken (record {
        piece = refl;
        bytes = loads.are;
        fits = record {
          many = (let size = length_permutation (heads_in loads.bytes) loads.cursor.heads.items fresh.same in let many = fresh.many in omega (arith, size, many));
          some = fresh_some loads.piece loads.bytes loads.cursor fresh;
          within = λ n e at. let there = moved (heads_in loads.bytes) loads.cursor.heads.items e fresh.same (n, at) in fresh.within there.0 e there.1;
        };
      }))

  -- a text that was given whole ended before this one, where its last message stands there
  given_over : Each (ReachesEnd files) old.pieces.items → Each (λ x. WasGiven given x → bytes_left piece x.piece ≡ 0) (texts ++ text ∷ [])
  given_over reach n x at all =
      let (p, at_p, is) = zip_back (IsTextOf files) (pieces_loaded new) (texts ++ text ∷ []) n x taken_new at in
      let (below, there) = has_taken new.pieces.items new.next n p at_p in
      let ends = reach n p (subst (λ (l : List Piece). At l n p) pieces there) x.bytes is.bytes in
      let (e, at_e, time) = unmapped (λ (h : MessageHead). h.time) (heads_in x.bytes) ends.0 p.span.greatest ends.1 in
      let g = all (turn_of x.piece e) (ends.0, at_mapped (turn_of x.piece) (heads_in x.bytes) ends.0 e at_e) in
      let early = stands.early (turn_of x.piece e) loads.piece g (0, dropped old.pieces.items old.next old.next 0 loads.piece (omega arith) loads.at) in
      none_left piece x.piece (turn_ends piece x.piece (turn_of x.piece e) early (time ∙ sym (ap (λ (q : Piece). q.span.greatest) is.piece)) refl refl)

  -- what is held is what is left
  held_is : Each (ReachesEnd files) old.pieces.items → held_bytes ≡ held_with old.pieces.items old.next piece
  held_is reach =
      let sizes : held_bytes ≡ sum_by (λ (c : Cursor). c.piece.span.length) new.cursors.items =
      sums_zipped (IsHeldAs (pieces_loaded new) (texts ++ text ∷ [])) (λ (c : Cursor). c.piece.span.length) (λ (l : Loaded). length l.bytes) new.cursors.items (loaded_in new.window) (λ c l held. held.size) held_all in
      let shares = sums_same (λ (c : Cursor). c.piece.span.length) (λ (c : Cursor). bytes_left piece c.piece) new.cursors.items all_held in
      let few = few_new (bytes_left piece) in
      let many = many_new (bytes_left piece) (given_over reach) in
      let same : sum_by (bytes_left piece) (pieces_loaded new) ≡ held_with old.pieces.items old.next piece =
      ap (λ (l : List Piece). sum_by (bytes_left piece) (take new.next l)) pieces ∙ ap (λ (n : ℕ). sum_by (bytes_left piece) (take n old.pieces.items)) loads.next in
      omega (arith, sizes, shares, few, many, same)

  most_new : Each (ReachesEnd files) new.pieces.items → IsMostHeld new.pieces.items new.next new.peak
  most_new reach =
      let reach_old = subst (Each (ReachesEnd files)) pieces reach in
      let was = stands.most reach_old in
      let now = held_is reach_old in
      let is = loads.peak in
      let next = loads.next in
      let one = le-max_left old.peak held_bytes in
      let other = le-max_right old.peak held_bytes in
      subst (λ (l : List Piece). IsMostHeld l new.next new.peak) (sym pieces) (record {
        each = λ k p below at. elim (which k old.next) [
          | inl less ↦ let fits = was.each k p less at in omega (arith, fits, is, one)
          | inr (inl same) ↦
              let here : p ≡ piece = at_one old.pieces.items old.next p piece (subst (λ (n : ℕ). At old.pieces.items n p) same at) loads.at in
              let all : held_with old.pieces.items k p ≡ held_bytes = ap (λ (n : ℕ). held_with old.pieces.items n p) same ∙ ap (held_with old.pieces.items old.next) here ∙ sym now in
              omega (arith, all, is, other)
          | inr (inr more) ↦ absurd (omega (arith, more, below, next))
        ];
        one = elim (which old.peak held_bytes) [
          | inl less ↦ inr (old.next, piece, omega (arith, next), loads.at, is ∙ max-eq_right {n = old.peak} {m = held_bytes} (omega (arith, less)) ∙ now)
          | inr more ↦
              let above : held_bytes ≤ old.peak = (elim more [ inl same ↦ omega (arith, same) | inr less ↦ omega (arith, less) ]) in
              let same : new.peak ≡ old.peak = is ∙ max-eq_left {n = old.peak} {m = held_bytes} above in
              elim was.one [
                | inl none ↦ inl (same ∙ none)
                | inr (k, p, below, at, there) ↦ inr (k, p, omega (arith, below, next), at, same ∙ there)
              ]
        ];
      })

  peak_new : PeakStands new
  peak_new =
      let was = stands.peak in
      let is = loads.peak in
      let one = le-max_left old.peak held_bytes in
      let other = le-max_right old.peak held_bytes in
      record {
        each = λ n p at. elim (at_more (pieces_loaded old) piece n p (subst (λ (l : List Piece). At l n p) loaded_is at)) [
          | inl before ↦ let fits = was.each n p before in omega (arith, fits, is, one)
          | inr last ↦
              let size : p.span.length ≡ piece.span.length = ap (λ (q : Piece). q.span.length) last.1 in
              let all : held_bytes ≡ bytes_in (loaded_in old.window) + length loads.bytes = ap bytes_in loads.loaded ∙ sum_by_push (λ (l : Loaded). length l.bytes) (loaded_in old.window) part in
              let bytes = loads.are.size in
              omega (arith, size, all, bytes, is, other)
        ];
        now = omega (arith, is, other);
        overlap = elim (which old.peak held_bytes) [
          | inl less ↦ inr (piece, (old.next, subst (λ (l : List Piece). At l old.next piece) (sym pieces) loads.at), (let same = max-eq_right {n = old.peak} {m = held_bytes} (omega (arith, less)) in let fits = overlaps in omega (arith, is, same, fits)))
          | inr more ↦
              let above : held_bytes ≤ old.peak = (elim more [ inl same ↦ omega (arith, same) | inr less ↦ omega (arith, less) ]) in
              let same : new.peak ≡ old.peak = is ∙ max-eq_left {n = old.peak} {m = held_bytes} above in
              subst (IsInOverlap new.pieces.items) (sym same) (subst (λ (l : List Piece). IsInOverlap l old.peak) (sym pieces) was.overlap)
        ];
      }

  pub walk_loads : WalkStands files new (texts ++ text ∷ []) given
  walk_loads =
      let fresh = loads.fresh in
      let next = loads.next in
      record {
        next = (let within = at_within old.pieces.items old.next loads.piece loads.at in omega (arith, next, within, ap length pieces));
        taken = taken_new;
        order = subst PiecesInOrder (sym pieces) stands.order;
        queues = subst (QueuesStand given) (sym maps) (queues_more given (map turns_left old.cursors.items) (turns_left loads.cursor) stands.queues
            (subst (AllPairs TurnBefore) (sym left_is) (turns_rise loads.piece loads.cursor.heads.items fresh.rise)) behind);
        all = subst (λ (l : List Turn). GivenOrLeft l given (map turns_left new.cursors.items)) (sym joined) (subst (GivenOrLeft (turns_of texts ++ turns_in text) given) (sym maps)
            (all_more (turns_of texts) given (map turns_left old.cursors.items) (turns_left loads.cursor) (turns_in text) stands.all
            (λ u has. mapped_moved loads.piece loads.cursor.heads.items (heads_in loads.bytes) u (IsPermutation-sym (heads_in loads.bytes) loads.cursor.heads.items fresh.same) (subst (λ (l : List Turn). Has l u) left_is has))
            (λ u has. subst (λ (l : List Turn). Has l u) (sym left_is) (mapped_moved loads.piece (heads_in loads.bytes) loads.cursor.heads.items u fresh.same has))));
        apart = differ;
        early = λ g p has_g has_p. stands.early g p has_g (later p has_p);
        left = λ k c at other. left_more files old new left loads k c at;
        held = held_all;
        few = few_new;
        many = many_new;
        peak = peak_new;
        most = most_new;
      }
