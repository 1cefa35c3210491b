-- How a walk stands when a piece goes.
use Rattle.std.proofs.Common.{◌≡◌, ℕ, ◌≤◌, List, [], length, take, drop, map, get_or, sym, ap, subst, inl, inr, ◌∙◌, arith}
use Rattle.std.specs.List.{AllZip, remove, sum_by}
use Rattle.std.proofs.Math.ListN.{drop_of_length-le}
use Rattle.std.proofs.lemmas.List.Sums.{sum_by-remove}
use Rattle.mcap_model.specs.Places.{At, Has, Each}
use Rattle.mcap_model.proofs.Places.{at_none, at_one, at_within, at_read}
use Rattle.mcap_model.proofs.Flat.{at_mapped}
use Rattle.mcap_model.proofs.NamedTopics.{unmapped, zip_front, zip_back}
use Rattle.mcap_scan.specs.Heads.{heads_in}
use Rattle.merge_walk.specs.declared.window.Loaded.{Loaded}
use Rattle.merge_walk.specs.Parts.{bytes_in, IsPartAt, Releases}
use Rattle.merge_walk.specs.Windows.{loaded_in}
use Rattle.merge_walk.specs.declared.turns.Turn.{Turn}
use Rattle.merge_walk.specs.declared.pieces.Piece.{Piece}
use Rattle.merge_walk.specs.declared.cursors.Cursor.{Cursor}
use Rattle.merge_walk.specs.declared.walk.Walk.{Walk}
use Rattle.merge_walk.specs.Pieces.{InputBytes, PiecesInOrder, IsInOverlap, IsMostHeld}
use Rattle.merge_walk.specs.Cursors.{turn_of, turns_left, HasLeft}
use Rattle.merge_walk.specs.Walks.{pieces_loaded, Text, piece_text, turns_in, turns_of, IsTextOf, QueuesStand, GivenOrLeft, Apart, LeftButLast, AllLeft, IsHeldAs, WasGiven, ReachesEnd, WalkStands, StandsBehindSome, LastGoes, LetsPieceGo}
use Rattle.merge_walk.proofs.Held.{has_flat}
use Rattle.merge_walk.proofs.Places.{map_removed, StoodAt, removed_from, stood_apart}
use Rattle.merge_walk.proofs.Ordered.{which}
use Rattle.merge_walk.proofs.Queues.{queues_less, all_less}
use Rattle.merge_walk.proofs.Summed.{sum_less}
use Rattle.merge_walk.proofs.Zipped.{zip_removed}

nothing_left : (c : Cursor) → length c.heads.items ≤ c.given → turns_left c ≡ []
nothing_left c over = ap (map (turn_of c.piece)) (drop_of_length-le c.heads.items over)

module _ (files : InputBytes) (old new : Walk) (texts : List Text) (given : List Turn) (stands : WalkStands files old texts given) (lets : LetsPieceGo old new) where
  same_pieces : new.pieces.items ≡ old.pieces.items
  same_pieces = ap (λ v. v.items) lets.pieces

  same_loaded : pieces_loaded new ≡ pieces_loaded old
  same_loaded = ap (take new.next) same_pieces ∙ ap (λ (n : ℕ). take n old.pieces.items) lets.next

  -- what goes from the cursors, and from the window
  pub record Leaves (cursors : List Cursor) (loaded : List Loaded) : Type 0 where
    pub queues : QueuesStand given (map turns_left cursors)
    pub all : GivenOrLeft (turns_of texts) given (map turns_left cursors)
    pub apart : (i j : ℕ) (c d : Cursor) → (i ≡ j → ⊥) → At cursors i c → At cursors j d → Apart c d
    pub held : AllZip (IsHeldAs (pieces_loaded old) texts) cursors loaded
    pub few : (f : Piece → ℕ) → sum_by (λ c. f c.piece) cursors ≤ sum_by f (pieces_loaded old)
    pub many : (f : Piece → ℕ) → Each (λ x. WasGiven given x → f x.piece ≡ 0) texts → sum_by f (pieces_loaded old) ≤ sum_by (λ c. f c.piece) cursors
    pub now : bytes_in loaded ≤ old.peak

  with_cursors : (cursors : List Cursor) (loaded : List Loaded) → new.cursors.items ≡ cursors → loaded_in new.window ≡ loaded → Leaves cursors loaded → WalkStands files new texts given
  with_cursors cursors loaded is window leaves =
      let next = lets.next in
      let was = stands.peak in
      record {
        next = (let within = stands.next in omega (arith, next, within, ap length same_pieces));
        taken = subst (λ (l : List Piece). AllZip (IsTextOf files) l texts) (sym same_loaded) stands.taken;
        order = subst PiecesInOrder (sym same_pieces) stands.order;
        queues = subst (λ (l : List Cursor). QueuesStand given (map turns_left l)) (sym is) leaves.queues;
        all = subst (λ (l : List Cursor). GivenOrLeft (turns_of texts) given (map turns_left l)) (sym is) leaves.all;
        apart = λ i j c d other at_c at_d. leaves.apart i j c d other (subst (λ (l : List Cursor). At l i c) is at_c) (subst (λ (l : List Cursor). At l j d) is at_d);
        early = λ g p has_g has_p. stands.early g p has_g (has_p.0, subst (λ (l : List Piece). At l has_p.0 p) (ap (drop new.next) same_pieces ∙ ap (λ (n : ℕ). drop n old.pieces.items) next) has_p.1);
        left = λ k c at other. lets.left k c at;
        held =
            subst (λ (ps : List Piece). AllZip (IsHeldAs ps texts) new.cursors.items (loaded_in new.window)) (sym same_loaded)
            (subst (λ (cs : List Cursor). AllZip (IsHeldAs (pieces_loaded old) texts) cs (loaded_in new.window)) (sym is)
            (subst (AllZip (IsHeldAs (pieces_loaded old) texts) cursors) (sym window) leaves.held));
        few = λ f. subst (λ (cs : List Cursor). sum_by (λ (c : Cursor). f c.piece) cs ≤ sum_by f (pieces_loaded new)) (sym is)
            (subst (λ (ps : List Piece). sum_by (λ (c : Cursor). f c.piece) cursors ≤ sum_by f ps) (sym same_loaded) (leaves.few f));
        many = λ f over. subst (λ (cs : List Cursor). sum_by f (pieces_loaded new) ≤ sum_by (λ (c : Cursor). f c.piece) cs) (sym is)
            (subst (λ (ps : List Piece). sum_by f ps ≤ sum_by (λ (c : Cursor). f c.piece) cursors) (sym same_loaded) (leaves.many f over));
        most = λ reach.
            subst (λ (l : List Piece). IsMostHeld l new.next new.peak) (sym same_pieces)
            (subst (λ (n : ℕ). IsMostHeld old.pieces.items n new.peak) (sym next)
            (subst (IsMostHeld old.pieces.items old.next) (sym lets.peak) (stands.most (subst (Each (ReachesEnd files)) same_pieces reach))));
        peak = record {
          each = λ n p at. (let fits = was.each n p (subst (λ (l : List Piece). At l n p) same_loaded at) in let is = lets.peak in omega (arith, fits, is));
          now = (let fits = leaves.now in let same = ap bytes_in window in let is = lets.peak in omega (arith, fits, same, is));
          overlap = subst (λ (n : ℕ). IsInOverlap new.pieces.items n) (sym lets.peak) (subst (λ (l : List Piece). IsInOverlap l old.peak) (sym same_pieces) was.overlap);
        };
      }

  -- all messages of the piece that goes were given
  last_given : (goes : LastGoes old new) (l : Loaded) → IsHeldAs (pieces_loaded old) texts goes.cursor l → WasGiven given (piece_text goes.cursor.piece l.bytes)
  last_given goes l held t has = elim (stands.all.all t (has_flat turns_in texts (piece_text goes.cursor.piece l.bytes) t held.text has)) [
    | inl done ↦ done
    | inr (q, has_q, has_t) ↦
        let (d, at_d, of) = unmapped turns_left old.cursors.items has_q.0 q has_q.1 in
        let (e, at_e, mine) = unmapped (turn_of goes.cursor.piece) (heads_in l.bytes) has.0 t has.1 in
        let there : At (turns_left d) has_t.0 t = subst (λ (r : List Turn). At r has_t.0 t) (sym of) has_t.1 in
        let (h, at_h, theirs) = unmapped (turn_of d.piece) (drop d.given d.heads.items) has_t.0 t there in
        elim (which has_q.0 old.last) [
          | inl less ↦ absurd (other goes d t has_q.0 (λ same. omega (arith, same, less)) at_d (ap (λ (x : Turn). x.input) theirs ∙ sym (ap (λ (x : Turn). x.input) mine)) (ap (λ (x : Turn). x.at) theirs ∙ sym (ap (λ (x : Turn). x.at) mine)))
          | inr (inr more) ↦ absurd (other goes d t has_q.0 (λ same. omega (arith, same, more)) at_d (ap (λ (x : Turn). x.input) theirs ∙ sym (ap (λ (x : Turn). x.input) mine)) (ap (λ (x : Turn). x.at) theirs ∙ sym (ap (λ (x : Turn). x.at) mine)))
          | inr (inl same) ↦
              let here : d ≡ goes.cursor = at_one old.cursors.items old.last d goes.cursor (subst (λ (n : ℕ). At old.cursors.items n d) same at_d) goes.at in
              let empty : turns_left d ≡ [] = ap turns_left here ∙ nothing_left goes.cursor goes.over in
              absurd (at_none has_t.0 t (subst (λ (r : List Turn). At r has_t.0 t) empty there))
        ]
  ]
    where
      other : (gone : LastGoes old new) (d : Cursor) (u : Turn) (k : ℕ) → (k ≡ old.last → ⊥) → At old.cursors.items k d → d.piece.input ≡ gone.cursor.piece.input → d.piece.span.at ≡ gone.cursor.piece.span.at → ⊥
      other gone d u k apart at input place = stands.apart k old.last d gone.cursor apart at gone.at (input, place)

  last_leaves : (goes : LastGoes old new) → Leaves (remove old.cursors.items old.last) (remove (loaded_in old.window) old.last)
  last_leaves goes =
      let c = goes.cursor in
      let cut = map_removed turns_left old.cursors.items old.last in
      let empty : At (map turns_left old.cursors.items) old.last [] = subst (λ (q : List Turn). At (map turns_left old.cursors.items) old.last q) (nothing_left c goes.over) (at_mapped turns_left old.cursors.items old.last c goes.at) in
      let (l, at_l, held) = zip_front (IsHeldAs (pieces_loaded old) texts) old.cursors.items (loaded_in old.window) old.last c stands.held goes.at in
      record {
        queues = subst (QueuesStand given) (sym cut) (queues_less given (map turns_left old.cursors.items) old.last stands.queues);
        all = subst (GivenOrLeft (turns_of texts) given) (sym cut) (all_less (turns_of texts) given (map turns_left old.cursors.items) old.last stands.all empty);
        apart = λ i j x y other at_x at_y.
            let (m, there_x, stood_x) = removed_from old.cursors.items old.last i x at_x in
            let (n, there_y, stood_y) = removed_from old.cursors.items old.last j y at_y in
            stands.apart m n x y (λ same. other (stood_apart old.last i j m n stood_x stood_y same)) there_x there_y;
        held = zip_removed (IsHeldAs (pieces_loaded old) texts) old.cursors.items (loaded_in old.window) old.last stands.held;
        few = λ f. (let less = sum_less (λ (d : Cursor). f d.piece) old.cursors.items old.last c goes.at in let was = stands.few f in omega (arith, less, was));
        many = λ f over. (
            let zero_is : f c.piece ≡ 0 = over held.text.0 (piece_text c.piece l.bytes) held.text.1 (last_given goes l held) in
            let all = sum_by-remove (λ (d : Cursor). f d.piece) old.cursors.items old.last c (at_within old.cursors.items old.last c goes.at) in
            let read : f (get_or old.cursors.items old.last c).piece ≡ f c.piece = ap (λ (d : Cursor). f d.piece) (at_one old.cursors.items old.last (get_or old.cursors.items old.last c) c (at_read old.cursors.items old.last c (at_within old.cursors.items old.last c goes.at)) goes.at) in
            let was = stands.many f over in
            omega (arith, zero_is, all, read, was)
            );
        now = (let less = sum_less (λ (m : Loaded). length m.bytes) (loaded_in old.window) old.last l at_l in let was = stands.peak.now in omega (arith, less, was));
      }

  none_leaves : Leaves old.cursors.items (loaded_in old.window)
  none_leaves = record {
    queues = stands.queues;
    all = stands.all;
    apart = stands.apart;
    held = stands.held;
    few = stands.few;
    many = stands.many;
    now = stands.peak.now;
  }

  pub walk_lets_go : WalkStands files new texts given
  walk_lets_go = elim lets.goes [
    | inl none ↦ with_cursors old.cursors.items (loaded_in old.window) none.cursors none.loaded none_leaves
    | inr goes ↦ with_cursors (remove old.cursors.items old.last) (remove (loaded_in old.window) old.last) goes.cursors goes.loaded (last_leaves goes)
  ]

-- ---- what is let go

-- the part that goes is that of the cursor
pub released_last : (files : InputBytes) (w : Walk) (c : Cursor) (now : List Loaded) → StandsBehindSome files w → At w.cursors.items w.last c → Releases c.piece.input c.piece.span.at (loaded_in w.window) now → now ≡ remove (loaded_in w.window) w.last
released_last files w c now (texts, given, stands) at (i, l, at_l, begins, is) =
    let (d, at_d, held) = zip_back (IsHeldAs (pieces_loaded w) texts) w.cursors.items (loaded_in w.window) i l stands.held at_l in
    let mine = held.begins in
    let same : i ≡ w.last = (elim (which i w.last) [
      | inl less ↦ absurd (stands.apart i w.last d c (λ e. omega (arith, e, less)) at_d at (sym mine.0 ∙ begins.0, sym mine.1 ∙ begins.1))
      | inr (inl e) ↦ e
      | inr (inr more) ↦ absurd (stands.apart i w.last d c (λ e. omega (arith, e, more)) at_d at (sym mine.0 ∙ begins.0, sym mine.1 ∙ begins.1))
    ]) in
    is ∙ ap (remove (loaded_in w.window)) same

-- the part of a cursor is loaded
pub loaded_at : (files : InputBytes) (w : Walk) (k : ℕ) (c : Cursor) → StandsBehindSome files w → At w.cursors.items k c → (l : Loaded) × Has (loaded_in w.window) l × IsPartAt c.piece.input c.piece.span.at l
loaded_at files w k c (texts, given, stands) at =
    let (l, at_l, held) = zip_front (IsHeldAs (pieces_loaded w) texts) w.cursors.items (loaded_in w.window) k c stands.held at in
    (l, (k, at_l), held.begins)

pub left_but_last : (files : InputBytes) (w : Walk) → StandsBehindSome files w → LeftButLast w
left_but_last files w (texts, given, stands) = stands.left

-- nothing has to go
pub stays_left : (w : Walk) (c : Cursor) → At w.cursors.items w.last c → (length c.heads.items ≤ c.given → ⊥) → LeftButLast w → AllLeft w
stays_left w c at some left k d at_d = elim (which k w.last) [
  | inl less ↦ left k d at_d (λ e. omega (arith, e, less))
  | inr (inr more) ↦ left k d at_d (λ e. omega (arith, e, more))
  | inr (inl same) ↦
      let here : d ≡ c = at_one w.cursors.items w.last d c (subst (λ (n : ℕ). At w.cursors.items n d) same at_d) at in
      subst HasLeft (sym here) (below c some)
]
  where
    below : (x : Cursor) → (length x.heads.items ≤ x.given → ⊥) → HasLeft x
    below x over = elim (which x.given (length x.heads.items)) [
      | inl less ↦ less
      | inr (inl same) ↦ absurd (over (omega (arith, same)))
      | inr (inr more) ↦ absurd (over (omega (arith, more)))
    ]

-- the last one has gone
pub gone_left : (cursors : List Cursor) (last : ℕ) → ((k : ℕ) (c : Cursor) → At cursors k c → (k ≡ last → ⊥) → HasLeft c) → Each HasLeft (remove cursors last)
gone_left cursors last left n c at =
    let (m, there, stood) = removed_from cursors last n c at in
    left m c there (λ e. by m stood e)
  where
    by : (m : ℕ) → StoodAt last n m → m ≡ last → ⊥
    by m (inl below) e = omega (arith, below.0, below.1, e)
    by m (inr above) e = omega (arith, above.0, above.1, e)

-- no cursor is the last
pub past_left : (w : Walk) → length w.cursors.items ≤ w.last → LeftButLast w → AllLeft w
past_left w past left k c at = left k c at (λ e. let within = at_within w.cursors.items k c at in omega (arith, e, past, within))
